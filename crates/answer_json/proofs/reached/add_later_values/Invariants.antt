use Rattle.std.proofs.Common.{◌≡◌, ◌++◌, take}
use Rattle.answer_json.specs.Frames.{followers}
use Rattle.answer_json.specs.Reached.{triple_json}
use Rattle.answer_json.specs.declared.frame.Frame.TheVariants as frame
use Rattle.answer_json.proofs.reached.add_later_values.Given as goal

abbrev pub invariant-loop-value : goal.invariant-loop-value
invariant-loop-value l = l.text ≡ l.fn.text ++ followers frame.Array triple_json (take l.value-index l.values)
