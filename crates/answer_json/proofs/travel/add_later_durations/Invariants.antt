use Rattle.std.proofs.Common.{◌≡◌, ◌++◌, take}
use Rattle.answer_json.specs.Frames.{followers}
use Rattle.answer_json.specs.Travel.{duration_json}
use Rattle.answer_json.specs.declared.frame.Frame.TheVariants as frame
use Rattle.answer_json.proofs.travel.add_later_durations.Given as goal

abbrev pub invariant-loop-time : goal.invariant-loop-time
invariant-loop-time l = l.text ≡ l.fn.text ++ followers frame.Array duration_json (take l.time-index l.times)
