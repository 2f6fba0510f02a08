use Rattle.std.proofs.Common.{◌≡◌, ◌++◌, take}
use Rattle.answer_json.specs.Frames.{followers}
use Rattle.answer_json.specs.Journeys.{leg_json}
use Rattle.answer_json.specs.declared.frame.Frame.TheVariants as frame
use Rattle.answer_json.proofs.journeys.add_later_legs.Given as goal

abbrev pub invariant-loop-leg : goal.invariant-loop-leg
invariant-loop-leg l = l.text ≡ l.fn.text ++ followers frame.Array (leg_json l.table) (take l.leg-index l.legs)
