use Rattle.std.proofs.Common.{◌≡◌, ◌++◌, take}
use Rattle.answer_text.specs.Journeys.{legs_text}
use Rattle.answer_text.proofs.text.Text.legs.Given as goal

abbrev pub invariant-loop-leg : goal.invariant-loop-leg
invariant-loop-leg l = l.self ≡ l.fn.self ++ legs_text l.table (take l.leg-index l.legs)
