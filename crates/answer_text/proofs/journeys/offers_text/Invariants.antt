use Rattle.std.proofs.Common.{◌≡◌, ◌++◌, take, flat_map}
use Rattle.answer_text.specs.Journeys.{offer_text}
use Rattle.answer_text.proofs.journeys.offers_text.Given as goal

abbrev pub invariant-loop-offer : goal.invariant-loop-offer
invariant-loop-offer l = l.text ≡ l.initial.text ++ flat_map (offer_text l.table) (take l.offer-index l.offers)
