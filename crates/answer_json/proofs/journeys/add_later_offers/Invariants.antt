use Rattle.std.proofs.Common.{◌≡◌, ◌++◌, take}
use Rattle.answer_json.specs.Frames.{followers}
use Rattle.answer_json.specs.Journeys.{offer_json}
use Rattle.answer_json.proofs.journeys.add_later_offers.Given as goal

abbrev pub invariant-loop-offer : goal.invariant-loop-offer
invariant-loop-offer l = l.text ≡ l.fn.text ++ followers l.frame (offer_json l.table) (take l.offer-index l.offers)
