-- Legs that spell a journey have trips, stops and indices that exist.
use Rattle.std.proofs.Common.{List, [], ◌∷◌, None, Some, Option, arith, refl}
use Rattle.std.specs.Prelude.{All, ◌<◌, length}
use Rattle.std.proofs.lemmas.Int.{ints}
use Rattle.std.proofs.lemmas.List.Elements.{All-cons, All-weaker}
use Rattle.tb_base.specs.TimetableData.{TimetableData}
use Rattle.tb_base.specs.Soundness.{IsSound}
use Rattle.tb_base.specs.BestValues.{QueryData, ChoiceData, HasValue, value_of}
use Rattle.tb_base.specs.Journeys.{Journey, leaving_time}
use Rattle.tb_base.specs.JourneyRules.{SpellJourney, SpellSlot, KeepAllRules, HasNumbers}
use Rattle.tb_base.specs.Profiles.{OfferData, WindowData}
use Rattle.tb_base.specs.declared.query.Leg.{Leg}
use Rattle.tb_base.specs.declared.query.Slot.{Slot}
use Rattle.tb_base.specs.declared.rule.Rule.TheVariants.{BadNumber}
use Rattle.tb_laws.proofs.RuleLaws.{rules_from_journey}
use Rattle.plain_rounds.specs.Shown.{SpellShortest}

-- legs that keep all rules have numbers that exist
numbers_kept : (T : TimetableData) (Q : QueryData) (previous earlier : Option Leg) (legs : List Leg) → KeepAllRules T Q previous earlier legs → All (HasNumbers T) legs
numbers_kept T Q previous earlier [] keep = λ k d below. absurd (omega (arith, below))
numbers_kept T Q previous earlier (leg ∷ legs) keep = All-cons (HasNumbers T) leg legs (keep.0 BadNumber) (numbers_kept T Q (Some leg) previous legs keep.1)

numbers_spelt : (T : TimetableData) (Q : QueryData) → IsSound T → All (λ p. p < length T.stops) Q.from → (legs : List Leg) → SpellJourney T Q legs → All (HasNumbers T) legs
numbers_spelt T Q sound inside legs spelt = numbers_kept T Q None None legs (rules_from_journey T Q sound legs inside spelt).0

-- choices whose legs spell journeys have numbers that exist
pub numbers_of_choices : (T : TimetableData) (Q : QueryData) → IsSound T → All (λ p. p < length T.stops) Q.from → (cs : List ChoiceData) →
    All (λ c. SpellShortest T Q (ChoiceData.legs c) (ChoiceData.value c)) cs → All (λ c. All (HasNumbers T) (ChoiceData.legs c)) cs
numbers_of_choices T Q sound inside cs spelt =
    All-weaker (λ c. SpellShortest T Q (ChoiceData.legs c) (ChoiceData.value c)) (λ c. All (HasNumbers T) (ChoiceData.legs c))
    (λ c h. numbers_spelt T Q sound inside (ChoiceData.legs c) (ChoiceData.value c, record { by = h.by; has = h.has; spelt = h.spelt })) cs spelt

-- legs that spell a journey with a slot have numbers that exist
numbers_of_slot : (T : TimetableData) (W : WindowData) → IsSound T → All (λ p. p < length T.stops) W.from → (legs : List Leg) (slot : Slot) →
    SpellSlot T W legs slot → All (HasNumbers T) legs
numbers_of_slot T W sound inside legs slot spell =
    let leave = leaving_time T spell.by.origin spell.by.first in
    let by : Journey = record { origin = spell.by.origin; rides = spell.by.first ∷ spell.by.rest; target = spell.by.target } in
    let Q : QueryData = record { from = W.from; to = W.to; leave = leave } in
    let has : HasValue T Q by (value_of T leave by) = record { journey = spell.by.journey; leaves = omega (arith, ints); value = refl } in
    numbers_spelt T Q sound inside legs (value_of T leave by, record { by = by; has = has; spelt = spell.spelt })

-- the same of offers
pub numbers_of_offers : (T : TimetableData) (W : WindowData) → IsSound T → All (λ p. p < length T.stops) W.from → (os : List OfferData) →
    All (λ o. SpellSlot T W (OfferData.legs o) (OfferData.slot o)) os → All (λ o. All (HasNumbers T) (OfferData.legs o)) os
numbers_of_offers T W sound inside os spelt =
    All-weaker (λ o. SpellSlot T W (OfferData.legs o) (OfferData.slot o)) (λ o. All (HasNumbers T) (OfferData.legs o))
    (λ o h. numbers_of_slot T W sound inside (OfferData.legs o) (OfferData.slot o) h) os spelt
