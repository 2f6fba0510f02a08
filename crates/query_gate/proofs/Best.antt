-- An answered desk, turned into choices, holds the best choices of its query.
use Rattle.std.proofs.Common.{◌≡◌, ℕ, List, map, Result, Ok, Err, subst, sym}
use Rattle.std.specs.Prelude.{All, IfOk}
use Rattle.tb_base.specs.BestValues.{AreBestValues, ChoiceData, QueryData}
use Rattle.tb_base.specs.Network.{NetData}
use Rattle.tb_base.specs.JourneyRules.{SpellSlot}
use Rattle.tb_base.specs.Profiles.{IsProfile, OfferData, WindowData}
use Rattle.tb_base.specs.TimetableData.{TimetableData}
use Rattle.tb_base.specs.declared.query.Value.{Value}
use Rattle.tb_base.specs.declared.transfer.Hop.{Hop}
use Rattle.plain_rounds.specs.Shown.{SpellShortest}
use Rattle.segment_queue.specs.Queue.{DeskData}
use Rattle.segment_queue.specs.Traced.{IsAnswered, LegsFollow, UsesHops}
use Rattle.segment_queue.specs.declared.desk.Hit.{Hit}
use Rattle.query_gate.specs.Replies.{AreBestChoices, AreBestOffers}

pub best_of : (N : NetData) (T : TimetableData) → N.table ≡ T → (Q : QueryData) (D : DeskData) → IsAnswered N Q D → (cs : List ChoiceData) →
    map ChoiceData.value cs ≡ map (λ (h : Hit). h.value) D.hits →
    All (λ c. SpellShortest T Q (ChoiceData.legs c) (ChoiceData.value c)) cs →
    ((hops : ℕ → ℕ → List Hop) → UsesHops hops D.segments → All (λ c. LegsFollow hops (ChoiceData.legs c)) cs) →
    AreBestChoices N Q cs
best_of N T same Q D answered cs values walks hops = record {
  values = subst (λ (vs : List Value). AreBestValues N.table Q vs) (sym values) answered.best;
  journeys = subst (λ t. All (λ c. SpellShortest t Q (ChoiceData.legs c) (ChoiceData.value c)) cs) (sym same) walks;
  hops = hops N.hops answered.by_hops;
}

pub best_choices : (N : NetData) (T : TimetableData) → N.table ≡ T → (Q : QueryData) (D : DeskData) → IsAnswered N Q D →
    {A E : Type 0} (items : A → List ChoiceData) (r : Result A E) →
    IfOk r (λ cs. map ChoiceData.value (items cs) ≡ map (λ (h : Hit). h.value) D.hits) →
    IfOk r (λ cs. All (λ c. SpellShortest T Q (ChoiceData.legs c) (ChoiceData.value c)) (items cs)) →
    IfOk r (λ cs. (hops : ℕ → ℕ → List Hop) → UsesHops hops D.segments → All (λ c. LegsFollow hops (ChoiceData.legs c)) (items cs)) →
    IfOk r (λ cs. AreBestChoices N Q (items cs))
best_choices N T same Q D answered items (Ok cs) values walks hops = best_of N T same Q D answered (items cs) values walks hops
best_choices N T same Q D answered items (Err e) values walks hops = tt

-- Offers over a network, by a timetable that is known by another term, are the best offers.
pub offers_of : (N : NetData) (T : TimetableData) → T ≡ N.table → (W : WindowData) (os : List OfferData) →
    IsProfile T W (map OfferData.slot os) →
    All (λ o. SpellSlot T W (OfferData.legs o) (OfferData.slot o)) os →
    All (λ o. LegsFollow N.hops (OfferData.legs o)) os →
    AreBestOffers N W os
offers_of N T same W os slots journeys hops = record {
  slots = subst (λ t. IsProfile t W (map OfferData.slot os)) same slots;
  journeys = subst (λ t. All (λ o. SpellSlot t W (OfferData.legs o) (OfferData.slot o)) os) same journeys;
  hops = hops;
}
