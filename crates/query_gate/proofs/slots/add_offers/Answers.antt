use Rattle.std.proofs.Common.{◌≡◌, ◌∙◌, ℕ, ◌+◌, ◌<◌, ◌++◌, ◌∷◌, [], List, length, map, take, get_or, sym, ap, subst, append_assoc}
use Rattle.std.proofs.lemmas.List.{map_push, take_more}
use Rattle.tb_base.specs.declared.query.Slot.{Slot}
use Rattle.tb_base.specs.declared.query.Value.{Value}
use Rattle.tb_base.specs.BestValues.{QueryData}
use Rattle.tb_base.specs.Profiles.{OfferData}
use Rattle.segment_queue.specs.declared.desk.Hit.{Hit}
use Rattle.query_gate.specs.Slots.{slots_at}
use Rattle.query_gate.proofs.Offering.{slots_at-append}
use Rattle.query_gate.proofs.slots.add_offers.Goals as goal

pub loop-hit-preserved : goal.loop-hit-preserved
loop-hit-preserved c =
    let Q : QueryData = c.args.query.now in
    let hits : List Hit = c.args.desk.now.hits in
    let later : List Value = c.args.later.now in
    let i : ℕ = c.loop-hit.hit-index in
    let h : Hit = c.hit-item.result in
    let inside : i < length hits = subst (λ (xs : List Hit). i < length xs) c.hits-hit-items.ensures c.loop-hit-test.true in
    let here : h ≡ get_or hits i h = subst (λ (xs : List Hit). h ≡ get_or xs i h) c.hits-hit-items.ensures c.hit-item.is in
    let value : Hit → Value = λ x. x.value in
    let before : List Value = map value (take i hits) in
    let start : List Slot = map OfferData.slot c.args.offers.now.items in
    let more : map value (take (i + 1) hits) ≡ before ++ h.value ∷ []
    = ap (map value) (take_more hits i h inside) ∙ map_push value (take i hits) (get_or hits i h) ∙ ap (λ (x : Hit). before ++ x.value ∷ []) (sym here) in
    let inv = c.loop-hit.invariant in
    record {
      slots = c.in_ok-add_offer.ensures.slots
          ∙ ap (λ (ss : List Slot). ss ++ slots_at Q.leave later (h.value ∷ [])) inv.slots
          ∙ append_assoc start (slots_at Q.leave later before) (slots_at Q.leave later (h.value ∷ []))
          ∙ ap (λ (ss : List Slot). start ++ ss) (sym (slots_at-append Q.leave later before (h.value ∷ [])) ∙ ap (slots_at Q.leave later) (sym more));
      shown = λ hops uses old. c.in_ok-add_offer.ensures.shown hops uses (inv.shown hops uses old);
    }
