use Rattle.std.proofs.Common.{◌≡◌, ◌∙◌, ◌++◌, ◌∷◌, [], List, rules, sym, ap, subst, to_z, of_z, w32}
use Rattle.std.specs.Prelude.{All}
use Rattle.std.proofs.lemmas.Int.{to_z-of_z}
use Rattle.std.proofs.lemmas.List.Elements.{All-push}
use Rattle.tb_base.specs.BestValues.{QueryData}
use Rattle.tb_base.specs.Profiles.{OfferData}
use Rattle.segment_queue.specs.declared.desk.Hit.{Hit}
use Rattle.query_gate.specs.Slots.{IsShown}
use Rattle.query_gate.proofs.Offering.{hit_shown}
use Rattle.query_gate.proofs.slots.add_offer.Goals as goal

pub returns-clause-shown : goal.returns-clause-shown
returns-clause-shown c = λ hops uses shown.
    let T = c.args.table.now in
    let Q : QueryData = c.args.query.now in
    let h : Hit = c.args.hit.now in
    let legs = c.in_ok-legs.legs.items in
    let old : List OfferData = c.args.offers.now.items in
    let leave : to_z w32 (of_z w32 c.query.inside.leave) ≡ Q.leave = to_z-of_z w32 c.query.inside.leave (search rules) ∙ ap (λ (q : QueryData). q.leave) c.query.view_is in
    let arrive : to_z w32 (of_z w32 h.value.arrive) ≡ h.value.arrive = to_z-of_z w32 h.value.arrive (search rules) in
    let new : OfferData = record { slot = record { leave = to_z w32 (of_z w32 c.query.inside.leave); arrive = to_z w32 (of_z w32 h.value.arrive); rides = h.value.rides }; legs = legs } in
    let one : IsShown T Q.from Q.to hops new
    = subst (λ l. IsShown T Q.from Q.to hops (record { slot = record { leave = l; arrive = to_z w32 (of_z w32 h.value.arrive); rides = h.value.rides }; legs = legs })) (sym leave)
    (subst (λ a. IsShown T Q.from Q.to hops (record { slot = record { leave = Q.leave; arrive = a; rides = h.value.rides }; legs = legs })) (sym arrive)
    (hit_shown T Q c.args.desk.now.segments h legs hops c.in_ok-legs.ensures.journey (c.in_ok-legs.ensures.hops hops uses))) in
    let all : ◌≡◌ {A = List OfferData} c.push.new.self.items (old ++ new ∷ []) = c.in_ok-push.ensures.items in
    subst (λ (xs : List OfferData). All (IsShown T Q.from Q.to hops) xs) (sym all) (All-push (IsShown T Q.from Q.to hops) old new shown one)
