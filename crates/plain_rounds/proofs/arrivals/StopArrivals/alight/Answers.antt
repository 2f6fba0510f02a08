use Rattle.std.proofs.Common.{◌≡◌, ◌<◌, length, List, Some, Bool, true, false, ap, sym, subst, ◌∙◌, refl, rules, arith, get_or, set, to_z, of_z, w32}
use Rattle.std.specs.Prelude.{not, All, FitsSigned, MatchBool}
use Rattle.std.proofs.lemmas.Grind.{common_steps}
use Rattle.std.proofs.lemmas.Int.{to_z-of_z}
use Rattle.std.proofs.lemmas.List.{get_or_read}
use Rattle.tb_base.specs.declared.table.Event.{Event}
use Rattle.tb_base.specs.TimetableData.{TripData, no_event, events_of, event_at}
use Rattle.tb_base.specs.Soundness.{IsSoundEvent}
use Rattle.plain_rounds.specs.Labels.{IsLaterAt, IsNoLaterAt}
use Rattle.plain_rounds.proofs.RideLemmas.{TakesRides-pushed}
use Rattle.plain_rounds.proofs.arrivals.StopArrivals.alight.Goals as goal

not_false : (b : Bool) → not b ≡ false → b ≡ true
not_false true e = refl
not_false false e = cc

pub returns-clause-takes : goal.returns-clause-takes
returns-clause-takes c =
    let T = c.args.table.now in
    let step = c.args.step in
    let event = c.index-events-step.result in
    let same : c.as_slice-events.result.now ≡ events_of T step.trip = c.as_slice-events.ensures.value ∙ ap (λ (t : TripData). t.events) c.behind-table.view_is ∙ c.trip.ensures.events in
    let inside : step.alight < length c.as_slice-events.result.now = subst (λ es. step.alight < length es) (sym same) c.requires.at in
    let here : event_at T step.trip step.alight ≡ event = ap (λ (es : List Event). get_or es step.alight no_event) (sym same) ∙ sym (get_or_read c.as_slice-events.result.now step.alight event inside c.index-events-step.is no_event) in
    let fits : FitsSigned w32 event.arr = search rules in
    let arr : to_z w32 (of_z w32 event.arr) ≡ event.arr = to_z-of_z w32 event.arr fits in
    let place : c.len-place.result ≡ length c.args.self.now.ridden.items = grind (arith, common_steps) in
    let sound : IsSoundEvent (length T.stops) (event_at T step.trip step.alight) = subst (λ es. All (IsSoundEvent (length T.stops)) es) c.trip.ensures.events c.trip.ensures.sound.events step.alight no_event c.requires.at in
    let stop_inside : event.stop < length c.args.self.now.labels.items = subst (λ n. event.stop < n) (sym c.requires.rows) (subst (λ (e : Event). e.stop < length T.stops) here sound.stop) in
    TakesRides-pushed T c.args.self.now _ step (record { time = to_z w32 (of_z w32 event.arr); ride = Some c.len-place.result }) event.stop
    (ap (λ i. set c.args.self.now.labels.items i (Some (record { time = to_z w32 (of_z w32 event.arr); ride = Some c.len-place.result }))) c.index.ensures)
    c.in_ok-push.ensures.items stop_inside
    (ap (λ n. Some n) place)
    (ap (λ (e : Event). e.stop) here)
    (ap (λ (e : Event). e.arr) here ∙ sym arr)
    (subst (λ xs. IsLaterAt xs event.stop (to_z w32 (of_z w32 event.arr))) c.as_slice.ensures.value
    (subst (λ b. MatchBool b (IsLaterAt c.as_slice.result.now event.stop (to_z w32 (of_z w32 event.arr))) (IsNoLaterAt c.as_slice.result.now event.stop (to_z w32 (of_z w32 event.arr)))) c.if-not-is_sooner.false c.is_sooner.ensures))
    (ap (λ (e : Event). e.alight) here ∙ not_false event.alight c.if-not-event.false)
