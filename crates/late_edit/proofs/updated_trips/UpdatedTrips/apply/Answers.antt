use Rattle.std.proofs.Common.{◌≡◌, ◌<◌, ◌∙◌, Some, sym, ap, subst, length}
use Rattle.std.specs.Prelude.{All}
use Rattle.std.proofs.lemmas.List.{with_items_is}
use Rattle.std.proofs.lemmas.List.Quantifiers.{position-Some}
use Rattle.tb_base.specs.TimetableData.{TripData, no_trip}
use Rattle.late_edit.specs.Amended.{is_named, trip_named}
use Rattle.late_edit.specs.Finding.{IsTimedEvent}
use Rattle.late_edit.specs.Updates.{day_of, trip_of}
use Rattle.late_edit.proofs.Finds.{named_set}
use Rattle.late_edit.proofs.AmendedTrips.{timed_set}
use Rattle.late_edit.proofs.NewEvents.{timed_after}
use Rattle.late_edit.proofs.updated_trips.UpdatedTrips.apply.Goals as goal

pub invariant_of-self : goal.invariant_of-self
invariant_of-self c =
    let trips = c.self.inside.trips.items in
    let u = c.args.update.now in
    let is = c.updated.view_is ∙ c.index_mut-updated.ensures.value in
    let named : trip_named c.self.inside.trips.items c.args.update.now ≡ Some c.in-Some.trip = ap (λ ts. trip_named ts u) c.self.view_is ∙ (sym c.requires ∙ c.in-Some.is) in
    let inside : c.in-Some.trip < length trips = (position-Some (is_named (day_of u) (trip_of u)) trips c.in-Some.trip no_trip named).0 in
    let events = subst (All IsTimedEvent) (sym (c.as_mut_slice.ensures.value ∙ ap (λ (t : TripData). t.events) is)) (c.self.invariant c.in-Some.trip c.index_mut-updated.result.now inside) in
    let timed = timed_after c.args.update.now c.as_mut_slice.result.now c.update_events.new.events c.update_events.result c.update_events.ensures.updated c.update_events.ensures.unchanged events in
    timed_set trips c.in-Some.trip _ c.update_events.new.events (with_items_is c.updated.inside.events c.update_events.new.events (c.update_events.auto.events ∙ c.as_mut_slice.ensures.len)) timed c.self.invariant

pub returns-clause-named : goal.returns-clause-named
returns-clause-named c = λ u.
    let trips = c.self.inside.trips.items in
    let is = c.updated.view_is ∙ c.index_mut-updated.ensures.value in
    named_set trips c.in-Some.trip _ c.index_mut-updated.result.now (ap (λ (t : TripData). t.name) is) (ap (λ (t : TripData). t.day) is) u
    ∙ ap (λ ts. trip_named ts u) c.self.view_is
