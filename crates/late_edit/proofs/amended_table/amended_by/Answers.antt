use Rattle.std.proofs.Common.{◌≤◌, ◌∙◌, None, sym, ap, subst, get_or, length}
use Rattle.std.specs.Prelude.{Ok}
use Rattle.std.proofs.lemmas.List.{get_or-map}
use Rattle.tb_base.specs.Soundness.{IsSound}
use Rattle.late_edit.specs.Amended.{trip_named}
use Rattle.late_edit.proofs.InTurn.{all_taken, parts_are, refused_here}
use Rattle.late_edit.proofs.AmendedTrips.{sound_amended}
use Rattle.late_edit.proofs.amended_table.amended_by.Goals as goal

pub apply-requires : goal.apply-requires
apply-requires c =
    let trips = c.args.table.now.trips in
    let us = c.args.updates.now in
    let k = c.loop-at.at in
    let u = c.index-updates-at.result in
    ap (λ ns. get_or ns k None) c.requires
    ∙ (get_or-map (trip_named trips) us k u None c.loop-at-test.true ∙ (ap (trip_named trips) (sym c.index-updates-at.is) ∙ sym (c.loop-at.invariant.named u)))

pub returns-in-Err-clause-table : goal.returns-in-Err-clause-table
returns-in-Err-clause-table c =
    refused_here c.args.table.now c.args.updates.now c.loop-at.trips c.loop-at.at c.loop-at.invariant.so_far c.in-Err.fault c.index-updates-at.result c.loop-at-test.true c.index-updates-at.is c.in-Err.ensures.updated

pub new-requires : goal.new-requires
new-requires c =
    let T = c.args.table.now in
    let updates = c.args.updates.now in
    let end : length updates ≤ c.loop-at.at = c.loop-at-test.false in
    let trips = c.into_trips-trips.result.items in
    let h = all_taken T updates c.loop-at.trips c.loop-at.at c.loop-at.invariant.so_far end ∙ ap (λ ts. Ok ts) (sym c.into_trips-trips.ensures) in
    subst IsSound (sym (parts_are T _ _ trips _ _ c.in_ok-copy_stops.ensures c.in_ok-copy_stations.ensures c.in_ok-copy_change_times.ensures c.in_ok-copy_paths.ensures)) (sound_amended T updates trips c.soundness.ensures h)
