use Rattle.std.proofs.Common.{◌≡◌, ◌∙◌, ℕ, ◌+◌, ◌-◌, ◌<◌, ◌++◌, ◌∷◌, [], length, map, ap, sym, subst, arith}
use Rattle.std.proofs.lemmas.Grind.{common_steps}
use Rattle.tb_base.specs.OutSets.{hops_at, row_of}
use Rattle.tb_base.proofs.Listing.{row_is}
use Rattle.transfer_pack.specs.Packed.{runs_in}
use Rattle.transfer_pack.specs.Spots.{calls_beside, ends_in}
use Rattle.transfer_pack.proofs.Packing.{ArePacked, packed_all, rows_past, trip_packed}
use Rattle.transfer_pack.proofs.set.Set.build.Goals as goal

pub loop-t-preserved : goal.loop-t-preserved
loop-t-preserved c =
    let T = c.args.table.now in
    let rows = map (λ row. row.items) c.args.rows.now in
    let want = λ (t : ℕ). hops_at (row_of rows t) in
    let row = c.as_slice.result.now in
    let events = c.events-events.result.now in
    let inside : c.loop-t.t < length T.trips = rw (← c.trip_count-t-end.ensures) c.loop-t-test.true in
    let row_same = row_is (λ v. v.items) c.args.rows.now c.loop-t.t _ c.index-rows-t.result row c.requires.long inside c.index-rows-t.is c.as_slice.ensures.value in
    let long : c.len.result ≡ length c.add_trip.new.spots.items = grind (arith, common_steps) in
    let next = trip_packed T want c.loop-t.t c.loop-t.starts.items (hops_at row) events (c.len.result - 1) c.loop-t.hops c.add_trip.new.hops c.loop-t.spots.items c.add_trip.new.spots.items
    c.loop-t.invariant.bounds c.loop-t.invariant.packed c.in_ok-add_trip.ensures (λ i inside. ap (λ r. hops_at r i) row_same) c.events-events.ensures (ap (λ n. n - 1) long) in
    record {
      bounds = c.in_ok-add_trip.ensures.bounds;
      packed = subst (λ ss. ArePacked T want (c.loop-t.t + 1) ss (runs_in c.add_trip.new.hops (ends_in c.add_trip.new.spots.items)) (calls_beside c.add_trip.new.spots.items))
          (sym (c.in_ok-push-3.ensures.items ∙ ap (λ n. c.loop-t.starts.items ++ n ∷ []) c.in_ok-number.ensures)) next;
    }

pub returns-clause-hops : goal.returns-clause-hops
returns-clause-hops c =
    let T = c.args.table.now in
    let rows = map (λ row. row.items) c.args.rows.now in
    let want = λ (t : ℕ). hops_at (row_of rows t) in
    packed_all T want (record { table = c.of.result.value; starts = c.loop-t.starts.items; hops = c.loop-t.hops; bounds = ends_in c.loop-t.spots.items; runs = runs_in c.loop-t.hops (ends_in c.loop-t.spots.items) }) (calls_beside c.loop-t.spots.items) c.of.ensures
    (subst (λ n. ArePacked T want n c.loop-t.starts.items (runs_in c.loop-t.hops (ends_in c.loop-t.spots.items)) (calls_beside c.loop-t.spots.items)) (rw (← c.trip_count-t-end.ensures) (omega (arith, c.loop-t-test.false, c.loop-t.auto.t-end))) c.loop-t.invariant.packed)
    (rows_past T rows c.requires)
