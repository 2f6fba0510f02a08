use Rattle.std.proofs.Common.{◌≡◌, ◌∙◌, ℕ, ◌+◌, ◌-◌, ◌<◌, ◌++◌, ◌∷◌, [], length, map, get_or, ap, sym, subst, arith, false}
use Rattle.std.specs.Prelude.{if◌then◌else◌}
use Rattle.std.proofs.lemmas.Grind.{common_steps}
use Rattle.tb_base.specs.OutSets.{hops_at}
use Rattle.tb_base.proofs.Listing.{row_is}
use Rattle.transfer_pack.specs.Packed.{hops_rebuilt, packed, runs_in}
use Rattle.transfer_pack.specs.Spots.{calls_beside, ends_in}
use Rattle.transfer_pack.proofs.Packing.{ArePacked, packed_all, rebuilt_past, trip_packed}
use Rattle.transfer_pack.proofs.set.Set.rebuild.Goals as goal

pub loop-t-preserved : goal.loop-t-preserved
loop-t-preserved c =
    let T = c.args.table.now in
    let rows = map (λ row. row.items) c.args.rows.now in
    let want = hops_rebuilt c.args.kept.now c.args.redone.now rows in
    let t = c.loop-t.t in
    let row = c.as_slice.result.now in
    let events = c.events-events.result.now in
    let inside : t < length T.trips = rw (← c.trip_count-t-end.ensures) c.loop-t-test.true in
    let row_same = row_is (λ v. v.items) c.args.rows.now t _ c.index-rows-t.result row c.requires.rows.long inside c.index-rows-t.is c.as_slice.ensures.value in
    let long : c.len-in-loop-t.result ≡ length c.add_rebuilt_trip.new.spots.items = grind (arith, common_steps) in
    let next = trip_packed T want t c.loop-t.starts.items (λ (i : ℕ). if get_or c.args.redone.now t false then hops_at row i else packed c.args.kept.now t i) events (c.len-in-loop-t.result - 1) c.loop-t.hops c.add_rebuilt_trip.new.hops c.loop-t.spots.items c.add_rebuilt_trip.new.spots.items
    c.loop-t.invariant.bounds c.loop-t.invariant.packed c.in_ok-add_rebuilt_trip.ensures (λ i inside. ap (λ r. if get_or c.args.redone.now t false then hops_at r i else packed c.args.kept.now t i) row_same) c.events-events.ensures (ap (λ n. n - 1) long) in
    record {
      bounds = c.in_ok-add_rebuilt_trip.ensures.bounds;
      packed = subst (λ ss. ArePacked T want (t + 1) ss (runs_in c.add_rebuilt_trip.new.hops (ends_in c.add_rebuilt_trip.new.spots.items)) (calls_beside c.add_rebuilt_trip.new.spots.items))
          (sym (c.in_ok-push-3.ensures.items ∙ ap (λ n. c.loop-t.starts.items ++ n ∷ []) c.in_ok-number.ensures)) next;
    }

pub returns-clause-hops : goal.returns-clause-hops
returns-clause-hops c =
    let T = c.args.table.now in
    let rows = map (λ row. row.items) c.args.rows.now in
    let want = hops_rebuilt c.args.kept.now c.args.redone.now rows in
    packed_all T want (record { table = c.of.result.value; starts = c.loop-t.starts.items; hops = c.loop-t.hops; bounds = ends_in c.loop-t.spots.items; runs = runs_in c.loop-t.hops (ends_in c.loop-t.spots.items) }) (calls_beside c.loop-t.spots.items) c.of.ensures
    (subst (λ n. ArePacked T want n c.loop-t.starts.items (runs_in c.loop-t.hops (ends_in c.loop-t.spots.items)) (calls_beside c.loop-t.spots.items)) (rw (← c.trip_count-t-end.ensures) (omega (arith, c.loop-t-test.false, c.loop-t.auto.t-end))) c.loop-t.invariant.packed)
    (rebuilt_past T c.args.kept.now c.args.redone.now rows c.requires.rows c.requires.events)
