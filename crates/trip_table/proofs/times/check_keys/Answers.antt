use Rattle.std.proofs.Common.{◌≡◌, ◌∙◌, ◌++◌, ◌∷◌, [], subst}
use Rattle.std.specs.List.{list_any}
use Rattle.trip_table.specs.References.{same_key}
use Rattle.trip_table.specs.declared.seen.SequenceKey.{SequenceKey}
use Rattle.trip_table.proofs.NextTime.{IsNext, passes, stands_twice, keys_more}
use Rattle.trip_table.proofs.times.check_keys.Goals as goal

pub returns-in-Ok-false : goal.returns-in-Ok-false
returns-in-Ok-false c =
    let f = rw c.key_of.ensures at c.in-Ok-false.ensures.fresh in
    let next : IsNext c.args.stops.now c.args.trips.now c.loop-row.seen c.args.rows.now c.loop-row.row-index c.row-item.result c.in-Ok-false.field-0 =
    record { keys = c.loop-row.invariant.keys; within = c.loop-row-test.true; here = c.row-item.is; good = c.in-None.ensures; told = f } in
    rw c.spot-spot.ensures (c.loop-row.invariant.right ∙ stands_twice _ _ _ _ _ _ _ next c.in-Ok-false.field-0-test)

pub loop-row-preserved : goal.loop-row-preserved
loop-row-preserved c =
    let f = rw c.key_of.ensures at c.in-Ok-true.ensures.fresh in
    let added = subst (λ q. (k : SequenceKey) → list_any (same_key k) c.add.new.self ≡ list_any (same_key k) (c.loop-row.seen ++ q ∷ [])) c.key_of.ensures c.in-Ok-true.ensures.added in
    let next : IsNext c.args.stops.now c.args.trips.now c.loop-row.seen c.args.rows.now c.loop-row.row-index c.row-item.result c.in-Ok-true.field-0 =
    record { keys = c.loop-row.invariant.keys; within = c.loop-row-test.true; here = c.row-item.is; good = c.in-None.ensures; told = f } in
    record {
      keys = keys_more _ _ _ c.add.new.self _ _ _ _ next added;
      right = c.loop-row.invariant.right ∙ passes _ _ _ _ _ _ _ next c.in-Ok-true.field-0-test;
    }
