use Rattle.std.proofs.Common.{rules, ◌≡◌, ◌∷◌, ◌++◌, [], subst}
use Rattle.std.specs.List.{list_any}
use Rattle.trip_table.specs.LeftFeed.{twins}
use Rattle.trip_table.specs.References.{same_key}
use Rattle.trip_table.specs.declared.seen.SequenceKey.{SequenceKey}
use Rattle.trip_table.proofs.TwinSteps.{IsNext, passes, stands_twice, keys_more}
use Rattle.trip_table.proofs.left_times.twins.Goals.{then-not-branch+in_ok-push, else-not-branch}
use Rattle.trip_table.proofs.left_times.twins.Goals as goal

pub loop-row-preserved : goal.loop-row-preserved
loop-row-preserved c =
    let rows = c.args.rows.now in
    let fresh = rw c.key_of.ensures at c.in_ok-add.ensures.fresh in
    let added = subst (λ q. (k : SequenceKey) → list_any (same_key k) c.add.new.self ≡ list_any (same_key k) (c.loop-row.seen ++ q ∷ [])) c.key_of.ensures c.in_ok-add.ensures.added in
    let next : IsNext c.loop-row.seen rows c.loop-row.row-index c.row-item.result c.in_ok-add.field-0 =
    record { keys = c.loop-row.invariant.keys; within = c.loop-row-test.true; here = c.row-item.is; told = fresh } in
    record {
      keys = keys_more _ c.add.new.self _ _ _ _ next added;
      found = elim c.if-not-branch.branch [
        | then-not-branch+in_ok-push w ↦ rw w.found-is (stands_twice _ _ _ _ _ (twins [] rows) c.loop-row.found.items w.push.new.self.items next (search rules) c.loop-row.invariant.found (rw w.spot-spot.ensures at w.in_ok-push.ensures.items))
        | else-not-branch w ↦ rw w.found-is (passes _ _ _ _ _ (twins [] rows) c.loop-row.found.items next (search rules) c.loop-row.invariant.found)
      ];
    }
