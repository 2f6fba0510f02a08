use Rattle.std.proofs.Common.{◌≡◌, ℕ, ◌≤◌, List, length, take, drop}
use Rattle.tb_base.specs.TimetableData.{events_of}
use Rattle.tb_base.specs.Transfers.{candidates_without_u_turns, transfers_of}
use Rattle.transfer_reduce.specs.Tried.{AreTried}
use Rattle.transfer_reduce.specs.Reduced.{IsReducedTo, rows_below}
use Rattle.transfer_reduce.proofs.reduction.reduce.Given as goal

abbrev pub invariant-loop-done : goal.invariant-loop-done
invariant-loop-done l = record {
  labels : l.labels.table ≡ l.table;
  tried : AreTried l.table l.labels.times l.tried;
  inside : l.done.at ≤ length (events_of l.table l.trip);
  taken : l.done.taken ≤ length l.rows.items;
  kept : l.done.kept ≤ l.done.taken;
  reduced : (lines : List (List ℕ)) → l.initial.rows.items ≡ transfers_of l.table (candidates_without_u_turns l.table lines l.trip) l.trip →
      IsReducedTo l.table lines l.trip l.done.at (take l.done.kept l.rows.items) l.labels.times × (drop l.done.taken l.rows.items ≡ rows_below l.table lines l.trip l.done.at);
}

abbrev pub decreases-loop-done : goal.decreases-loop-done
decreases-loop-done l = l.done.at
