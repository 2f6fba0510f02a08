use Rattle.std.proofs.Common.{◌≡◌, ℕ, ◌≤◌, ◌-◌, List, length}
use Rattle.tb_base.specs.declared.transfer.Transfer.{Transfer}
use Rattle.transfer_reduce.specs.Tried.{AreTried}
use Rattle.transfer_reduce.specs.Reduced.{Reduces}
use Rattle.transfer_reduce.proofs.reduction.take_rows.Given as goal

abbrev pub invariant-loop-labels : goal.invariant-loop-labels
invariant-loop-labels g l = record {
  labels : l.labels.table ≡ l.table;
  tried : AreTried l.table l.labels.times l.tried;
  at : l.next.at ≡ l.fn.done.at;
  taken : l.next.taken ≤ length l.rows;
  kept : l.next.kept ≤ l.next.taken;
  reduces : (lines : List (List ℕ)) (t n : ℕ) (before : List Transfer) → Reduces l.table lines t before l.initial.rows l.initial.labels.times n l.fn.done.at l.fn.done.taken l.fn.done.kept →
      Reduces l.table lines t before l.rows l.labels.times n l.next.at l.next.taken l.next.kept;
}

abbrev pub decreases-loop-labels : goal.decreases-loop-labels
decreases-loop-labels g l = length l.rows - l.next.taken
