use Rattle.std.proofs.Common.{◌<◌, ℕ}
use Rattle.foot_close.specs.Shortest.{closure_of}
use Rattle.foot_close.specs.Closing.{IsNear}
use Rattle.foot_close.proofs.table.Table.first_far.Given as goal

abbrev pub invariant-loop-from : goal.invariant-loop-from
invariant-loop-from l = (a b : ℕ) → a < l.from → IsNear (closure_of l.self) a b
