use Rattle.std.proofs.Common.{ℕ, ◌<◌, [], get_or}
use Rattle.query_gate.specs.Leaving.{HaveJoined, IsWithin, LeavesFor}
use Rattle.query_gate.proofs.leaving.leaving_times.Given as goal

abbrev pub invariant-loop-origin : goal.invariant-loop-origin
invariant-loop-origin g l = HaveJoined (λ n. (k : ℕ) × (k < l.origin-index) × (IsWithin l.window n × LeavesFor l.table (get_or l.origin-items k 0) n)) [] l.times.items
