use Rattle.std.proofs.Common.{ℕ, ◌<◌, get_or}
use Rattle.query_gate.specs.Leaving.{HaveJoined, IsWithin}
use Rattle.query_gate.proofs.FromOrigin.{LeavesBy, no_path}
use Rattle.query_gate.proofs.leaving.gather_from.Given as goal

abbrev pub invariant-loop-path : goal.invariant-loop-path
invariant-loop-path g l = HaveJoined (λ n. (k : ℕ) × (k < l.path-index) × (IsWithin l.window n × LeavesBy l.table (get_or l.path-items k no_path) n)) l.initial.times.items l.times.items
