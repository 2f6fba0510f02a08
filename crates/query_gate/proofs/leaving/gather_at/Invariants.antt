use Rattle.std.proofs.Common.{ℕ, ◌<◌}
use Rattle.query_gate.specs.Leaving.{HaveJoined}
use Rattle.query_gate.proofs.Gathering.{LeavesByLine}
use Rattle.query_gate.proofs.leaving.gather_at.Given as goal

abbrev pub invariant-loop-berth : goal.invariant-loop-berth
invariant-loop-berth g l = HaveJoined (λ n. (k : ℕ) × (k < l.berth) × LeavesByLine (g.S.Scan.net l.scan) l.window l.path k n) l.initial.times.items l.times.items
