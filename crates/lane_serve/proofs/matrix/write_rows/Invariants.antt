use Rattle.std.proofs.Common.{◌≡◌, ◌≤◌, ◌-◌, length, take, vec_len}
use Rattle.lane_serve.specs.Matrix.{HasRows}
use Rattle.lane_serve.proofs.matrix.write_rows.Given as goal

abbrev pub invariant-loop-from : goal.invariant-loop-from
invariant-loop-from g l =
    HasRows l.clerk.form l.clerk.edition.now.table l.clerk.asked (take l.from l.origins) (g.K.Sink.written l.fn.sink) (g.K.Sink.written l.sink)
    × (l.from ≤ length l.origins) × (vec_len l.desks ≡ vec_len l.fn.desks) × (g.K.Sink.faults l.sink ≡ g.K.Sink.faults l.fn.sink)

abbrev pub decreases-loop-from : goal.decreases-loop-from
decreases-loop-from g l = length l.origins - l.from
