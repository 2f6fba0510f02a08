use Rattle.std.proofs.Common.{◌≤◌, ◌≤ℤ◌, ◌<ℤ◌}
use Rattle.std.specs.List.{AllWithin}
use Rattle.line_split.proofs.lines.count_earlier.Given as goal

abbrev pub invariant-loop-departure : goal.invariant-loop-departure
invariant-loop-departure l =
    (l.earlier ≤ l.departure-index)
    × AllWithin (λ x. x <ℤ l.time) l.departures 0 l.earlier
    × AllWithin (λ x. l.time ≤ℤ x) l.departures l.earlier l.departure-index
