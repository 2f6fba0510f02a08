use Rattle.std.proofs.Common.{◌+◌, ◌≤◌, ◌≤ℤ◌, ◌<ℤ◌, length}
use Rattle.std.specs.List.{AllWithin}
use Rattle.line_split.proofs.lines.narrowed.Given as goal

abbrev pub invariant-loop-count : goal.invariant-loop-count
invariant-loop-count l =
    (l.from + l.count ≤ length l.departures)
    × AllWithin (λ x. x <ℤ l.time) l.departures 0 l.from
    × AllWithin (λ x. l.time ≤ℤ x) l.departures (l.from + l.count) (length l.departures)

abbrev pub decreases-loop-count : goal.decreases-loop-count
decreases-loop-count l = l.count
