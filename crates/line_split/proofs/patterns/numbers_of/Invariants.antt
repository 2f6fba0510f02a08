use Rattle.std.proofs.Common.{◌≡◌, map, get_or}
use Rattle.std.specs.List.{range_with_len}
use Rattle.line_split.specs.Patterns.{number_of}
use Rattle.line_split.proofs.patterns.numbers_of.Given as goal

abbrev pub invariant-loop-trip : goal.invariant-loop-trip
invariant-loop-trip l = l.numbers.items ≡ map (λ t. number_of l.table l.first l.others (get_or l.buckets t 0) t) (range_with_len 0 l.trip)
