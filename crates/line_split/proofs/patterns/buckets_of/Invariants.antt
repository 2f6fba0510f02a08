use Rattle.std.proofs.Common.{◌≡◌, length, map}
use Rattle.std.specs.Prelude.{All, ◌<◌}
use Rattle.std.specs.List.{range_with_len}
use Rattle.tb_base.specs.TimetableData.{events_of}
use Rattle.line_split.specs.Patterns.{bucket_of}
use Rattle.line_split.proofs.patterns.buckets_of.Given as goal

abbrev pub invariant-loop-trip : goal.invariant-loop-trip
invariant-loop-trip l = record {
  buckets : l.buckets.items ≡ map (λ t. bucket_of (length l.table.trips) (events_of l.table t)) (range_with_len 0 l.trip);
  below : All (λ b. b < length l.table.trips) l.buckets.items;
}
