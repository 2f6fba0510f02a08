use Rattle.std.proofs.Common.{◌≡◌, ◌-◌, ◌^◌, length, map, min, take}
use Rattle.std.specs.Prelude.{sum_by}
use Rattle.service_trips.specs.Starts.{frequency_at, starts_in}
use Rattle.service_trips.proofs.size.count_starts.Given as goal

abbrev pub invariant-loop-place : goal.invariant-loop-place
invariant-loop-place l = l.count ≡ min (sum_by (λ f. length (starts_in l.span f)) (map (frequency_at l.table.rows) (take l.place-index l.places))) (2 ^ 64 - 1)
