use Rattle.std.proofs.Common.{◌≡◌, map, length}
use Rattle.std.specs.Prelude.{unwrap_or}
use Rattle.footpaths.specs.Stops.{station_of}
use Rattle.footpaths.specs.Footpaths.{numbers}
use Rattle.footpaths.proofs.linked_platforms.parent_keys.Given as goal

abbrev pub invariant-loop-stop : goal.invariant-loop-stop
invariant-loop-stop l = l.keys.items ≡ map (λ p. unwrap_or (station_of l.stops p) (length l.stops)) (numbers l.stop)
