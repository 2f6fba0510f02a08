use Rattle.std.proofs.Common.{◌≡◌, ◌+◌, drop, length}
use Rattle.json.specs.Value.{items_view}
use Rattle.gtfs_rows.specs.Steps.{prepend}
use Rattle.journey_read.specs.JsonClaims.{json_legs}
use Rattle.journey_read.proofs.json_claim.json_legs.Given as goal

abbrev pub invariant-loop-at : goal.invariant-loop-at
invariant-loop-at l =
    (json_legs l.table 2 (items_view l.items) ≡ prepend l.legs.items (json_legs l.table (l.at + 2) (items_view (drop l.at l.items)))) × (length l.legs.items ≡ l.at)
