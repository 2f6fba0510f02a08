use Rattle.std.proofs.Common.{◌≡◌, map, take}
use Rattle.std.specs.Prelude.{All}
use Rattle.service_trips.specs.Starts.{IsGoodFrequency}
use Rattle.trip_table.specs.References.{numbered_frequency}
use Rattle.trip_table.proofs.frequencies.numbered_rows.Given as goal

abbrev pub invariant-loop-row : goal.invariant-loop-row
invariant-loop-row l = record {
  numbered : l.found.items ≡ map (numbered_frequency l.trips) (take l.row-index l.rows);
  good : All IsGoodFrequency l.found.items;
}
