use Rattle.std.proofs.Common.{◌≡◌, length, map, take}
use Rattle.std.specs.Prelude.{All}
use Rattle.service_trips.specs.TimetableTrips.{DayRunsData}
use Rattle.trip_table.specs.Day.{runs_of}
use Rattle.trip_table.proofs.day_trips.runs_of_days.Given as goal

abbrev pub invariant-loop-day : goal.invariant-loop-day
invariant-loop-day l = record {
  runs : l.runs.items ≡ map (runs_of l.rows l.date) (take l.day-index l.days);
  long : All (λ d. length (DayRunsData.runs d) ≡ length l.rows.trips) l.runs.items;
}
