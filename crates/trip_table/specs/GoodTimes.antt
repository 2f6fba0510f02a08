-- What holds of stop times that name their trips and platforms by numbers.
use Rattle.std.specs.Prelude.{◌<◌, ◌≤◌, List, length, All}
use Rattle.gtfs_rows.specs.StopsFile.{StopData}
use Rattle.gtfs_rows.specs.TripsFile.{TripData}
use Rattle.footpaths.specs.Stops.{platforms}
use Rattle.service_trips.specs.declared.stop_time.StopTime.{StopTime}
use Rattle.service_trips.specs.StopTimes.{DifferWithinTrips}
use Rattle.service_trips.specs.Times.{HasFileTimes}

-- each names a trip and a platform that are there, has times of a file, and no two of a trip have
-- one number
pub record AreGoodTimes (stops : List StopData) (trips : List TripData) (times : List StopTime)
    : Type 0 where
  pub few : length times ≤ 20000000
  pub trip : All (λ r. StopTime.trip_row r < length trips) times
  pub stop : All (λ r. StopTime.stop r < length (platforms stops)) times
  pub given : All HasFileTimes times
  pub sequences : DifferWithinTrips times
