-- How many trips a timetable may have, and how many events.
use Rattle.std.specs.Prelude.{◌≡◌, ℕ, ◌-◌, ◌^◌, List, [], ◌∷◌, length, min, sum_by, nat_lt, Result}
use Rattle.tb_base.specs.TimetableData.{TripData}
use Rattle.gtfs_rows.specs.Faults.{fault_if, unless_wrong}
use Rattle.gtfs_rows.specs.declared.fault.FeedFault.{FeedFault}
use Rattle.gtfs_rows.specs.declared.fault.FeedFault.TheVariants as fault
use Rattle.gtfs_rows.specs.declared.fault.Many.TheVariants as many
use Rattle.service_trips.specs.declared.size.Size.{Size}

-- how many events trips have
abbrev pub event_count : List TripData → ℕ
event_count trips = sum_by (λ t. length (TripData.events t)) trips

-- the limits of trips and of their events
abbrev pub check_size : List TripData → Result (List TripData) FeedFault
check_size trips = unless_wrong
    (fault_if (nat_lt 500000 (length trips)) (fault.TooMany many.RunningTrips 0)
    ∷ fault_if (nat_lt 10000000 (event_count trips)) (fault.TooMany many.Events 0)
    ∷ []) trips

-- how many trips there are and how many events they have, each up to the last number of 64 bits
pub record IsSize (list : List TripData) (size : Size) : Type 0 where
  pub trips : size.trips ≡ min (length list) (2 ^ 64 - 1)
  pub events : size.events ≡ min (event_count list) (2 ^ 64 - 1)
