-- What of a feed is read, but likely not meant.
use Rattle.std.specs.Prelude.{◌≡◌, ◌⊎◌, ℕ, ◌+◌, ◌==◌, ◌||◌, not, List, [], ◌∷◌, ◌++◌, flat_map, length, nat_lt, Bool, Result, Ok, Err, bytes_eq, if◌then◌else◌}
use Rattle.std.specs.List.{list_any}
use Rattle.tb_base.specs.TimetableData.{FootpathData}
use Rattle.tb_base.specs.Walking.{change_between}
use Rattle.gtfs_rows.specs.Steps.{and_then}
use Rattle.gtfs_rows.specs.StopsFile.{StopData}
use Rattle.gtfs_rows.specs.TripsFile as row
use Rattle.gtfs_rows.specs.TransfersFile.{TransferData}
use Rattle.gtfs_rows.specs.CalendarFile.{CalendarData}
use Rattle.gtfs_rows.specs.DatesFile.{DateData}
use Rattle.gtfs_rows.specs.declared.fault.FeedFault.{FeedFault}
use Rattle.service_day.specs.Running.{runs}
use Rattle.footpaths.specs.Footpaths.{Changes}
use Rattle.footpaths.specs.Links.{check_transfers}
use Rattle.footpaths.specs.Stops.{platforms}
use Rattle.footpaths.specs.declared.paths.Options.{Options}
use Rattle.foot_close.specs.Closing.{ClosureHas, IsCloseRefused, is_added, is_lowered, pair_count}
use Rattle.foot_close.specs.declared.closed.CloseFault.{CloseFault}
use Rattle.foot_close.specs.declared.closed.CloseFault.TheVariants as why
use Rattle.service_trips.specs.declared.frequency.TripFrequency.{TripFrequency}
use Rattle.service_trips.specs.declared.stop_time.StopTime.{StopTime}
use Rattle.trip_table.specs.Day.{IsWithinLimits, given_footpaths}
use Rattle.trip_table.specs.Feed.{Feed}
use Rattle.trip_table.specs.LeftFeed.{LeftData, feed_files, left_data, sized_all}
use Rattle.trip_table.specs.References.{Rows, ServiceData}
use Rattle.trip_table.specs.Sieves.{Sieved, and_look, silent}
use Rattle.trip_table.specs.declared.warning.Warning.{Warning}
use Rattle.trip_table.specs.declared.warning.Warning.TheVariants as warning

abbrev pub warn_if : Bool → Warning → List Warning
warn_if is w = if is then w ∷ [] else []

-- a row of calendar.txt or calendar_dates.txt has the service
abbrev pub is_named : ServiceData → List ℕ → Bool
is_named services id =
    list_any (λ c. bytes_eq id (CalendarData.service c)) services.calendar
    || list_any (λ d. bytes_eq id (DateData.service d)) services.dates

abbrev pub service_warning : ServiceData → row.TripData → List Warning
service_warning services t =
    warn_if (not (is_named services t.service)) (warning.UnknownService t.row)

-- a row of trips.txt has a service that runs on the day
abbrev pub has_trips : Rows → ℕ → Bool
has_trips rows day =
    list_any
    (λ t. runs day rows.services.calendar rows.services.dates (row.TripData.service t)) rows.trips

-- a stop time is at the platform of a number
abbrev pub is_served : List StopTime → ℕ → Bool
is_served times p = list_any (λ t. StopTime.stop t == p) times

-- of platforms of which the first has a number
abbrev pub stop_warnings : List StopTime → ℕ → List StopData → List Warning
stop_warnings times p [] = []
stop_warnings times p (s ∷ rest) =
    warn_if (not (is_served times p)) (warning.UnservedStop s.row)
    ++ stop_warnings times (p + 1) rest

-- more than a day from one start to the next
abbrev pub headway_warning : TripFrequency → List Warning
headway_warning f = warn_if (nat_lt 86400 f.headway) (warning.LongHeadway f.row)

abbrev pub counts_warning : ℕ → ℕ → List Warning
counts_warning added lowered =
    warn_if (nat_lt 0 added || nat_lt 0 lowered) (warning.Closing added lowered)

-- how many pairs get a change, and how many a faster one, where they are closed
abbrev pub closed_warning : FootpathData → Changes → List Warning
closed_warning given closed =
    counts_warning
    (pair_count (length given.change) (λ p q. is_added (change_between given p q) (closed p q)))
    (pair_count (length given.change) (λ p q. is_lowered (change_between given p q) (closed p q)))

-- of the closure, where it is within the limits; where closing is refused there is none
abbrev pub IsClosingWarning : FootpathData → List Warning → Type 0
IsClosingWarning given warnings =
    ClosureHas given (λ closed. IsWithinLimits given closed × (warnings ≡ closed_warning given closed))
    ⊎ ((cause : CloseFault) × (cause ≡ why.Memory → ⊥) × IsCloseRefused given cause
    × (warnings ≡ []))

-- there is none either where given footpaths are too many
abbrev pub IsGivenWarning : Result FootpathData FeedFault → List Warning → Type 0
IsGivenWarning (Ok given) warnings = IsClosingWarning given warnings
IsGivenWarning (Err f) warnings = warnings ≡ []

-- the change times and footpaths that are given by rows of transfers.txt and options
abbrev pub given_left : List StopData → Options → List TransferData →
    Result FootpathData FeedFault
given_left stops options transfers =
    and_then (check_transfers stops transfers) (given_footpaths stops options)

-- the warnings of what is left of a feed, in order: of trips, of the day, of stops, of footpaths, of
-- frequencies
pub record AreWarningsLeft (day : ℕ) (options : Options) (left : LeftData)
    (warnings : List Warning) : Type 0 where
  pub closing : List Warning
  pub closes : IsGivenWarning (given_left left.rows.stops options left.transfers) closing
  pub are : warnings
      ≡ flat_map (service_warning left.rows.services) left.rows.trips
      ++ warn_if (not (has_trips left.rows day)) warning.NoTrips
      ++ stop_warnings left.rows.times 0 (platforms left.rows.stops) ++ closing
      ++ flat_map headway_warning left.frequencies

-- where a fault ends what is left there is none
abbrev pub AreWarningsIf : ℕ → Options → Result LeftData FeedFault → List Warning → Type 0
AreWarningsIf day options (Ok left) warnings = AreWarningsLeft day options left warnings
AreWarningsIf day options (Err f) warnings = warnings ≡ []

abbrev pub AreWarningsOf : Feed → ℕ → Options → List Warning → Type 0
AreWarningsOf feed day options =
    AreWarningsIf day options (Sieved.end (and_look (silent (sized_all feed feed_files)) left_data))
