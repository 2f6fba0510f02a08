-- What is wrong with the trips of a timetable, one thing after another.
use Rattle.std.proofs.Common.{◌≡◌, ◌∙◌, ap, List}
use Rattle.std.specs.Prelude.{Result, Ok, Err}
use Rattle.tb_base.specs.TimetableData.{TripData}
use Rattle.gtfs_rows.specs.Steps.{and_then}
use Rattle.gtfs_rows.specs.declared.fault.FeedFault.{FeedFault}
use Rattle.service_trips.specs.declared.frequency.TripFrequency.{TripFrequency}
use Rattle.service_trips.specs.ServiceDay.{FeedTrips}
use Rattle.service_trips.specs.TimetableTrips.{DayRunsData, timetable_trips}
use Rattle.service_trips.specs.Sizes.{check_size}
use Rattle.service_trips.specs.Limits.{check_frequencies, checked_trips}

after : (feed : FeedTrips) (days : List DayRunsData) (r : Result (List TripFrequency) FeedFault) → check_frequencies feed ≡ r → checked_trips feed days ≡ and_then r (λ _. check_size (timetable_trips feed days))
unfolding checked_trips
after feed days r e = ap (λ (r : Result (List TripFrequency) FeedFault). and_then r (λ _. check_size (timetable_trips feed days))) e

pub beyond_meant : (feed : FeedTrips) (days : List DayRunsData) (f : FeedFault) → check_frequencies feed ≡ Err f → checked_trips feed days ≡ Err f
beyond_meant feed days f e = after feed days (Err f) e

pub size_meant : (feed : FeedTrips) (days : List DayRunsData) (r : Result (List TripData) FeedFault) → check_frequencies feed ≡ Ok feed.frequencies → check_size (timetable_trips feed days) ≡ r → checked_trips feed days ≡ r
size_meant feed days r e size = after feed days (Ok feed.frequencies) e ∙ size
