-- The timetable by what is left, step by step.
use Rattle.std.proofs.Common.{◌≡◌, ◌∙◌, refl, sym, ap, subst, inr, ℕ, List, [], Option, true}
use Rattle.std.specs.Prelude.{Result, Ok, Err, is_some}
use Rattle.tb_base.specs.TimetableData.{TimetableData}
use Rattle.gtfs_rows.specs.LeftOut.{bearer}
use Rattle.gtfs_rows.specs.Refused.{AreRowsRefused}
use Rattle.gtfs_rows.specs.Steps.{and_then}
use Rattle.gtfs_rows.specs.TransfersFile.{TransferData}
use Rattle.gtfs_rows.specs.declared.fault.FeedFault.{FeedFault}
use Rattle.gtfs_rows.specs.declared.fault.RowsFault.{RowsFault}
use Rattle.gtfs_rows.specs.declared.fault.RowsFault.TheVariants as rows
use Rattle.footpaths.specs.Links.{check_transfers}
use Rattle.footpaths.specs.declared.paths.Options.{Options}
use Rattle.service_trips.specs.declared.frequency.TripFrequency.{TripFrequency}
use Rattle.trip_table.specs.Answers.{Gives, GivesRows, IsRowsFault}
use Rattle.trip_table.specs.Day.{IsTimetableOf, IsTimetableOfParts, Then, given_footpaths, parts_on}
use Rattle.trip_table.specs.Feed.{Feed}
use Rattle.trip_table.specs.LeftFeed.{IsLeft, IsLeftOf, IsLenientOf, IsTimetableLeft, LeftData, gone_trips, left_after_rows, left_frequencies, left_rows, left_services, left_stops, left_times, left_transfers, left_trips, text_at}
use Rattle.trip_table.specs.References.{Rows, ServiceData}
use Rattle.gtfs_rows.specs.StopsFile.{StopData}
use Rattle.gtfs_rows.specs.TripsFile as trip
use Rattle.trip_table.specs.Sieves.{EndsBy, Sieved, after, ended}
use Rattle.trip_table.specs.declared.day_fault.DayFault.{DayFault}
use Rattle.trip_table.specs.declared.day_fault.DayFault.TheVariants as why
use Rattle.trip_table.proofs.Looks.{follows, on, silently, stops}

-- the rows of transfers.txt are right
pub transfers_good : (day : ℕ) (options : Options) (left : LeftData) (result : Result TimetableData RowsFault) → check_transfers left.rows.stops left.transfers ≡ Ok left.transfers
    → GivesRows (Then (parts_on left.rows left.frequencies day options.horizon (given_footpaths left.rows.stops options left.transfers)) (IsTimetableOfParts options.close)) result → GivesRows (IsTimetableLeft day options left) result
transfers_good day options left result e h =
    subst
    (λ (m : Result (List TransferData) FeedFault).
    GivesRows (Then (and_then m (λ transfers. parts_on left.rows left.frequencies day options.horizon (given_footpaths left.rows.stops options transfers))) (IsTimetableOfParts options.close)) result) (sym e) h

-- they are refused
pub transfers_bad : (day : ℕ) (options : Options) (left : LeftData) (f : RowsFault) → AreRowsRefused (check_transfers left.rows.stops left.transfers) f → IsRowsFault (IsTimetableLeft day options left) f
transfers_bad day options left (rows.Feed f) e =
    subst
    (λ (m : Result (List TransferData) FeedFault).
    Then (and_then m (λ transfers. parts_on left.rows left.frequencies day options.horizon (given_footpaths left.rows.stops options transfers))) (IsTimetableOfParts options.close) (Err f)) (sym e) refl
transfers_bad day options left rows.Memory e = tt

by_end : (day : ℕ) (options : Options) (looked : Sieved LeftData) (end : Result LeftData FeedFault) (result : Result TimetableData FeedFault) → looked.end ≡ end → Then end (IsTimetableLeft day options) result → Then looked.end (IsTimetableLeft day options) result
by_end day options looked end result e h = subst (λ (end : Result LeftData FeedFault). Then end (IsTimetableLeft day options) result) (sym e) h

-- a fault ends a look
pub ends_left : (day : ℕ) (options : Options) (looked : Sieved LeftData) (before now : List FeedFault) (f : RowsFault) → EndsBy looked before now f → IsRowsFault (IsLeft day options looked before now) f
ends_left day options looked before now (rows.Feed f) e = (sym (ap (λ (s : Sieved LeftData). s.faults) e), by_end day options looked (Err f) (Err f) (ap (λ (s : Sieved LeftData). s.end) e) refl)
ends_left day options looked before now rows.Memory e = tt

-- what a look leaves gives a timetable, or a fault
pub gives_left : (day : ℕ) (options : Options) (looked : Sieved LeftData) (before now : List FeedFault) (left : LeftData) (result : Result TimetableData RowsFault) → after before looked ≡ ended now (Ok left) → GivesRows (IsTimetableLeft day options left) result
    → GivesRows (IsLeft day options looked before now) result
gives_left day options looked before now left (Ok T) e h = (sym (ap (λ (s : Sieved LeftData). s.faults) e), by_end day options looked (Ok left) (Ok T) (ap (λ (s : Sieved LeftData). s.end) e) h)
gives_left day options looked before now left (Err (rows.Feed f)) e h = (sym (ap (λ (s : Sieved LeftData). s.faults) e), by_end day options looked (Ok left) (Err f) (ap (λ (s : Sieved LeftData). s.end) e) h)
gives_left day options looked before now left (Err rows.Memory) e h = tt

-- the files after stop_times.txt
pub frequencies_end : (texts : List (Option (List ℕ))) (rows : Rows) (first second third : List FeedFault) (transfers : List TransferData) (f : RowsFault) → after first (left_transfers rows.stops (text_at texts 5)) ≡ ended second (Ok transfers)
    → EndsBy (left_frequencies rows (gone_trips rows.stops rows.trips (text_at texts 4)) (text_at texts 6)) second third f → EndsBy (left_after_rows texts rows) first third f
frequencies_end texts rows first second third transfers f e h =
    follows first second third (left_transfers rows.stops (text_at texts 5)) transfers _ f e (stops second third (left_frequencies rows (gone_trips rows.stops rows.trips (text_at texts 4)) (text_at texts 6)) _ f h)

pub frequencies_left : (texts : List (Option (List ℕ))) (rows : Rows) (first second third : List FeedFault) (transfers : List TransferData) (frequencies : List TripFrequency) → after first (left_transfers rows.stops (text_at texts 5)) ≡ ended second (Ok transfers)
    → after second (left_frequencies rows (gone_trips rows.stops rows.trips (text_at texts 4)) (text_at texts 6)) ≡ ended third (Ok frequencies) → after first (left_after_rows texts rows) ≡ ended third (Ok (record { rows = rows; transfers = transfers; frequencies = frequencies }))
frequencies_left texts rows first second third transfers frequencies e h =
    on first second (left_transfers rows.stops (text_at texts 5)) transfers _ e ∙ on second third (left_frequencies rows (gone_trips rows.stops rows.trips (text_at texts 4)) (text_at texts 6)) frequencies _ h
    ∙ silently third (Ok (record { rows = rows; transfers = transfers; frequencies = frequencies })) (Ok (record { rows = rows; transfers = transfers; frequencies = frequencies })) refl

-- the files up to trips.txt, and up to stop_times.txt
pub trips_end : (texts : List (Option (List ℕ))) (a b c d : List FeedFault) (stop_rows : List StopData) (services : ServiceData) (f : RowsFault) → after a (left_stops (text_at texts 0)) ≡ ended b (Ok stop_rows)
    → after b (left_services (text_at texts 1) (text_at texts 2)) ≡ ended c (Ok services) → EndsBy (left_trips (text_at texts 3)) c d f → EndsBy (left_rows texts) a d f
trips_end texts a b c d stop_rows services f e g h =
    follows a b d (left_stops (text_at texts 0)) stop_rows _ f e (follows b c d (left_services (text_at texts 1) (text_at texts 2)) services _ f g (stops c d (left_trips (text_at texts 3)) _ f h))

pub times_end : (texts : List (Option (List ℕ))) (a b c d e : List FeedFault) (stop_rows : List StopData) (services : ServiceData) (trips : List trip.TripData) (f : RowsFault) → after a (left_stops (text_at texts 0)) ≡ ended b (Ok stop_rows)
    → after b (left_services (text_at texts 1) (text_at texts 2)) ≡ ended c (Ok services) → after c (left_trips (text_at texts 3)) ≡ ended d (Ok trips) → EndsBy (left_times stop_rows trips (text_at texts 4)) d e f → EndsBy (left_rows texts) a e f
times_end texts a b c d e stop_rows services trips f p q r h =
    follows a b e (left_stops (text_at texts 0)) stop_rows _ f p
    (follows b c e (left_services (text_at texts 1) (text_at texts 2)) services _ f q (follows c d e (left_trips (text_at texts 3)) trips _ f r (stops d e (left_times stop_rows trips (text_at texts 4)) _ f h)))

-- what is left where a row bears the first fault
pub lenient_given : (feed : Feed) (day : ℕ) (options : Options) (faults : List FeedFault) (f : FeedFault) (result : Result TimetableData DayFault) → IsTimetableOf feed day options (Err f) → is_some (bearer f) ≡ true → Gives (IsLeftOf feed day options [] faults) result
    → Gives (IsLenientOf feed day options faults) result
lenient_given feed day options faults f (Ok T) strict borne h = inr (f, strict, borne, h)
lenient_given feed day options faults f (Err (why.Feed g)) strict borne h = inr (f, strict, borne, h)
lenient_given feed day options faults f (Err why.ReadFault) strict borne h = tt
lenient_given feed day options faults f (Err why.Memory) strict borne h = tt
