-- What is left of a feed, file by file in the order of reference, where bad rows are left out.
use Rattle.std.specs.Prelude.{◌≡◌, ◌⊎◌, ℕ, ◌==◌, not, List, [], ◌∷◌, ◌++◌, zero, suc, length, map, filter, set, get_or, replicate, slice_index_or, nat_lt, flat_map, Bool, true, false, Option, Some, None, option_map, option_to_list, unwrap_or, is_some, Result, Ok, Err, if◌then◌else◌}
use Rattle.std.specs.List.{list_any}
use Rattle.tb_base.specs.TimetableData.{TimetableData}
use Rattle.tb_base.specs.declared.table.Event.{Event}
use Rattle.gtfs_rows.specs.Steps.{and_then, prepend}
use Rattle.gtfs_rows.specs.Faults.{spot, fault_if, unless_wrong, check_rows}
use Rattle.gtfs_rows.specs.LeftOut.{bearer, IsUnborne}
use Rattle.gtfs_rows.specs.RawRows.{RawRow, cell}
use Rattle.gtfs_rows.specs.StopsFile.{StopData, stop_row}
use Rattle.gtfs_rows.specs.CalendarFile.{calendar_row}
use Rattle.gtfs_rows.specs.DatesFile.{date_row}
use Rattle.gtfs_rows.specs.TripsFile as trip
use Rattle.gtfs_rows.specs.TransfersFile.{TransferData, transfer_row}
use Rattle.gtfs_rows.specs.FrequenciesFile.{FrequencyData, frequency_row}
use Rattle.gtfs_rows.specs.declared.fault.FeedFile.{FeedFile}
use Rattle.gtfs_rows.specs.declared.fault.FeedFile.TheVariants as file
use Rattle.gtfs_rows.specs.declared.fault.FeedFault.{FeedFault}
use Rattle.gtfs_rows.specs.declared.fault.FeedFault.TheVariants as fault
use Rattle.gtfs_rows.specs.declared.columns.frequencies.TheConstants as frequencies
use Rattle.gtfs_rows.specs.declared.columns.stop_times.TheConstants as stop_times
use Rattle.gtfs_rows.specs.declared.columns.stops.TheConstants as columns
use Rattle.footpaths.specs.Stops.{stop_id, lacks_parent, check_stops}
use Rattle.footpaths.specs.Links.{wrong_transfer, check_transfers}
use Rattle.footpaths.specs.declared.paths.Options.{Options}
use Rattle.service_trips.specs.declared.broken.TripFault.{TripFault}
use Rattle.service_trips.specs.declared.frequency.TripFrequency.{TripFrequency}
use Rattle.service_trips.specs.declared.stop_time.StopTime.{StopTime}
use Rattle.service_trips.specs.Broken.{broken_trips}
use Rattle.service_trips.specs.Faults.{first_wrong}
use Rattle.service_trips.specs.Limits.{wrong_frequency}
use Rattle.trip_table.specs.Feed.{Feed, sized, rows_in, or_missing}
use Rattle.trip_table.specs.References.{Rows, ServiceData, service_id, duplicate_service, duplicate_trip, trip_id, wrong_twice, wrong_trip, trip_number, numbered_row, wrong_names, wrong_time, repeats, check_services, numbered_frequency, check_named, unknown_trip}
use Rattle.trip_table.specs.Day.{DayParts, IsTimetableOf, IsTimetableOfParts, Then, given_footpaths, parts_on, rides_of_rows}
use Rattle.trip_table.specs.Sieves.{Sieved, ended, silent, after, and_look}

-- what a row gives: nothing where it is bad
abbrev pub or_nothing : {A : Type 0} → Result (Option A) FeedFault → Option A
or_nothing (Ok row) = row
or_nothing (Err f) = None

abbrev pub good : {A : Type 0} → (RawRow → Result (Option A) FeedFault) → RawRow →
    Result (Option A) FeedFault
good read raw = Ok (or_nothing (read raw))

-- what is wrong with a row
abbrev pub fault_of : {A : Type 0} → Result A FeedFault → Option FeedFault
fault_of (Ok row) = None
fault_of (Err f) = Some f

abbrev pub bad : {A : Type 0} → (RawRow → Result (Option A) FeedFault) → RawRow →
    Result (Option FeedFault) FeedFault
bad read raw = Ok (fault_of (read raw))

-- faults that were found, or the one that ends it, and what is left without them
abbrev pub tell_found : {A : Type 0} → Result (Option (List FeedFault)) FeedFault →
    Result A FeedFault → Sieved A
tell_found (Ok found) left = ended (unwrap_or found []) left
tell_found (Err f) left = ended [] (Err f)

-- the good rows of a file, where it is there; the faults of the others are told
abbrev pub sieve_file : {A : Type 0} → FeedFile → (RawRow → Result (Option A) FeedFault) →
    Option (List ℕ) → Sieved (Option (List A))
sieve_file file read text =
    tell_found (rows_in file (bad read) text) (rows_in file (good read) text)

-- A row is kept if nothing is wrong with it beside the rows that were kept before it; else the first
-- thing that is wrong is told.
abbrev pub keep_unless : {A : Type 0} → Option FeedFault → Sieved (List A) → Sieved (List A) →
    Sieved (List A)
keep_unless None kept left = kept
keep_unless (Some f) kept left = after (f ∷ []) left

abbrev pub sift : {A : Type 0} → (List A → A → List (Option FeedFault)) → List A → List A →
    Sieved (List A)
sift wrong kept [] = silent (Ok kept)
sift wrong kept (r ∷ rest) =
    keep_unless (first_wrong (wrong kept r)) (sift wrong (kept ++ r ∷ []) rest)
    (sift wrong kept rest)

-- the same of a file that may be there
abbrev pub sift_found : {A : Type 0} → (List A → A → List (Option FeedFault)) →
    Option (List A) → Sieved (Option (List A))
sift_found wrong None = silent (Ok None)
sift_found wrong (Some rows) = and_look (sift wrong [] rows) (λ kept. silent (Ok (Some kept)))

abbrev pub duplicate_stop : StopData → FeedFault
duplicate_stop s = fault.DuplicateId (spot file.Stops s.row columns.STOP_ID)

abbrev pub orphan_fault : StopData → FeedFault
orphan_fault s = fault.UnknownStop (spot file.Stops s.row columns.PARENT_STATION)

-- rows that lack their parent are left out, and those that then lack theirs, until none does
abbrev pub leave_found : List StopData → List StopData → Sieved (List StopData) →
    Sieved (List StopData)
leave_found [] rows later = silent (Ok rows)
leave_found (s ∷ more) rows later = after (map orphan_fault (s ∷ more)) later

abbrev pub leave_orphans : ℕ → List StopData → Sieved (List StopData)
leave_orphans zero rows = silent (Ok rows)
leave_orphans (suc n) rows =
    leave_found (filter (lacks_parent rows) rows) rows
    (leave_orphans n (filter (λ s. not (lacks_parent rows s)) rows))

-- stops.txt: bad rows, rows with the id of an earlier one, rows that lack their parent
abbrev pub left_stops : Option (List ℕ) → Sieved (List StopData)
left_stops text =
    and_look (sieve_file file.Stops stop_row text) (λ found.
    and_look (silent (or_missing file.Stops found)) (λ rows.
    and_look (sift (wrong_twice stop_id duplicate_stop) [] rows) (λ distinct.
    and_look (leave_orphans (length distinct) distinct) (λ kept.
    silent (check_stops kept)))))

-- calendar.txt and calendar_dates.txt: bad rows, and in the first those of a service that has one
abbrev pub left_services : Option (List ℕ) → Option (List ℕ) → Sieved ServiceData
left_services calendar dates =
    and_look (sieve_file file.Calendar calendar_row calendar) (λ found.
    and_look (sift_found (wrong_twice service_id duplicate_service) found) (λ rows.
    and_look (sieve_file file.CalendarDates date_row dates) (λ days.
    silent (check_services rows days))))

-- trips.txt: bad rows, and rows with the id of an earlier one
abbrev pub left_trips : Option (List ℕ) → Sieved (List trip.TripData)
left_trips text =
    and_look (sieve_file file.Trips trip.trip_row text) (λ found.
    and_look (silent (or_missing file.Trips found)) (λ rows.
    and_look (sift (wrong_twice trip_id duplicate_trip) [] rows) (λ kept.
    silent (check_rows wrong_trip kept))))

-- what is wrong with a row of stop_times.txt by itself, or with what it names
abbrev pub wrong_in : List StopData → List trip.TripData → Result (Option StopTime) FeedFault →
    Option FeedFault
wrong_in stops trips (Err f) = Some f
wrong_in stops trips (Ok None) = None
wrong_in stops trips (Ok (Some r)) = wrong_names stops trips r

-- a bad row, by the number of the trip that it names
abbrev pub bad_time : List StopData → List trip.TripData → RawRow →
    Result (Option TripFault) FeedFault
bad_time stops trips raw =
    Ok (option_map
    (λ f. record { trip = trip_number trips (cell raw stop_times.TRIP_ID); fault = f })
    (wrong_in stops trips (numbered_row stops trips raw)))

abbrev pub unless_bad : Option FeedFault → Option StopTime → Option StopTime
unless_bad None row = row
unless_bad (Some f) row = None

abbrev pub good_time : List StopData → List trip.TripData → RawRow →
    Result (Option StopTime) FeedFault
good_time stops trips raw =
    Ok (unless_bad (wrong_in stops trips (numbered_row stops trips raw))
    (or_nothing (numbered_row stops trips raw)))

-- stop times without those of trips that bear a fault
abbrev pub is_among : List TripFault → StopTime → Bool
is_among found r = list_any (λ t. TripFault.trip t == r.trip_row) found

abbrev pub without_trips : List TripFault → List StopTime → List StopTime
without_trips found rows = filter (λ r. not (is_among found r)) rows

-- trips are left out for faults that they bear
abbrev pub leave_trips : List TripFault → List StopTime → Sieved (List StopTime)
leave_trips found rows =
    ended (map (λ t. TripFault.fault t) found) (Ok (without_trips found rows))

-- a row whose trip has an earlier row with its `stop_sequence`
abbrev pub twin_if : Bool → StopTime → List TripFault
twin_if false r = []
twin_if true r =
    record {
      trip = r.trip_row;
      fault = fault.DuplicateSequence (spot file.StopTimes r.row stop_times.STOP_SEQUENCE);
    } ∷ []

abbrev pub twins : List StopTime → List StopTime → List TripFault
twins earlier [] = []
twins earlier (r ∷ rest) =
    twin_if (list_any (repeats r) earlier) r ++ twins (earlier ++ r ∷ []) rest

-- marks at the trips that bear faults, beside those that are marked
abbrev pub mark_trips : List TripFault → List Bool → List Bool
mark_trips [] marks = marks
mark_trips (t ∷ rest) marks = mark_trips rest (set marks t.trip true)

-- the rows of stop_times.txt, which has to be there
abbrev pub times_in : {A : Type 0} → (RawRow → Result (Option A) FeedFault) → Option (List ℕ) →
    Sieved (List A)
times_in read text = silent (and_then (rows_in file.StopTimes read text) (or_missing file.StopTimes))

-- the rows without those of trips of which one is bad, or repeats a number
abbrev pub apart_times : List StopData → List trip.TripData → Option (List ℕ) →
    Sieved (List StopTime)
apart_times stops trips text =
    and_look (times_in (bad_time stops trips) text) (λ found.
    and_look (times_in (good_time stops trips) text) (λ rows.
    and_look (leave_trips found rows) (λ named.
    leave_trips (twins [] named) named)))

-- the same without those of trips with whose times something is wrong
abbrev pub timed_rows : List StopData → List trip.TripData → List StopTime →
    Sieved (List StopTime)
timed_rows stops trips apart =
    and_look (silent (check_rows (wrong_time stops trips) apart)) (λ checked.
    leave_trips (broken_trips checked (length trips)) checked)

-- stop_times.txt: all rows of a trip of which one is bad, or repeats a number, or with whose times
-- something is wrong
abbrev pub left_times : List StopData → List trip.TripData → Option (List ℕ) →
    Sieved (List StopTime)
left_times stops trips text = and_look (apart_times stops trips text) (timed_rows stops trips)

-- what is left in the end, nothing where a fault ends it
abbrev pub found_or_none : {A : Type 0} → Result (List A) FeedFault → List A
found_or_none (Ok xs) = xs
found_or_none (Err f) = []

abbrev pub left_or_none : {A : Type 0} → Sieved (List A) → List A
left_or_none s = found_or_none s.end

-- marks at the trips of which a row is bad, or repeats a number
abbrev pub marks_apart : ℕ → List TripFault → List StopTime → List Bool
marks_apart trips found rows =
    mark_trips (twins [] (without_trips found rows)) (mark_trips found (replicate trips false))

-- marks at the trips that are left out for their stop times
abbrev pub gone_trips : List StopData → List trip.TripData → Option (List ℕ) → List Bool
gone_trips stops trips text =
    mark_trips (broken_trips (left_or_none (apart_times stops trips text)) (length trips))
    (marks_apart (length trips) (left_or_none (times_in (bad_time stops trips) text))
    (left_or_none (times_in (good_time stops trips) text)))

-- the bytes of files, or that one is too large
abbrev pub sized_all : Feed → List FeedFile → Result (List (Option (List ℕ))) FeedFault
sized_all feed [] = Ok []
sized_all feed (file ∷ rest) =
    and_then (sized file (feed file)) (λ text. prepend (text ∷ []) (sized_all feed rest))

abbrev pub feed_files : List FeedFile
feed_files =
    file.Stops ∷ file.Calendar ∷ file.CalendarDates ∷ file.Trips ∷ file.StopTimes ∷ file.Transfers
    ∷ file.Frequencies ∷ []

abbrev pub text_at : List (Option (List ℕ)) → ℕ → Option (List ℕ)
text_at texts place = slice_index_or texts place None

-- the rows of a feed up to the times of its trips
abbrev pub left_rows : List (Option (List ℕ)) → Sieved Rows
left_rows texts =
    and_look (left_stops (text_at texts 0)) (λ stops.
    and_look (left_services (text_at texts 1) (text_at texts 2)) (λ services.
    and_look (left_trips (text_at texts 3)) (λ trips.
    and_look (left_times stops trips (text_at texts 4)) (λ times.
    silent
    (Ok (record { stops = stops; services = services; trips = trips; times = times }))))))

-- transfers.txt: bad rows, rows that name a stop that isn't there, and rows between the same two as
-- an earlier one
abbrev pub left_transfers : List StopData → Option (List ℕ) → Sieved (List TransferData)
left_transfers stops text =
    and_look (sieve_file file.Transfers transfer_row text) (λ found.
    sift (wrong_transfer stops []) [] (unwrap_or found []))

-- a row of frequencies.txt names a trip that is left out for its stop times
abbrev pub names_gone : List Bool → TripFrequency → Option FeedFault
names_gone gone f =
    fault_if (get_or gone f.trip_row false)
    (fault.UnknownTrip (spot file.Frequencies f.row frequencies.TRIP_ID))

-- a row of frequencies.txt whose trip has to be there
abbrev pub name_row : List trip.TripData → List Bool → Option FrequencyData →
    Result (Option FrequencyData) FeedFault
name_row trips gone None = Ok None
name_row trips gone (Some f) =
    unless_wrong
    (unknown_trip trips (numbered_frequency trips f) ∷ names_gone gone (numbered_frequency trips f)
    ∷ []) (Some f)

abbrev pub named_frequency : List trip.TripData → List Bool → RawRow →
    Result (Option FrequencyData) FeedFault
named_frequency trips gone raw = and_then (frequency_row raw) (name_row trips gone)

-- a row that gives no start, of a trip that is there
abbrev pub no_starts : List trip.TripData → ℕ → List ℕ → Option FrequencyData
no_starts trips row id =
    if nat_lt (trip_number trips id) (length trips)
    then Some (record { row = row; trip = id; start = 0; end = 0; headway = 1 }) else None

-- a bad row gives no start: its trip starts only by its good rows, and not at its own times
abbrev pub or_no_starts : Option FrequencyData → Result (Option FrequencyData) FeedFault →
    Option FrequencyData
or_no_starts other (Ok row) = row
or_no_starts other (Err f) = other

abbrev pub left_frequency : List trip.TripData → List Bool → RawRow →
    Result (Option FrequencyData) FeedFault
left_frequency trips gone raw =
    Ok (or_no_starts (no_starts trips raw.row (cell raw frequencies.TRIP_ID))
    (named_frequency trips gone raw))

-- frequencies.txt: bad rows, and rows that name a trip that isn't there
abbrev pub named_frequencies : List trip.TripData → List Bool → Option (List ℕ) →
    Sieved (List TripFrequency)
named_frequencies trips gone text =
    tell_found (rows_in file.Frequencies (bad (named_frequency trips gone)) text)
    (and_then (rows_in file.Frequencies (left_frequency trips gone) text) (λ rows.
    check_named trips (map (numbered_frequency trips) (unwrap_or rows []))))

-- what is wrong with the starts of a row, by the events of each trip
abbrev pub wrong_start : List (List Event) → TripFrequency → Option FeedFault
wrong_start rides = wrong_frequency (record { rows = []; rides = rides; frequencies = [] })

abbrev pub start_faults : List (List Event) → TripFrequency → List FeedFault
start_faults rides f = option_to_list (wrong_start rides f)

-- a row with whose starts something is wrong gives none
abbrev pub start_unless : Option FeedFault → TripFrequency → TripFrequency
start_unless None f = f
start_unless (Some wrong) f =
    record { row = f.row; trip_row = f.trip_row; start = 0; end = 0; headway = 1 }

abbrev pub left_start : List (List Event) → TripFrequency → TripFrequency
left_start rides f = start_unless (wrong_start rides f) f

abbrev pub leave_starts : List TripFrequency → List (List Event) → Sieved (List TripFrequency)
leave_starts rows rides =
    ended (flat_map (start_faults rides) rows) (Ok (map (left_start rides) rows))

-- rows of frequencies.txt with a start that moves a time of its trip beyond a day, where there are
-- rows
abbrev pub left_starts : Rows → List TripFrequency → Sieved (List TripFrequency)
left_starts rows [] = silent (Ok [])
left_starts rows (f ∷ others) =
    and_look (silent (rides_of_rows rows)) (leave_starts (f ∷ others))

-- frequencies.txt: bad rows, rows that name a trip that isn't there, and rows that move a time of
-- their trip beyond a day
abbrev pub left_frequencies : Rows → List Bool → Option (List ℕ) → Sieved (List TripFrequency)
left_frequencies rows gone text =
    and_look (named_frequencies rows.trips gone text) (left_starts rows)

-- what is left of the files of a feed
pub record LeftData : Type 0 where
  pub rows : Rows
  pub transfers : List TransferData
  pub frequencies : List TripFrequency

abbrev pub left_after_rows : List (Option (List ℕ)) → Rows → Sieved LeftData
left_after_rows texts rows =
    and_look (left_transfers rows.stops (text_at texts 5)) (λ transfers.
    and_look
    (left_frequencies rows (gone_trips rows.stops rows.trips (text_at texts 4)) (text_at texts 6))
    (λ frequencies.
    silent (Ok (record { rows = rows; transfers = transfers; frequencies = frequencies }))))

abbrev pub left_data : List (Option (List ℕ)) → Sieved LeftData
left_data texts = and_look (left_rows texts) (left_after_rows texts)

-- the parts of a day by what is left, or the first thing that is wrong
abbrev pub parts_left : ℕ → Options → LeftData → Result DayParts FeedFault
parts_left day options left =
    and_then (check_transfers left.rows.stops left.transfers) (λ transfers.
    parts_on left.rows left.frequencies day options.horizon
    (given_footpaths left.rows.stops options transfers))

-- the timetable of a day by what is left
abbrev pub IsTimetableLeft : ℕ → Options → LeftData → Result TimetableData FeedFault → Type 0
IsTimetableLeft day options left = Then (parts_left day options left) (IsTimetableOfParts options.close)

-- Each fault of what is looked at, after earlier ones, and the timetable of what is left, or the
-- fault that ends it.
abbrev pub IsLeft : ℕ → Options → Sieved LeftData → List FeedFault → List FeedFault →
    Result TimetableData FeedFault → Type 0
IsLeft day options looked before now result =
    (now ≡ before ++ looked.faults) × Then looked.end (IsTimetableLeft day options) result

-- the same of the bytes of files
abbrev pub IsLeftOfTexts : ℕ → Options → List (Option (List ℕ)) → List FeedFault →
    List FeedFault → Result TimetableData FeedFault → Type 0
IsLeftOfTexts day options texts = IsLeft day options (left_data texts)

-- the same of a feed: a file that is too large ends it before all else
abbrev pub IsLeftOf : Feed → ℕ → Options → List FeedFault → List FeedFault →
    Result TimetableData FeedFault → Type 0
IsLeftOf feed day options before now result =
    IsLeft day options (and_look (silent (sized_all feed feed_files)) left_data) before now result

-- The timetable of a feed for one who is lenient, with the faults of what is left out: that of the
-- feed, or the fault of a file as a whole, of a limit or of its footpaths; but where a row bears its
-- first fault, the timetable of what is left.
abbrev pub IsLenientOf : Feed → ℕ → Options → List FeedFault → Result TimetableData FeedFault →
    Type 0
IsLenientOf feed day options faults result =
    (IsTimetableOf feed day options result × IsUnborne true result × (faults ≡ []))
    ⊎ ((f : FeedFault) × IsTimetableOf feed day options (Err f) × (is_some (bearer f) ≡ true)
    × IsLeftOf feed day options [] faults result)
