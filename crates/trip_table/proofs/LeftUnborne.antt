-- No row bears a fault that ends a look at what is left.
use Rattle.std.proofs.Common.{◌≡◌, ◌∙◌, refl, sym, ap, subst, ℕ, List, [], ◌∷◌, length, map, Bool, true, false, Option, Some, None, arith}
use Rattle.std.specs.Prelude.{Result, Ok, Err, All, not, nat_le, nat_lt, unwrap_or, if◌then◌else◌}
use Rattle.std.proofs.lemmas.Bool.Decides.{nat_tests}
use Rattle.std.proofs.lemmas.List.{length-map}
use Rattle.std.proofs.lemmas.List.Elements.{All-filter, All-head, All-nil, All-tail}
use Rattle.tb_base.specs.declared.table.Event.{Event}
use Rattle.gtfs_rows.specs.CalendarFile.{calendar_row}
use Rattle.gtfs_rows.specs.DatesFile.{date_row}
use Rattle.gtfs_rows.specs.Faults.{check_rows, unless_wrong}
use Rattle.gtfs_rows.specs.LeftOut.{bearer}
use Rattle.gtfs_rows.specs.FrequenciesFile.{FrequencyData, frequency_row}
use Rattle.gtfs_rows.specs.RawRows.{RawRow, cell, typed_rows}
use Rattle.gtfs_rows.specs.Steps.{and_then}
use Rattle.gtfs_rows.specs.StopsFile.{StopData, stop_row}
use Rattle.gtfs_rows.specs.TransfersFile.{TransferData, transfer_row}
use Rattle.gtfs_rows.specs.TripsFile as trip
use Rattle.gtfs_rows.specs.declared.fault.FeedFile.{FeedFile}
use Rattle.gtfs_rows.specs.declared.fault.FeedFile.TheVariants as file
use Rattle.gtfs_rows.specs.declared.fault.FeedFault.{FeedFault}
use Rattle.gtfs_rows.specs.declared.fault.FeedFault.TheVariants as fault
use Rattle.footpaths.specs.Links.{check_transfers, wrong_transfer}
use Rattle.footpaths.specs.Stops.{check_stops, stop_id}
use Rattle.service_trips.specs.Broken.{broken_trips}
use Rattle.service_trips.specs.Rides.{rides_on}
use Rattle.service_trips.specs.TimeFaults.{wrong_trips}
use Rattle.trip_table.specs.Day.{rides_of_rows}
use Rattle.gtfs_rows.specs.declared.columns.frequencies.TheConstants as frequencies
use Rattle.service_trips.specs.declared.broken.TripFault.{TripFault}
use Rattle.service_trips.specs.declared.frequency.TripFrequency.{TripFrequency}
use Rattle.service_trips.specs.declared.stop_time.StopTime.{StopTime}
use Rattle.trip_table.specs.Feed.{or_missing, rows_in}
use Rattle.trip_table.specs.LeftFeed.{apart_times, bad, bad_time, duplicate_stop, fault_of, gone_trips, good, good_time, is_among, leave_orphans, leave_starts, leave_trips, left_after_rows, left_data, left_frequencies, left_frequency, left_rows, left_services, left_start, left_starts, left_stops, left_times, left_transfers, left_trips, name_row, named_frequencies, named_frequency, names_gone, no_starts, or_no_starts, or_nothing, sieve_file, sift, sift_found, tell_found, text_at, timed_rows, times_in, twins, without_trips}
use Rattle.trip_table.specs.References.{Rows, check_named, check_services, duplicate_service, duplicate_trip, numbered_frequency, service_id, trip_id, trip_number, unknown_trip, wrong_names, wrong_time, wrong_trip, wrong_twice}
use Rattle.trip_table.specs.Sieves.{Sieved, and_look, look_on, silent}
use Rattle.trip_table.proofs.LeftRowFacts.{names_there}
use Rattle.trip_table.proofs.RowFacts.{rows_all}
use Rattle.trip_table.proofs.SiftedRight.{sift_never, sifted_right}
use Rattle.trip_table.proofs.StopsRight.{left_right, orphans_never}
use Rattle.trip_table.proofs.TimesRight.{apart_right, times_right}
use Rattle.trip_table.proofs.Unborne.{either, missing_unborne, rows_unborne}

-- a fault that ends it is none that a row bears
abbrev pub Unborne : {A : Type 0} → Sieved A → Type 0
Unborne s = (f : FeedFault) → s.end ≡ Err f → bearer f ≡ None

look_by : {A B : Type 0} (faults : List FeedFault) (end : Result A FeedFault) (next : A → Sieved B) → ((f : FeedFault) → end ≡ Err f → bearer f ≡ None) → ((x : A) → end ≡ Ok x → Unborne (next x)) → (f : FeedFault) → (look_on faults end next).end ≡ Err f → bearer f ≡ None
look_by faults (Ok x) next first second f e = second x refl f e
look_by {A} {B} faults (Err g) next first second f e = let same : g ≡ f = cc in first f (ap Err same)

pub looks : {A B : Type 0} (s : Sieved A) (next : A → Sieved B) → Unborne s → ((x : A) → s.end ≡ Ok x → Unborne (next x)) → Unborne (and_look s next)
looks s next first second f e = look_by s.faults s.end next first second f e

tells : {A : Type 0} (found : Result (Option (List FeedFault)) FeedFault) (left : Result A FeedFault) → ((f : FeedFault) → found ≡ Err f → bearer f ≡ None) → ((f : FeedFault) → left ≡ Err f → bearer f ≡ None) → Unborne (tell_found found left)
tells (Ok faults) left first second f e = second f e
tells (Err g) left first second f e = let same : g ≡ f = cc in first f (ap Err same)

pub file_unborne : {A : Type 0} (file : FeedFile) (read : RawRow → Result (Option A) FeedFault) (text : Option (List ℕ)) → Unborne (sieve_file file read text)
file_unborne file read text =
    tells (rows_in file (bad read) text) (rows_in file (good read) text) (λ f e. rows_unborne file (λ raw. fault_of (read raw)) text f e) (λ f e. rows_unborne file (λ raw. or_nothing (read raw)) text f e)

-- what gives something isn't ended
given : {A : Type 0} (end : Result A FeedFault) (x : A) → end ≡ Ok x → (f : FeedFault) → end ≡ Err f → bearer f ≡ None
given (Ok y) x is f e = absurd (cc)
given (Err g) x is f e = absurd (cc)

pub sift_unborne : {A : Type 0} (wrong : List A → A → List (Option FeedFault)) (kept rows : List A) → Unborne (sift wrong kept rows)
sift_unborne wrong kept rows = let never = sift_never wrong kept rows in given (sift wrong kept rows).end never.0 never.1

sift_found_unborne : {A : Type 0} (wrong : List A → A → List (Option FeedFault)) (found : Option (List A)) → Unborne (sift_found wrong found)
sift_found_unborne wrong None = given (Ok None) None refl
sift_found_unborne wrong (Some rows) = looks (sift wrong [] rows) (λ kept. silent (Ok (Some kept))) (sift_unborne wrong [] rows) (λ kept is. given (Ok (Some kept)) (Some kept) refl)

pub trips_unborne : (text : Option (List ℕ)) → Unborne (left_trips text)
trips_unborne text =
    looks (sieve_file file.Trips trip.trip_row text) _ (file_unborne file.Trips trip.trip_row text)
    (λ found is.
    looks (silent (or_missing file.Trips found)) _ (λ f e. missing_unborne file.Trips found f e)
    (λ rows there.
    looks (sift (wrong_twice trip_id duplicate_trip) [] rows) _ (sift_unborne (wrong_twice trip_id duplicate_trip) [] rows)
    (λ kept sifted. given (check_rows wrong_trip kept) kept (sifted_right (wrong_twice trip_id duplicate_trip) rows kept sifted))))

pub stops_unborne : (text : Option (List ℕ)) → Unborne (left_stops text)
stops_unborne text =
    looks (sieve_file file.Stops stop_row text) _ (file_unborne file.Stops stop_row text)
    (λ found is.
    looks (silent (or_missing file.Stops found)) _ (λ f e. missing_unborne file.Stops found f e)
    (λ rows there.
    looks (sift (wrong_twice stop_id duplicate_stop) [] rows) _ (sift_unborne (wrong_twice stop_id duplicate_stop) [] rows)
    (λ distinct sifted.
    looks (leave_orphans (length distinct) distinct) _ (let never = orphans_never (length distinct) distinct in given (leave_orphans (length distinct) distinct).end never.0 never.1)
    (λ kept left. given (check_stops kept) kept (left_right rows distinct kept sifted left)))))

services_by : (rows : Option (List Rattle.gtfs_rows.specs.CalendarFile.CalendarData)) (days : Option (List Rattle.gtfs_rows.specs.DatesFile.DateData)) (f : FeedFault) → check_services rows days ≡ Err f → bearer f ≡ None
services_by None None f e = let same : fault.MissingFile file.Calendar ≡ f = cc in ap bearer (sym same)
services_by None (Some days) f e = absurd (cc)
services_by (Some rows) None f e = absurd (cc)
services_by (Some rows) (Some days) f e = absurd (cc)

pub services_unborne : (calendar dates : Option (List ℕ)) → Unborne (left_services calendar dates)
services_unborne calendar dates =
    looks (sieve_file file.Calendar calendar_row calendar) _ (file_unborne file.Calendar calendar_row calendar)
    (λ found is.
    looks (sift_found (wrong_twice service_id duplicate_service) found) _ (sift_found_unborne (wrong_twice service_id duplicate_service) found)
    (λ rows sifted.
    looks (sieve_file file.CalendarDates date_row dates) _ (file_unborne file.CalendarDates date_row dates)
    (λ days read f e. services_by rows days f e)))

-- what two looks give
pub look_gives : {A B : Type 0} (s : Sieved A) (next : A → Sieved B) (y : B) → (and_look s next).end ≡ Ok y → (x : A) × (s.end ≡ Ok x) × ((next x).end ≡ Ok y)
look_gives {A} {B} s next y e = by_end s.end refl e
  where
    by_end : (end : Result A FeedFault) → s.end ≡ end → (look_on s.faults end next).end ≡ Ok y → (x : A) × (s.end ≡ Ok x) × ((next x).end ≡ Ok y)
    by_end (Ok x) is q = (x, is, q)
    by_end (Err f) is q = absurd (cc)

read_of : {A : Type 0} (file : FeedFile) (m : Result (List A) FeedFault) (rows : List A) → and_then (and_then m (λ rows. Ok (Some rows))) (or_missing file) ≡ Ok rows → m ≡ Ok rows
read_of file (Ok ys) rows e = e
read_of file (Err f) rows e = absurd (cc)

text_of : {A : Type 0} (file : FeedFile) (read : RawRow → Result (Option A) FeedFault) (text : Option (List ℕ)) (rows : List A) → and_then (rows_in file read text) (or_missing file) ≡ Ok rows → (bytes : List ℕ) × (typed_rows file read bytes ≡ Ok rows)
text_of file read None rows e = absurd (cc)
text_of file read (Some bytes) rows e = (bytes, read_of file (typed_rows file read bytes) rows e)

one_list : {A : Type 0} (xs ys : List A) → (let r : Result (List A) FeedFault = Ok xs in r) ≡ Ok ys → xs ≡ ys
one_list xs ys e = cc

module _ (stops : List StopData) (trips : List trip.TripData) (text : Option (List ℕ)) where
  -- nothing is wrong with the rows of trips that are apart
  pub apart_is_right : (apart : List StopTime) → (apart_times stops trips text).end ≡ Ok apart → check_rows (wrong_time stops trips) apart ≡ Ok apart
  apart_is_right apart e =
      let a = look_gives (times_in (bad_time stops trips) text) _ apart e in
      let b = look_gives (times_in (good_time stops trips) text) _ apart a.2 in
      let c = look_gives (leave_trips a.0 b.0) (λ named. leave_trips (twins [] named) named) apart b.2 in
      let named : without_trips a.0 b.0 ≡ c.0 = one_list (without_trips a.0 b.0) c.0 c.1 in
      let left : without_trips (twins [] c.0) c.0 ≡ apart = one_list (without_trips (twins [] c.0) c.0) apart c.2 in
      let bytes = text_of file.StopTimes (good_time stops trips) text b.0 b.1 in
      let all = names_there stops trips bytes.0 b.0 bytes.1 in
      let kept = subst (λ (rows : List StopTime). All (λ r. wrong_names stops trips r ≡ None) rows) named (All-filter (λ r. not (is_among a.0 r)) (λ r. wrong_names stops trips r ≡ None) b.0 all) in
      subst (λ (rows : List StopTime). check_rows (wrong_time stops trips) rows ≡ Ok rows) left (apart_right stops trips c.0 kept)

  times_in_unborne : {A : Type 0} (read : RawRow → Option A) → Unborne (times_in (λ raw. Ok (read raw)) text)
  times_in_unborne read f e = either (rows_in file.StopTimes (λ raw. Ok (read raw)) text) (or_missing file.StopTimes) f (λ g q. rows_unborne file.StopTimes read text g q) (λ rows is g q. missing_unborne file.StopTimes rows g q) e

  leave_unborne : (found : List TripFault) (rows : List StopTime) → Unborne (leave_trips found rows)
  leave_unborne found rows = given (Ok (without_trips found rows)) (without_trips found rows) refl

  pub times_unborne : Unborne (left_times stops trips text)
  times_unborne =
      looks (apart_times stops trips text) (timed_rows stops trips)
      (looks (times_in (bad_time stops trips) text) _ (times_in_unborne _)
      (λ found a.
      looks (times_in (good_time stops trips) text) _ (times_in_unborne _)
      (λ rows b. looks (leave_trips found rows) (λ named. leave_trips (twins [] named) named) (leave_unborne found rows) (λ named c. leave_unborne (twins [] named) named))))
      (λ apart is.
      looks (silent (check_rows (wrong_time stops trips) apart)) _ (given (check_rows (wrong_time stops trips) apart) apart (apart_is_right apart is)) (λ checked k. leave_unborne (broken_trips checked (length trips)) checked))

  -- nothing is wrong with the times of trips that are left
  pub left_rides_right : {A : Type 0} (times : List StopTime) (x : A) → (left_times stops trips text).end ≡ Ok times → unless_wrong (wrong_trips times 0 (length trips)) x ≡ Ok x
  left_rides_right times x e =
      let a = look_gives (apart_times stops trips text) (timed_rows stops trips) times e in
      let b = look_gives (silent (check_rows (wrong_time stops trips) a.0)) _ times a.2 in
      let left : without_trips (broken_trips b.0 (length trips)) b.0 ≡ times = one_list (without_trips (broken_trips b.0 (length trips)) b.0) times b.2 in
      subst (λ (rows : List StopTime). unless_wrong (wrong_trips rows 0 (length trips)) x ≡ Ok x) left (times_right b.0 x (length trips))

pub transfers_unborne : (stops : List StopData) (text : Option (List ℕ)) → Unborne (left_transfers stops text)
transfers_unborne stops text =
    looks (sieve_file file.Transfers transfer_row text) _ (file_unborne file.Transfers transfer_row text) (λ found is. sift_unborne (wrong_transfer stops []) [] (unwrap_or found []))

-- nothing is wrong with the rows of transfers.txt that are left
pub transfers_right : (stops : List StopData) (text : Option (List ℕ)) (kept : List TransferData) → (left_transfers stops text).end ≡ Ok kept → check_transfers stops kept ≡ Ok kept
transfers_right stops text kept e =
    let a = look_gives (sieve_file file.Transfers transfer_row text) _ kept e in
    sifted_right (wrong_transfer stops []) (unwrap_or a.0 []) kept a.2

-- rows of frequencies.txt that are left name trips that are there
named_by : (trips : List trip.TripData) (f x : FrequencyData) (o p : Option FeedFault) → unknown_trip trips (numbered_frequency trips f) ≡ o → unless_wrong (o ∷ p ∷ []) (Some f) ≡ Ok (Some x) → unknown_trip trips (numbered_frequency trips x) ≡ None
named_by trips f x None None is e = let same : f ≡ x = cc in subst (λ f. unknown_trip trips (numbered_frequency trips f) ≡ None) same is
named_by trips f x None (Some g) is e = absurd (cc)
named_by trips f x (Some g) p is e = absurd (cc)

row_named : (trips : List trip.TripData) (gone : List Bool) (o : Option FrequencyData) (x : FrequencyData) → name_row trips gone o ≡ Ok (Some x) → unknown_trip trips (numbered_frequency trips x) ≡ None
row_named trips gone None x e = absurd (cc)
row_named trips gone (Some f) x e = named_by trips f x (unknown_trip trips (numbered_frequency trips f)) (names_gone gone (numbered_frequency trips f)) refl e

read_named : (trips : List trip.TripData) (gone : List Bool) (m : Result (Option FrequencyData) FeedFault) (x : FrequencyData) → and_then m (name_row trips gone) ≡ Ok (Some x) → unknown_trip trips (numbered_frequency trips x) ≡ None
read_named trips gone (Ok o) x e = row_named trips gone o x e
read_named trips gone (Err f) x e = absurd (cc)

known_if : (trips : List trip.TripData) (row : ℕ) (id : List ℕ) (b : Bool) (x : FrequencyData) → nat_lt (trip_number trips id) (length trips) ≡ b → (let o : Option FrequencyData = if b then Some (record { row = row; trip = id; start = 0; end = 0; headway = 1 }) else None in o) ≡ Some x
    → unknown_trip trips (numbered_frequency trips x) ≡ None
known_if trips row id false x is e = absurd (cc)
known_if trips row id true x is e =
    let below : nat_le (length trips) (trip_number trips id) ≡ false = grind (arith, nat_tests, is) in
    let same : record { row = row; trip = id; start = 0; end = 0; headway = 1 } ≡ x = cc in
    subst (λ (f : FrequencyData). unknown_trip trips (numbered_frequency trips f) ≡ None) same (rw below refl)

left_named : (trips : List trip.TripData) (gone : List Bool) (raw : RawRow) (x : FrequencyData) → left_frequency trips gone raw ≡ Ok (Some x) → unknown_trip trips (numbered_frequency trips x) ≡ None
left_named trips gone raw x e = by_row (named_frequency trips gone raw) refl (let here : or_no_starts (no_starts trips raw.row (cell raw frequencies.TRIP_ID)) (named_frequency trips gone raw) ≡ Some x = cc in here)
  where
    by_row : (r : Result (Option FrequencyData) FeedFault) → named_frequency trips gone raw ≡ r → or_no_starts (no_starts trips raw.row (cell raw frequencies.TRIP_ID)) r ≡ Some x → unknown_trip trips (numbered_frequency trips x) ≡ None
    by_row (Ok o) is q = read_named trips gone (frequency_row raw) x (is ∙ ap Ok q)
    by_row (Err f) is q = known_if trips raw.row (cell raw frequencies.TRIP_ID) (nat_lt (trip_number trips (cell raw frequencies.TRIP_ID)) (length trips)) x refl q

all_known : (trips : List trip.TripData) (rows : List FrequencyData) (x : List TripFrequency) → All (λ f. unknown_trip trips (numbered_frequency trips f) ≡ None) rows → unless_wrong (map (unknown_trip trips) (map (numbered_frequency trips) rows)) x ≡ Ok x
all_known trips [] x h = refl
all_known trips (r ∷ rest) x h = rw (All-head (λ f. unknown_trip trips (numbered_frequency trips f) ≡ None) r rest h) (all_known trips rest x (All-tail (λ f. unknown_trip trips (numbered_frequency trips f) ≡ None) r rest h))

found_known : (trips : List trip.TripData) (gone : List Bool) (text : Option (List ℕ)) (found : Option (List FrequencyData)) → rows_in file.Frequencies (left_frequency trips gone) text ≡ Ok found → All (λ f. unknown_trip trips (numbered_frequency trips f) ≡ None) (unwrap_or found [])
found_known trips gone None found e = let same : None ≡ found = cc in subst (λ (o : Option (List FrequencyData)). All (λ f. unknown_trip trips (numbered_frequency trips f) ≡ None) (unwrap_or o [])) same (All-nil (λ f. unknown_trip trips (numbered_frequency trips f) ≡ None))
found_known trips gone (Some bytes) found e = by_rows (typed_rows file.Frequencies (left_frequency trips gone) bytes) refl e
  where
    by_rows : (m : Result (List FrequencyData) FeedFault) → typed_rows file.Frequencies (left_frequency trips gone) bytes ≡ m → and_then m (λ rows. Ok (Some rows)) ≡ Ok found → All (λ f. unknown_trip trips (numbered_frequency trips f) ≡ None) (unwrap_or found [])
    by_rows (Err f) is q = absurd (cc)
    by_rows (Ok rows) is q =
        let same : Some rows ≡ found = cc in
        subst (λ (o : Option (List FrequencyData)). All (λ f. unknown_trip trips (numbered_frequency trips f) ≡ None) (unwrap_or o [])) same
        (rows_all (λ f. unknown_trip trips (numbered_frequency trips f) ≡ None) file.Frequencies (left_frequency trips gone) (λ raw x h. left_named trips gone raw x h) bytes rows is)

named_unborne : (trips : List trip.TripData) (gone : List Bool) (text : Option (List ℕ)) → Unborne (named_frequencies trips gone text)
named_unborne trips gone text =
    tells (rows_in file.Frequencies (bad (named_frequency trips gone)) text) _ (λ f e. rows_unborne file.Frequencies (λ raw. fault_of (named_frequency trips gone raw)) text f e)
    (λ f e.
    either (rows_in file.Frequencies (left_frequency trips gone) text) _ f (λ g q. rows_unborne file.Frequencies (λ raw. or_no_starts (no_starts trips raw.row (cell raw frequencies.TRIP_ID)) (named_frequency trips gone raw)) text g q)
    (λ found is g q.
    let rows = map (numbered_frequency trips) (unwrap_or found []) in
    given (check_named trips rows) rows (all_known trips (unwrap_or found []) rows (found_known trips gone text found is)) g q) e)

same_value : {A : Type 0} (x y : A) → (let r : Result A FeedFault = Ok x in r) ≡ Ok y → x ≡ y
same_value x y e = cc

-- nothing is wrong with the times of trips by the rows that are left
pub rows_right : (texts : List (Option (List ℕ))) (rows : Rows) → (left_rows texts).end ≡ Ok rows → (x : List (List Event)) → unless_wrong (wrong_trips rows.times 0 (length rows.trips)) x ≡ Ok x
rows_right texts rows e x =
    let a = look_gives (left_stops (text_at texts 0)) _ rows e in
    let b = look_gives (left_services (text_at texts 1) (text_at texts 2)) _ rows a.2 in
    let c = look_gives (left_trips (text_at texts 3)) _ rows b.2 in
    let d = look_gives (left_times a.0 c.0 (text_at texts 4)) _ rows c.2 in
    let same : record { stops = a.0; services = b.0; trips = c.0; times = d.0 } ≡ rows = same_value (record { stops = a.0; services = b.0; trips = c.0; times = d.0 }) rows d.2 in
    subst (λ (rows : Rows). unless_wrong (wrong_trips rows.times 0 (length rows.trips)) x ≡ Ok x) same (left_rides_right a.0 c.0 (text_at texts 4) d.0 x d.1)

-- so each trip has its events
pub rides_right : (rows : Rows) → ((x : List (List Event)) → unless_wrong (wrong_trips rows.times 0 (length rows.trips)) x ≡ Ok x) → (rides : List (List Event)) × (rides_of_rows rows ≡ Ok rides)
rides_right rows right =
    let runs = map (λ t. true) rows.trips in
    let rides = rides_on rows.times runs (length runs) in
    (rides, ap (λ n. unless_wrong (wrong_trips rows.times 0 n) rides) (length-map rows.trips (λ t. true)) ∙ right rides)

starts_unborne : (rows : Rows) → (rides : List (List Event)) × (rides_of_rows rows ≡ Ok rides) → (named : List TripFrequency) → Unborne (left_starts rows named)
starts_unborne rows rides [] = given (Ok []) [] refl
starts_unborne rows rides (f ∷ others) =
    looks (silent (rides_of_rows rows)) (leave_starts (f ∷ others)) (given (rides_of_rows rows) rides.0 rides.1) (λ found is. given (Ok (map (left_start found) (f ∷ others))) (map (left_start found) (f ∷ others)) refl)

pub frequencies_unborne : (rows : Rows) → (rides : List (List Event)) × (rides_of_rows rows ≡ Ok rides) → (gone : List Bool) (text : Option (List ℕ)) → Unborne (left_frequencies rows gone text)
frequencies_unborne rows rides gone text = looks (named_frequencies rows.trips gone text) (left_starts rows) (named_unborne rows.trips gone text) (λ named is. starts_unborne rows rides named)

rows_unborne_of : (texts : List (Option (List ℕ))) → Unborne (left_rows texts)
rows_unborne_of texts =
    looks (left_stops (text_at texts 0)) _ (stops_unborne (text_at texts 0))
    (λ stops a.
    looks (left_services (text_at texts 1) (text_at texts 2)) _ (services_unborne (text_at texts 1) (text_at texts 2))
    (λ services b.
    looks (left_trips (text_at texts 3)) _ (trips_unborne (text_at texts 3))
    (λ trips c.
    looks (left_times stops trips (text_at texts 4)) _ (times_unborne stops trips (text_at texts 4))
    (λ times d. given (Ok (record { stops = stops; services = services; trips = trips; times = times })) _ refl))))

-- no row bears a fault that ends a look at the files
pub data_unborne : (texts : List (Option (List ℕ))) → Unborne (left_data texts)
data_unborne texts =
    looks (left_rows texts) (left_after_rows texts) (rows_unborne_of texts)
    (λ rows a.
    looks (left_transfers rows.stops (text_at texts 5)) _ (transfers_unborne rows.stops (text_at texts 5))
    (λ transfers b.
    let gone = gone_trips rows.stops rows.trips (text_at texts 4) in
    looks (left_frequencies rows gone (text_at texts 6)) _ (frequencies_unborne rows (rides_right rows (λ x. rows_right texts rows a x)) gone (text_at texts 6))
    (λ frequencies c. given (Ok (record { rows = rows; transfers = transfers; frequencies = frequencies })) _ refl)))
