-- Where nothing is left out of a feed, nothing is wrong with it.
use Rattle.std.proofs.Common.{◌≡◌, ◌∙◌, refl, sym, ap, subst, inl, inr, ℕ, zero, suc, Bool, List, [], ◌∷◌, ◌++◌, length, map, flat_map, Option, Some, None, append-nil, append_assoc}
use Rattle.std.specs.Prelude.{Result, Ok, Err, filter, not, option_map, option_to_list, unwrap_or}
use Rattle.gtfs_rows.specs.CalendarFile.{CalendarData, calendar_row}
use Rattle.gtfs_rows.specs.Columns.{row_limit}
use Rattle.gtfs_rows.specs.DatesFile.{date_row}
use Rattle.gtfs_rows.specs.Faults.{check_rows, unless_wrong}
use Rattle.gtfs_rows.specs.FrequenciesFile.{FrequencyData, frequency_row}
use Rattle.gtfs_rows.specs.RawRows.{RawRow, cell, shape, table, typed_rows}
use Rattle.gtfs_rows.specs.Steps.{and_then, prepend}
use Rattle.gtfs_rows.specs.StopsFile.{StopData, stop_row}
use Rattle.gtfs_rows.specs.TransfersFile.{TransferData, transfer_row}
use Rattle.gtfs_rows.specs.TripsFile as trip
use Rattle.gtfs_rows.specs.declared.columns.frequencies.TheConstants as frequencies
use Rattle.gtfs_rows.specs.declared.columns.stop_times.TheConstants as stop_times
use Rattle.gtfs_rows.specs.declared.fault.FeedFile.{FeedFile}
use Rattle.gtfs_rows.specs.declared.fault.FeedFile.TheVariants as file
use Rattle.gtfs_rows.specs.declared.fault.FeedFault.{FeedFault}
use Rattle.footpaths.specs.Links.{check_transfers, wrong_transfer}
use Rattle.footpaths.specs.Stops.{check_stops, lacks_parent, stop_id}
use Rattle.footpaths.specs.declared.paths.Options.{Options}
use Rattle.service_trips.specs.Broken.{broken_trips}
use Rattle.service_trips.specs.Faults.{first_wrong}
use Rattle.service_trips.specs.declared.broken.TripFault.{TripFault}
use Rattle.service_trips.specs.declared.frequency.TripFrequency.{TripFrequency}
use Rattle.service_trips.specs.declared.stop_time.StopTime.{StopTime}
use Rattle.tb_base.specs.TimetableData.{TimetableData}
use Rattle.tb_base.specs.declared.table.Event.{Event}
use Rattle.trip_table.specs.AskedDay.{AreFaultsOf}
use Rattle.trip_table.specs.Day.{DayParts, IsTimetableOf, IsTimetableOfParts, Then, day_parts, given_footpaths, parts_after_rows, parts_on, rides_of_rows}
use Rattle.trip_table.specs.Feed.{Feed, file_rows, or_missing, rows_in, sized}
use Rattle.trip_table.specs.LeftFeed.{IsLeftOf, IsLenientOf, IsTimetableLeft, LeftData, apart_times, bad, bad_time, duplicate_stop, fault_of, feed_files, gone_trips, good, good_time, keep_unless, leave_found, leave_orphans, leave_starts, leave_trips, left_after_rows, left_data, left_frequencies, left_frequency, left_rows, left_services, left_start, left_starts, left_stops, left_times, left_transfers, left_trips, name_row, named_frequencies, named_frequency, names_gone, no_starts, or_no_starts, or_nothing, parts_left, sieve_file, sift, sift_found, sized_all, start_faults, start_unless, tell_found, text_at, timed_rows, times_in, twins, unless_bad, without_trips, wrong_in, wrong_start}
use Rattle.trip_table.specs.References.{Rows, ServiceData, check_named, check_services, duplicate_service, duplicate_trip, frequencies_of, numbered_frequency, numbered_row, rows_after_services, rows_after_stops, rows_after_trips, rows_of, service_id, services_of, stops_of, times_of_feed, transfers_of_feed, trip_id, trip_number, trips_of_feed, unknown_trip, wrong_calendar, wrong_names, wrong_time, wrong_trip, wrong_twice}
use Rattle.trip_table.specs.Sieves.{Sieved, and_look, look_on, silent}
use Rattle.trip_table.proofs.LeftUnborne.{transfers_right}
use Rattle.trip_table.proofs.SiftedRight.{sifted_right}

-- a look tells nothing, and leaves this
record Quiet {A : Type 0} (s : Sieved A) (x : A) : Type 0 where
  told : s.faults ≡ []
  given : s.end ≡ Ok x

no_front : {A : Type 0} (xs ys : List A) → xs ++ ys ≡ [] → xs ≡ []
no_front [] ys e = refl
no_front (x ∷ xs) ys e = absurd (cc)

no_back : {A : Type 0} (xs ys : List A) → xs ++ ys ≡ [] → ys ≡ []
no_back [] ys e = e
no_back (x ∷ xs) ys e = absurd (cc)

one : {A : Type 0} (x y : A) → (let r : Result A FeedFault = Ok x in r) ≡ Ok y → x ≡ y
one x y e = cc

step : {A B : Type 0} (m : Result A FeedFault) (next : A → Result B FeedFault) (x : A) (r : Result B FeedFault) → m ≡ Ok x → next x ≡ r → and_then m next ≡ r
step m next x r e h = ap (λ m. and_then m next) e ∙ h

-- so do its parts
quiet_look : {A B : Type 0} (s : Sieved A) (next : A → Sieved B) (y : B) → Quiet (and_look s next) y → (x : A) × Quiet s x × Quiet (next x) y
quiet_look {A} {B} s next y q = by_end s.end refl q.told q.given
  where
    by_end : (end : Result A FeedFault) → s.end ≡ end → (look_on s.faults end next).faults ≡ [] → (look_on s.faults end next).end ≡ Ok y → (x : A) × Quiet s x × Quiet (next x) y
    by_end (Ok x) is told e = (x, record { told = no_front s.faults (next x).faults told; given = is }, record { told = no_back s.faults (next x).faults told; given = e })
    by_end (Err f) is told e = absurd (cc)

-- Rows of which none is told of are read alike by two readers that agree on such rows.
module _ {A B : Type 0} (here : FeedFile) (tell : RawRow → Option B) (read other : RawRow → Result (Option A) FeedFault) (same : (raw : RawRow) → tell raw ≡ None → read raw ≡ other raw) where
  none_later : (m : Result (List B) FeedFault) → prepend [] m ≡ Ok [] → m ≡ Ok []
  none_later (Ok ys) e = e
  none_later (Err f) e = absurd (cc)

  some_told : (b : B) (m : Result (List B) FeedFault) → prepend (b ∷ []) m ≡ Ok [] → ⊥
  some_told b (Ok ys) e = cc
  some_told b (Err f) e = cc

  same_shape : (room : ℕ) (raws : List RawRow) → shape here (λ raw. Ok (tell raw)) room raws ≡ Ok [] → shape here read room raws ≡ shape here other room raws
  same_shape room [] e = refl
  same_shape zero (raw ∷ rest) e = refl
  same_shape (suc room) (raw ∷ rest) e = by_row (tell raw) refl (same_shape room rest) e
    where
      by_row : (o : Option B) → tell raw ≡ o → (shape here (λ raw. Ok (tell raw)) room rest ≡ Ok [] → shape here read room rest ≡ shape here other room rest) → prepend (option_to_list o) (shape here (λ raw. Ok (tell raw)) room rest) ≡ Ok [] → shape here read (suc room) (raw ∷ rest) ≡ shape here other (suc room) (raw ∷ rest)
      by_row None is later q =
          ap (λ (r : Result (Option A) FeedFault). and_then r (λ row. prepend (option_to_list row) (shape here read room rest))) (same raw is)
          ∙ ap (λ (m : Result (List A) FeedFault). and_then (other raw) (λ row. prepend (option_to_list row) m)) (later (none_later (shape here (λ raw. Ok (tell raw)) room rest) q))
      by_row (Some b) is later q = absurd (some_told b (shape here (λ raw. Ok (tell raw)) room rest) q)

  same_table : (m : Result (List RawRow) FeedFault) → and_then m (shape here (λ raw. Ok (tell raw)) (row_limit here)) ≡ Ok [] → and_then m (shape here read (row_limit here)) ≡ and_then m (shape here other (row_limit here))
  same_table (Ok raws) e = same_shape (row_limit here) raws e
  same_table (Err f) e = refl

  same_rows : (text : Option (List ℕ)) (found : Option (List B)) → rows_in here (λ raw. Ok (tell raw)) text ≡ Ok found → unwrap_or found [] ≡ [] → rows_in here read text ≡ rows_in here other text
  same_rows None found e none = refl
  same_rows (Some bytes) found e none = by_rows (typed_rows here (λ raw. Ok (tell raw)) bytes) refl e
    where
      by_rows : (m : Result (List B) FeedFault) → typed_rows here (λ raw. Ok (tell raw)) bytes ≡ m → and_then m (λ rows. Ok (Some rows)) ≡ Ok found → rows_in here read (Some bytes) ≡ rows_in here other (Some bytes)
      by_rows (Err f) is q = absurd (cc)
      by_rows (Ok rows) is q =
          let some : Some rows ≡ found = one (Some rows) found q in
          let no : rows ≡ [] = ap (λ (o : Option (List B)). unwrap_or o []) some ∙ none in
          ap (λ (m : Result (List A) FeedFault). and_then m (λ rows. Ok (Some rows))) (same_table (table here bytes) (is ∙ ap Ok no))

good_same : {A : Type 0} (r : Result (Option A) FeedFault) → fault_of r ≡ None → r ≡ Ok (or_nothing r)
good_same (Ok row) e = refl
good_same (Err f) e = absurd (cc)

-- a file of which no row is told of is read as it stands
quiet_file : {A : Type 0} (here : FeedFile) (read : RawRow → Result (Option A) FeedFault) (text : Option (List ℕ)) (found : Option (List A)) → Quiet (sieve_file here read text) found → rows_in here read text ≡ Ok found
quiet_file {A} here read text found q = by_told (rows_in here (bad read) text) refl q.told q.given
  where
    by_told : (m : Result (Option (List FeedFault)) FeedFault) → rows_in here (bad read) text ≡ m → (tell_found m (rows_in here (good read) text)).faults ≡ [] → (tell_found m (rows_in here (good read) text)).end ≡ Ok found → rows_in here read text ≡ Ok found
    by_told (Ok told) is none e = same_rows here (λ raw. fault_of (read raw)) read (good read) (λ raw h. good_same (read raw) h) text told is none ∙ e
    by_told (Err f) is none e = absurd (cc)

quiet_sift : {A : Type 0} (wrong : List A → A → List (Option FeedFault)) (kept rows ys : List A) → Quiet (sift wrong kept rows) ys → ys ≡ kept ++ rows
quiet_sift wrong kept [] ys q = sym (one kept ys q.given) ∙ sym (append-nil kept)
quiet_sift wrong kept (r ∷ rest) ys q = by_fault (first_wrong (wrong kept r)) (λ p. quiet_sift wrong (kept ++ r ∷ []) rest ys p) q.told q.given
  where
    by_fault : (o : Option FeedFault) → (Quiet (sift wrong (kept ++ r ∷ []) rest) ys → ys ≡ (kept ++ r ∷ []) ++ rest) → (keep_unless o (sift wrong (kept ++ r ∷ []) rest) (sift wrong kept rest)).faults ≡ []
        → (keep_unless o (sift wrong (kept ++ r ∷ []) rest) (sift wrong kept rest)).end ≡ Ok ys → ys ≡ kept ++ r ∷ rest
    by_fault None later told e = later (record { told = told; given = e }) ∙ append_assoc kept (r ∷ []) rest
    by_fault (Some f) later told e = absurd (cc)

-- rows of which none is told of are right beside one another
sift_right : {A : Type 0} (wrong : List A → A → List (Option FeedFault)) (rows ys : List A) → Quiet (sift wrong [] rows) ys → (ys ≡ rows) × (check_rows (λ _. wrong) rows ≡ Ok ys)
sift_right wrong rows ys q =
    let same : ys ≡ rows = quiet_sift wrong [] rows ys q in
    (same, ap (check_rows (λ _. wrong)) (sym same) ∙ sifted_right wrong rows ys q.given)

quiet_orphans : (n : ℕ) (rows ys : List StopData) → Quiet (leave_orphans n rows) ys → rows ≡ ys
quiet_orphans zero rows ys q = one rows ys q.given
quiet_orphans (suc n) rows ys q = by_found (filter (lacks_parent rows) rows) q.told q.given
  where
    by_found : (found : List StopData) → (leave_found found rows (leave_orphans n (filter (λ s. not (lacks_parent rows s)) rows))).faults ≡ [] → (leave_found found rows (leave_orphans n (filter (λ s. not (lacks_parent rows s)) rows))).end ≡ Ok ys → rows ≡ ys
    by_found [] told e = one rows ys e
    by_found (s ∷ more) told e = absurd (cc)

quiet_stops : (text : Option (List ℕ)) (ys : List StopData) → Quiet (left_stops text) ys → and_then (and_then (rows_in file.Stops stop_row text) (or_missing file.Stops)) check_stops ≡ Ok ys
quiet_stops text ys q =
    let a = quiet_look (sieve_file file.Stops stop_row text) _ ys q in
    let b = quiet_look (silent (or_missing file.Stops a.0)) _ ys a.2 in
    let c = quiet_look (sift (wrong_twice stop_id duplicate_stop) [] b.0) _ ys b.2 in
    let d = quiet_look (leave_orphans (length c.0) c.0) _ ys c.2 in
    let kept : c.0 ≡ b.0 = quiet_sift (wrong_twice stop_id duplicate_stop) [] b.0 c.0 c.1 in
    let same : b.0 ≡ d.0 = sym kept ∙ quiet_orphans (length c.0) c.0 d.0 d.1 in
    step (and_then (rows_in file.Stops stop_row text) (or_missing file.Stops)) check_stops b.0 (Ok ys)
    (step (rows_in file.Stops stop_row text) (or_missing file.Stops) a.0 (Ok b.0) (quiet_file file.Stops stop_row text a.0 a.1) b.1.given) (ap check_stops same ∙ d.2.given)

quiet_calendar : (found rows : Option (List CalendarData)) → Quiet (sift_found (wrong_twice service_id duplicate_service) found) rows → and_then (check_rows wrong_calendar (unwrap_or found [])) (λ _. Ok found) ≡ Ok rows
quiet_calendar None rows q = q.given
quiet_calendar (Some xs) rows q =
    let a = quiet_look (sift (wrong_twice service_id duplicate_service) [] xs) _ rows q in
    let right = sift_right (wrong_twice service_id duplicate_service) xs a.0 a.1 in
    step (check_rows wrong_calendar xs) (λ _. Ok (Some xs)) a.0 (Ok rows) right.1 (ap (λ l. Ok (Some l)) (sym right.0) ∙ a.2.given)

quiet_services : (calendar dates : Option (List ℕ)) (s : ServiceData) → Quiet (left_services calendar dates) s
    → and_then (and_then (rows_in file.Calendar calendar_row calendar) (λ rows. and_then (check_rows wrong_calendar (unwrap_or rows [])) (λ _. Ok rows))) (λ found. and_then (rows_in file.CalendarDates date_row dates) (check_services found)) ≡ Ok s
quiet_services calendar dates s q =
    let a = quiet_look (sieve_file file.Calendar calendar_row calendar) _ s q in
    let b = quiet_look (sift_found (wrong_twice service_id duplicate_service) a.0) _ s a.2 in
    let c = quiet_look (sieve_file file.CalendarDates date_row dates) _ s b.2 in
    step (and_then (rows_in file.Calendar calendar_row calendar) (λ rows. and_then (check_rows wrong_calendar (unwrap_or rows [])) (λ _. Ok rows))) _ b.0 (Ok s)
    (step (rows_in file.Calendar calendar_row calendar) _ a.0 (Ok b.0) (quiet_file file.Calendar calendar_row calendar a.0 a.1) (quiet_calendar a.0 b.0 b.1))
    (step (rows_in file.CalendarDates date_row dates) (check_services b.0) c.0 (Ok s) (quiet_file file.CalendarDates date_row dates c.0 c.1) c.2.given)

quiet_trips : (text : Option (List ℕ)) (ys : List trip.TripData) → Quiet (left_trips text) ys → and_then (and_then (rows_in file.Trips trip.trip_row text) (or_missing file.Trips)) (check_rows wrong_trip) ≡ Ok ys
quiet_trips text ys q =
    let a = quiet_look (sieve_file file.Trips trip.trip_row text) _ ys q in
    let b = quiet_look (silent (or_missing file.Trips a.0)) _ ys a.2 in
    let c = quiet_look (sift (wrong_twice trip_id duplicate_trip) [] b.0) _ ys b.2 in
    let kept : c.0 ≡ b.0 = quiet_sift (wrong_twice trip_id duplicate_trip) [] b.0 c.0 c.1 in
    step (and_then (rows_in file.Trips trip.trip_row text) (or_missing file.Trips)) (check_rows wrong_trip) b.0 (Ok ys)
    (step (rows_in file.Trips trip.trip_row text) (or_missing file.Trips) a.0 (Ok b.0) (quiet_file file.Trips trip.trip_row text a.0 a.1) b.1.given) (ap (check_rows wrong_trip) (sym kept) ∙ c.2.given)

all_left : (rows : List StopTime) → without_trips [] rows ≡ rows
all_left [] = refl
all_left (r ∷ rest) = ap (λ l. r ∷ l) (all_left rest)

quiet_leave : (found : List TripFault) (rows ys : List StopTime) → Quiet (leave_trips found rows) ys → (found ≡ []) × (rows ≡ ys)
quiet_leave [] rows ys q = (refl, sym (all_left rows) ∙ one (without_trips [] rows) ys q.given)
quiet_leave (t ∷ more) rows ys q = absurd (let some = q.told in cc)

-- a file that has to be there
given_rows : {A : Type 0} (here : FeedFile) (m : Result (Option (List A)) FeedFault) (rows : List A) → and_then m (or_missing here) ≡ Ok rows → m ≡ Ok (Some rows)
given_rows here (Ok (Some ys)) rows e = ap (λ l. Ok (Some l)) (one ys rows e)
given_rows here (Ok None) rows e = absurd (cc)
given_rows here (Err f) rows e = absurd (cc)

module _ (stops : List StopData) (trips : List trip.TripData) where
  time_same : (n : ℕ) (r : Result (Option StopTime) FeedFault) → option_map (λ (f : FeedFault). (let t : TripFault = record { trip = n; fault = f } in t)) (wrong_in stops trips r) ≡ None → r ≡ Ok (unless_bad (wrong_in stops trips r) (or_nothing r))
  time_same n (Err f) e = absurd (cc)
  time_same n (Ok None) e = refl
  time_same n (Ok (Some r)) e = by_names (wrong_names stops trips r) e
    where
      by_names : (o : Option FeedFault) → option_map (λ (f : FeedFault). (let t : TripFault = record { trip = n; fault = f } in t)) o ≡ None → (let q : Result (Option StopTime) FeedFault = Ok (Some r) in q) ≡ Ok (unless_bad o (Some r))
      by_names None q = refl
      by_names (Some f) q = absurd (cc)

  quiet_times : (text : Option (List ℕ)) (ys : List StopTime) → Quiet (left_times stops trips text) ys → and_then (and_then (rows_in file.StopTimes (numbered_row stops trips) text) (or_missing file.StopTimes)) (check_rows (wrong_time stops trips)) ≡ Ok ys
  quiet_times text ys q =
      let p = quiet_look (apart_times stops trips text) (timed_rows stops trips) ys q in
      let a = quiet_look (times_in (bad_time stops trips) text) _ p.0 p.1 in
      let b = quiet_look (times_in (good_time stops trips) text) _ p.0 a.2 in
      let c = quiet_look (leave_trips a.0 b.0) (λ named. leave_trips (twins [] named) named) p.0 b.2 in
      let named = quiet_leave a.0 b.0 c.0 c.1 in
      let apart = quiet_leave (twins [] c.0) c.0 p.0 c.2 in
      let d = quiet_look (silent (check_rows (wrong_time stops trips) p.0)) _ ys p.2 in
      let timed = quiet_leave (broken_trips d.0 (length trips)) d.0 ys d.2 in
      let read = same_rows file.StopTimes (λ raw. option_map (λ f. record { trip = trip_number trips (cell raw stop_times.TRIP_ID); fault = f }) (wrong_in stops trips (numbered_row stops trips raw))) (numbered_row stops trips) (good_time stops trips)
      (λ raw e. time_same (trip_number trips (cell raw stop_times.TRIP_ID)) (numbered_row stops trips raw) e) text (Some a.0) (given_rows file.StopTimes (rows_in file.StopTimes (bad_time stops trips) text) a.0 a.1.given) named.0 in
      step (and_then (rows_in file.StopTimes (numbered_row stops trips) text) (or_missing file.StopTimes)) (check_rows (wrong_time stops trips)) b.0 (Ok ys)
      (ap (λ m. and_then m (or_missing file.StopTimes)) read ∙ b.1.given) (ap (check_rows (wrong_time stops trips)) (named.1 ∙ apart.1) ∙ d.1.given ∙ ap Ok timed.1)

quiet_transfers : (stops : List StopData) (text : Option (List ℕ)) (ys : List TransferData) → Quiet (left_transfers stops text) ys → and_then (and_then (rows_in file.Transfers transfer_row text) (λ rows. Ok (unwrap_or rows []))) (check_transfers stops) ≡ Ok ys
quiet_transfers stops text ys q =
    let a = quiet_look (sieve_file file.Transfers transfer_row text) _ ys q in
    let right = sift_right (wrong_transfer stops []) (unwrap_or a.0 []) ys a.2 in
    step (and_then (rows_in file.Transfers transfer_row text) (λ rows. Ok (unwrap_or rows []))) (check_transfers stops) (unwrap_or a.0 []) (Ok ys)
    (step (rows_in file.Transfers transfer_row text) (λ rows. Ok (unwrap_or rows [])) a.0 (Ok (unwrap_or a.0 [])) (quiet_file file.Transfers transfer_row text a.0 a.1) refl)
    (ap (check_transfers stops) (sym right.0) ∙ transfers_right stops text ys q.given)

module _ (trips : List trip.TripData) (gone : List Bool) where
  start_same : (other : Option FrequencyData) (r : Result (Option FrequencyData) FeedFault) → fault_of (and_then r (name_row trips gone)) ≡ None → r ≡ Ok (or_no_starts other (and_then r (name_row trips gone)))
  start_same other (Err f) e = absurd (cc)
  start_same other (Ok None) e = refl
  start_same other (Ok (Some f)) e = by_name (unknown_trip trips (numbered_frequency trips f)) (names_gone gone (numbered_frequency trips f)) e
    where
      named : Option FeedFault → Option FeedFault → Result (Option FrequencyData) FeedFault
      named o p = unless_wrong (o ∷ p ∷ []) (Some f)

      by_name : (o p : Option FeedFault) → fault_of (named o p) ≡ None → (let q : Result (Option FrequencyData) FeedFault = Ok (Some f) in q) ≡ Ok (or_no_starts other (named o p))
      by_name None None q = refl
      by_name None (Some g) q = absurd (cc)
      by_name (Some g) p q = absurd (cc)

  quiet_named : (text : Option (List ℕ)) (ys : List TripFrequency) → Quiet (named_frequencies trips gone text) ys
      → and_then (and_then (rows_in file.Frequencies frequency_row text) (λ rows. Ok (unwrap_or rows []))) (λ rows. check_named trips (map (numbered_frequency trips) rows)) ≡ Ok ys
  quiet_named text ys q = by_told (rows_in file.Frequencies (bad (named_frequency trips gone)) text) refl q.told q.given
    where
      left : Result (List TripFrequency) FeedFault
      left = and_then (rows_in file.Frequencies (left_frequency trips gone) text) (λ rows. check_named trips (map (numbered_frequency trips) (unwrap_or rows [])))

      flat : (m : Result (Option (List FrequencyData)) FeedFault) → and_then m (λ rows. check_named trips (map (numbered_frequency trips) (unwrap_or rows []))) ≡ Ok ys → and_then (and_then m (λ rows. Ok (unwrap_or rows []))) (λ rows. check_named trips (map (numbered_frequency trips) rows)) ≡ Ok ys
      flat (Ok found) e = e
      flat (Err f) e = absurd (cc)

      by_told : (m : Result (Option (List FeedFault)) FeedFault) → rows_in file.Frequencies (bad (named_frequency trips gone)) text ≡ m → (tell_found m left).faults ≡ [] → (tell_found m left).end ≡ Ok ys
          → and_then (and_then (rows_in file.Frequencies frequency_row text) (λ rows. Ok (unwrap_or rows []))) (λ rows. check_named trips (map (numbered_frequency trips) rows)) ≡ Ok ys
      by_told (Err f) is none e = absurd (cc)
      by_told (Ok told) is none e =
          flat (rows_in file.Frequencies frequency_row text)
          (ap (λ (m : Result (Option (List FrequencyData)) FeedFault). and_then m (λ rows. check_named trips (map (numbered_frequency trips) (unwrap_or rows []))))
          (same_rows file.Frequencies (λ raw. fault_of (named_frequency trips gone raw)) frequency_row (left_frequency trips gone)
          (λ raw h. start_same (no_starts trips raw.row (cell raw frequencies.TRIP_ID)) (frequency_row raw) h) text told is none) ∙ e)

-- rows of which none is told of give their starts
same_starts : (rides : List (List Event)) (rows : List TripFrequency) → flat_map (start_faults rides) rows ≡ [] → map (left_start rides) rows ≡ rows
same_starts rides [] e = refl
same_starts rides (f ∷ rest) e = by_fault (wrong_start rides f) (λ q. same_starts rides rest q) e
  where
    by_fault : (o : Option FeedFault) → (flat_map (start_faults rides) rest ≡ [] → map (left_start rides) rest ≡ rest) → option_to_list o ++ flat_map (start_faults rides) rest ≡ [] → start_unless o f ∷ map (left_start rides) rest ≡ f ∷ rest
    by_fault None later q = ap (λ l. f ∷ l) (later q)
    by_fault (Some g) later q = absurd (cc)

quiet_starts : (rows : Rows) (named ys : List TripFrequency) → Quiet (left_starts rows named) ys → named ≡ ys
quiet_starts rows [] ys q = one [] ys q.given
quiet_starts rows (f ∷ others) ys q =
    let a = quiet_look (silent (rides_of_rows rows)) (leave_starts (f ∷ others)) ys q in
    sym (same_starts a.0 (f ∷ others) a.2.told) ∙ one (map (left_start a.0) (f ∷ others)) ys a.2.given

-- the bytes of each file are those of the feed
record AreTexts (feed : Feed) (texts : List (Option (List ℕ))) : Type 0 where
  stops : sized file.Stops (feed file.Stops) ≡ Ok (text_at texts 0)
  calendar : sized file.Calendar (feed file.Calendar) ≡ Ok (text_at texts 1)
  dates : sized file.CalendarDates (feed file.CalendarDates) ≡ Ok (text_at texts 2)
  trips : sized file.Trips (feed file.Trips) ≡ Ok (text_at texts 3)
  times : sized file.StopTimes (feed file.StopTimes) ≡ Ok (text_at texts 4)
  transfers : sized file.Transfers (feed file.Transfers) ≡ Ok (text_at texts 5)
  frequencies : sized file.Frequencies (feed file.Frequencies) ≡ Ok (text_at texts 6)

-- those of the first file, and of the others
first_text : (feed : Feed) (here : FeedFile) (rest : List FeedFile) (texts : List (Option (List ℕ))) → sized_all feed (here ∷ rest) ≡ Ok texts
    → (text : Option (List ℕ)) × (more : List (Option (List ℕ))) × (texts ≡ text ∷ more) × (sized here (feed here) ≡ Ok text) × (sized_all feed rest ≡ Ok more)
first_text feed here rest texts e = by_sized (sized here (feed here)) refl (sized_all feed rest) refl e
  where
    by_sized : (m : Result (Option (List ℕ)) FeedFault) → sized here (feed here) ≡ m → (all : Result (List (Option (List ℕ))) FeedFault) → sized_all feed rest ≡ all → and_then m (λ text. prepend (text ∷ []) all) ≡ Ok texts
        → (text : Option (List ℕ)) × (more : List (Option (List ℕ))) × (texts ≡ text ∷ more) × (sized here (feed here) ≡ Ok text) × (sized_all feed rest ≡ Ok more)
    by_sized (Ok text) is (Ok more) also q = (text, more, sym (one (text ∷ more) texts q), is, also)
    by_sized (Ok text) is (Err f) also q = absurd (cc)
    by_sized (Err f) is all also q = absurd (cc)

texts_are : (feed : Feed) (texts : List (Option (List ℕ))) → sized_all feed feed_files ≡ Ok texts → AreTexts feed texts
texts_are feed texts e =
    let a = first_text feed file.Stops (file.Calendar ∷ file.CalendarDates ∷ file.Trips ∷ file.StopTimes ∷ file.Transfers ∷ file.Frequencies ∷ []) texts e in
    let b = first_text feed file.Calendar (file.CalendarDates ∷ file.Trips ∷ file.StopTimes ∷ file.Transfers ∷ file.Frequencies ∷ []) a.1 a.4 in
    let c = first_text feed file.CalendarDates (file.Trips ∷ file.StopTimes ∷ file.Transfers ∷ file.Frequencies ∷ []) b.1 b.4 in
    let d = first_text feed file.Trips (file.StopTimes ∷ file.Transfers ∷ file.Frequencies ∷ []) c.1 c.4 in
    let f = first_text feed file.StopTimes (file.Transfers ∷ file.Frequencies ∷ []) d.1 d.4 in
    let g = first_text feed file.Transfers (file.Frequencies ∷ []) f.1 f.4 in
    let h = first_text feed file.Frequencies [] g.1 g.4 in
    let all : texts ≡ a.0 ∷ b.0 ∷ c.0 ∷ d.0 ∷ f.0 ∷ g.0 ∷ h.0 ∷ h.1 =
    a.2 ∙ ap (λ l. a.0 ∷ l) (b.2 ∙ ap (λ l. b.0 ∷ l) (c.2 ∙ ap (λ l. c.0 ∷ l) (d.2 ∙ ap (λ l. d.0 ∷ l) (f.2 ∙ ap (λ l. f.0 ∷ l) (g.2 ∙ ap (λ l. g.0 ∷ l) h.2))))) in
    record {
      stops = a.3 ∙ ap (λ l. Ok (text_at l 0)) (sym all);
      calendar = b.3 ∙ ap (λ l. Ok (text_at l 1)) (sym all);
      dates = c.3 ∙ ap (λ l. Ok (text_at l 2)) (sym all);
      trips = d.3 ∙ ap (λ l. Ok (text_at l 3)) (sym all);
      times = f.3 ∙ ap (λ l. Ok (text_at l 4)) (sym all);
      transfers = g.3 ∙ ap (λ l. Ok (text_at l 5)) (sym all);
      frequencies = h.3 ∙ ap (λ l. Ok (text_at l 6)) (sym all);
    }

-- the rows of a file of a feed
file_read : {A : Type 0} (feed : Feed) (here : FeedFile) (read : RawRow → Result (Option A) FeedFault) (text : Option (List ℕ)) → sized here (feed here) ≡ Ok text → file_rows feed here read ≡ rows_in here read text
file_read feed here read text e = ap (λ m. and_then m (rows_in here read)) e

quiet_rows : (feed : Feed) (texts : List (Option (List ℕ))) (rows : Rows) → AreTexts feed texts → Quiet (left_rows texts) rows → rows_of feed ≡ Ok rows
quiet_rows feed texts rows t q =
    let a = quiet_look (left_stops (text_at texts 0)) _ rows q in
    let b = quiet_look (left_services (text_at texts 1) (text_at texts 2)) _ rows a.2 in
    let c = quiet_look (left_trips (text_at texts 3)) _ rows b.2 in
    let d = quiet_look (left_times a.0 c.0 (text_at texts 4)) _ rows c.2 in
    let stops : stops_of feed ≡ Ok a.0 = ap (λ m. and_then (and_then m (or_missing file.Stops)) check_stops) (file_read feed file.Stops stop_row (text_at texts 0) t.stops) ∙ quiet_stops (text_at texts 0) a.0 a.1 in
    let services : services_of feed ≡ Ok b.0 =
    ap (λ m. and_then (and_then m (λ rows. and_then (check_rows wrong_calendar (unwrap_or rows [])) (λ _. Ok rows))) (λ found. and_then (file_rows feed file.CalendarDates date_row) (check_services found))) (file_read feed file.Calendar calendar_row (text_at texts 1) t.calendar)
    ∙ ap (λ m. and_then (and_then (rows_in file.Calendar calendar_row (text_at texts 1)) (λ rows. and_then (check_rows wrong_calendar (unwrap_or rows [])) (λ _. Ok rows))) (λ found. and_then m (check_services found))) (file_read feed file.CalendarDates date_row (text_at texts 2) t.dates)
    ∙ quiet_services (text_at texts 1) (text_at texts 2) b.0 b.1 in
    let trips : trips_of_feed feed ≡ Ok c.0 = ap (λ m. and_then (and_then m (or_missing file.Trips)) (check_rows wrong_trip)) (file_read feed file.Trips trip.trip_row (text_at texts 3) t.trips) ∙ quiet_trips (text_at texts 3) c.0 c.1 in
    let times : times_of_feed feed a.0 c.0 ≡ Ok d.0 =
    ap (λ m. and_then (and_then m (or_missing file.StopTimes)) (check_rows (wrong_time a.0 c.0))) (file_read feed file.StopTimes (numbered_row a.0 c.0) (text_at texts 4) t.times) ∙ quiet_times a.0 c.0 (text_at texts 4) d.0 d.1 in
    step (stops_of feed) (rows_after_stops feed) a.0 (Ok rows) stops
    (step (services_of feed) (rows_after_services feed a.0) b.0 (Ok rows) services (step (trips_of_feed feed) (rows_after_trips feed a.0 b.0) c.0 (Ok rows) trips (step (times_of_feed feed a.0 c.0) _ d.0 (Ok rows) times d.2.given)))

-- what is left is what the feed has
quiet_parts : (feed : Feed) (day : ℕ) (options : Options) (texts : List (Option (List ℕ))) (left : LeftData) → AreTexts feed texts → Quiet (left_data texts) left → day_parts feed day options ≡ parts_left day options left
unfolding day_parts
quiet_parts feed day options texts left t q =
    let a = quiet_look (left_rows texts) (left_after_rows texts) left q in
    let b = quiet_look (left_transfers a.0.stops (text_at texts 5)) _ left a.2 in
    let gone = gone_trips a.0.stops a.0.trips (text_at texts 4) in
    let c = quiet_look (left_frequencies a.0 gone (text_at texts 6)) _ left b.2 in
    let d = quiet_look (named_frequencies a.0.trips gone (text_at texts 6)) (left_starts a.0) c.0 c.1 in
    let same : record { rows = a.0; transfers = b.0; frequencies = c.0 } ≡ left = one (record { rows = a.0; transfers = b.0; frequencies = c.0 }) left c.2.given in
    let transfers : transfers_of_feed feed a.0.stops ≡ Ok b.0 =
    ap (λ m. and_then (and_then m (λ rows. Ok (unwrap_or rows []))) (check_transfers a.0.stops)) (file_read feed file.Transfers transfer_row (text_at texts 5) t.transfers) ∙ quiet_transfers a.0.stops (text_at texts 5) b.0 b.1 in
    let frequencies : frequencies_of feed a.0.trips ≡ Ok c.0 =
    ap (λ m. and_then (and_then m (λ rows. Ok (unwrap_or rows []))) (λ rows. check_named a.0.trips (map (numbered_frequency a.0.trips) rows))) (file_read feed file.Frequencies frequency_row (text_at texts 6) t.frequencies)
    ∙ quiet_named a.0.trips gone (text_at texts 6) d.0 d.1 ∙ ap Ok (quiet_starts a.0 d.0 c.0 d.2) in
    let given = given_footpaths a.0.stops options b.0 in
    step (rows_of feed) (parts_after_rows feed day options) a.0 (parts_left day options left) (quiet_rows feed texts a.0 t a.1)
    (step (transfers_of_feed feed a.0.stops) _ b.0 (parts_left day options left) transfers
    (step (frequencies_of feed a.0.trips) (λ frequencies. parts_on a.0 frequencies day options.horizon given) c.0 (parts_left day options left) frequencies
    (subst (λ (l : LeftData). parts_on a.0 c.0 day options.horizon given ≡ parts_left day options l) same
    (sym (step (check_transfers a.0.stops b.0) (λ transfers. parts_on a.0 c.0 day options.horizon (given_footpaths a.0.stops options transfers)) b.0 (parts_on a.0 c.0 day options.horizon given) (transfers_right a.0.stops (text_at texts 5) b.0 b.1.given) refl)))))

-- a look that gives a timetable gives something before
then_given : (day : ℕ) (options : Options) (looked : Sieved LeftData) (T : TimetableData) → looked.faults ≡ [] → Then looked.end (IsTimetableLeft day options) (Ok T) → (left : LeftData) × Quiet looked left × IsTimetableLeft day options left (Ok T)
then_given day options looked T none h = by_end looked.end refl h
  where
    by_end : (end : Result LeftData FeedFault) → looked.end ≡ end → Then end (IsTimetableLeft day options) (Ok T) → (left : LeftData) × Quiet looked left × IsTimetableLeft day options left (Ok T)
    by_end (Ok left) is q = (left, record { told = none; given = is }, q)
    by_end (Err f) is q = absurd (cc)

left_whole : (feed : Feed) (day : ℕ) (options : Options) (T : TimetableData) → IsLeftOf feed day options [] [] (Ok T) → IsTimetableOf feed day options (Ok T)
left_whole feed day options T h =
    let looked = and_look (silent (sized_all feed feed_files)) left_data in
    let left = then_given day options looked T (sym h.0) h.1 in
    let parts = quiet_look (silent (sized_all feed feed_files)) left_data left.0 left.1 in
    subst (λ (m : Result DayParts FeedFault). Then m (IsTimetableOfParts options.close) (Ok T)) (sym (quiet_parts feed day options parts.0 left.0 (texts_are feed parts.0 parts.1.given) parts.2)) left.2

-- where nothing is left out, the feed has the timetable
pub lenient_whole : (feed : Feed) (day : ℕ) (options : Options) (T : TimetableData) → IsLenientOf feed day options [] (Ok T) → IsTimetableOf feed day options (Ok T)
lenient_whole feed day options T (inl (is, unborne, none)) = is
lenient_whole feed day options T (inr (f, is, borne, left)) = left_whole feed day options T left

-- a feed of which nothing is told has a timetable
pub checked_good : (feed : Feed) (day : ℕ) (options : Options) → AreFaultsOf feed day options [] → (T : TimetableData) × IsTimetableOf feed day options (Ok T)
checked_good feed day options (told, Ok T, is, none) = (T, lenient_whole feed day options T (subst (λ (l : List FeedFault). IsLenientOf feed day options l (Ok T)) (sym none) is))
checked_good feed day options (told, Err f, is, none) = absurd (some_last told none)
  where
    some_last : (told : List FeedFault) → [] ≡ told ++ f ∷ [] → ⊥
    some_last [] e = cc
    some_last (g ∷ more) e = cc
