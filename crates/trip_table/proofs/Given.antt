-- There is a timetable of each day, or a first fault.
use Rattle.std.proofs.Common.{◌≡◌, ◌∙◌, refl, ap, subst, ℕ, zero, suc, ◌≤◌, ◌⊎◌, List, [], ◌∷◌, length, inl, inr, Option, Some, None, Bool, true, false, arith}
use Rattle.std.specs.Prelude.{Result, Ok, Err, IfSome, All, unwrap_or, option_to_list}
use Rattle.std.proofs.lemmas.List.Elements.{All-nil}
use Rattle.tb_base.specs.TimetableData.{TimetableData, FootpathData}
use Rattle.tb_base.specs.Walking.{KeepsFootpathLaw}
use Rattle.gtfs_rows.specs.Steps.{and_then, prepend}
use Rattle.gtfs_rows.specs.Columns.{row_limit}
use Rattle.gtfs_rows.specs.Faults.{wrong_after}
use Rattle.gtfs_rows.specs.RawRows.{RawRow, shape, table, typed_rows}
use Rattle.gtfs_rows.specs.StopsFile.{StopData, stop_row, is_platform}
use Rattle.gtfs_rows.specs.TransfersFile.{TakesAtMostADay, TransferData, transfer_row}
use Rattle.gtfs_rows.specs.declared.fault.FeedFile.{FeedFile}
use Rattle.gtfs_rows.specs.declared.fault.FeedFile.TheVariants as file
use Rattle.gtfs_rows.specs.declared.fault.FeedFault.{FeedFault}
use Rattle.footpaths.specs.declared.law.LawFault.{LawFault}
use Rattle.footpaths.specs.declared.paths.Options.{Options}
use Rattle.footpaths.specs.Stops.{platforms, wrong_stop, check_stops}
use Rattle.footpaths.specs.Links.{wrong_transfer, check_transfers}
use Rattle.footpaths.specs.Footpaths.{changes}
use Rattle.footpaths.specs.Law.{IsFirstBreach}
use Rattle.tb_base.specs.Soundness.{IsSoundFootpaths}
use Rattle.footpaths.proofs.Sound.{secs_day, sound_paths}
use Rattle.tb_base.proofs.Lists.{length-filter_le}
use Rattle.trip_table.specs.Feed.{Feed, sized, rows_in, file_rows, or_missing, required}
use Rattle.trip_table.specs.References.{Rows, rows_of, stops_of, services_of, trips_of_feed, times_of_feed, transfer_rows_of, transfers_of_feed, frequencies_of}
use Rattle.trip_table.specs.Day.{DayParts, day_parts, given_footpaths, trips_on, breach_fault, timetable, KeepTheLaw, AreClosedOrTested, IsTimetableOf, IsTimetableOfParts, Then}
use Rattle.trip_table.proofs.Steps.{one_value, stepped}
use Rattle.trip_table.proofs.DayTrips.{unless_wrong-value}
use Rattle.trip_table.proofs.TransferTimes.{rows_day}
use Rattle.trip_table.proofs.FirstBreach.{kept_or_breached}
use Rattle.trip_table.proofs.FirstFar.{closing_given}

-- a file has no more rows than its limit
row_few : {A : Type 0} (row : Result (Option A) FeedFault) (rest : Result (List A) FeedFault) (xs : List A) (room : ℕ) → ((ys : List A) → rest ≡ Ok ys → length ys ≤ room)
    → and_then row (λ o. prepend (option_to_list o) rest) ≡ Ok xs → length xs ≤ suc room
row_few (Err f) rest xs room h e = absurd (cc)
row_few (Ok None) (Err f) xs room h e = absurd (cc)
row_few (Ok (Some x)) (Err f) xs room h e = absurd (cc)
row_few (Ok None) (Ok ys) xs room h e = let same : ys ≡ xs = cc in let few = h ys refl in omega (arith, few, ap length same)
row_few (Ok (Some x)) (Ok ys) xs room h e = let same : x ∷ ys ≡ xs = cc in let few = h ys refl in omega (arith, few, ap length same)

shape_few : {A : Type 0} (file : FeedFile) (read : RawRow → Result (Option A) FeedFault) (room : ℕ) (raw_rows : List RawRow) (xs : List A) → shape file read room raw_rows ≡ Ok xs → length xs ≤ room
shape_few file read room [] xs e = let same : [] ≡ xs = cc in omega (arith, ap length same)
shape_few file read zero (raw ∷ rest) xs e = absurd (cc)
shape_few file read (suc room) (raw ∷ rest) xs e = row_few (read raw) (shape file read room rest) xs room (shape_few file read room rest) e

typed_few : {A : Type 0} (file : FeedFile) (read : RawRow → Result (Option A) FeedFault) (text : List ℕ) (xs : List A) → typed_rows file read text ≡ Ok xs → length xs ≤ row_limit file
typed_few file read text xs e =
    let raw_rows = stepped (table file text) (shape file read (row_limit file)) xs e in
    shape_few file read (row_limit file) raw_rows.0 xs raw_rows.2

-- the bytes of which a file's rows come
bytes_of : {A : Type 0} (file : FeedFile) (read : RawRow → Result (Option A) FeedFault) (bytes : Option (List ℕ)) (xs : List A) → rows_in file read bytes ≡ Ok (Some xs) → (text : List ℕ) × (typed_rows file read text ≡ Ok xs)
bytes_of file read None xs e = absurd (let c : (let r : Result (Option (List _)) FeedFault = Ok None in r) ≡ Ok (Some xs) = e in cc)
bytes_of file read (Some text) xs e =
    let rows = stepped (typed_rows file read text) (λ rows. Ok (Some rows)) (Some xs) e in
    let some : Some rows.0 ≡ Some xs = one_value (Some rows.0) (Some xs) rows.2 in
    let same : rows.0 ≡ xs = cc in
    (text, rows.1 ∙ ap Ok same)

text_of : {A : Type 0} (feed : Feed) (file : FeedFile) (read : RawRow → Result (Option A) FeedFault) (xs : List A) → file_rows feed file read ≡ Ok (Some xs) → (text : List ℕ) × (typed_rows file read text ≡ Ok xs)
text_of feed file read xs e =
    let bytes = stepped (sized file (feed file)) (rows_in file read) (Some xs) e in
    bytes_of file read bytes.0 xs bytes.2

there : {A : Type 0} (file : FeedFile) (o : Option (List A)) (xs : List A) → or_missing file o ≡ Ok xs → o ≡ Some xs
there file None xs e = absurd (cc)
there file (Some ys) xs e = ap Some (one_value ys xs e)

-- there are at most 100,000 rows of stops.txt
few_stops : (feed : Feed) (stops : List StopData) → stops_of feed ≡ Ok stops → length stops ≤ 100000
few_stops feed stops e =
    let rows = stepped (required feed file.Stops stop_row) check_stops stops e in
    let read = stepped (file_rows feed file.Stops stop_row) (or_missing file.Stops) rows.0 rows.1 in
    let text = text_of feed file.Stops stop_row rows.0 (read.1 ∙ ap Ok (there file.Stops read.0 rows.0 read.2)) in
    let same : rows.0 ≡ stops = unless_wrong-value (wrong_after (wrong_stop rows.0) [] rows.0) rows.0 stops rows.2 in
    let few : length rows.0 ≤ 100000 = typed_few file.Stops stop_row text.0 rows.0 text.1 in
    omega (arith, few, ap length same)

stops_given : (feed : Feed) (rows : Rows) → rows_of feed ≡ Ok rows → stops_of feed ≡ Ok rows.stops
stops_given feed rows e =
    let a = stepped (stops_of feed) _ rows e in
    let b = stepped (services_of feed) _ rows a.2 in
    let c = stepped (trips_of_feed feed) _ rows b.2 in
    let d = stepped (times_of_feed feed a.0 c.0) _ rows c.2 in
    let same : record { stops = a.0; services = b.0; trips = c.0; times = d.0 } ≡ rows = one_value (record { stops = a.0; services = b.0; trips = c.0; times = d.0 }) rows d.2 in
    a.1 ∙ ap (λ (r : Rows). Ok r.stops) same

-- the rows of transfers.txt take at most a day
short_option : (feed : Feed) (o : Option (List TransferData)) → file_rows feed file.Transfers transfer_row ≡ Ok o → All (λ r. TakesAtMostADay (TransferData.rule r)) (unwrap_or o [])
short_option feed None e = All-nil (λ r. TakesAtMostADay (TransferData.rule r))
short_option feed (Some rows) e = let text = text_of feed file.Transfers transfer_row rows e in rows_day text.0 rows text.1

short : (feed : Feed) (stops : List StopData) (transfers : List TransferData) → transfers_of_feed feed stops ≡ Ok transfers → All (λ r. TakesAtMostADay (TransferData.rule r)) transfers
short feed stops transfers e =
    let rows = stepped (transfer_rows_of feed) (check_transfers stops) transfers e in
    let read = stepped (file_rows feed file.Transfers transfer_row) (λ rows. Ok (unwrap_or rows [])) rows.0 rows.1 in
    let first : unwrap_or read.0 [] ≡ rows.0 = one_value (unwrap_or read.0 []) rows.0 read.2 in
    let same : rows.0 ≡ transfers = unless_wrong-value (wrong_after (wrong_transfer stops rows.0) [] rows.0) rows.0 transfers rows.2 in
    subst (λ (rows : List TransferData). All (λ r. TakesAtMostADay (TransferData.rule r)) rows) (first ∙ same) (short_option feed read.0 read.1)

-- the change times and footpaths that are given are sound
given_sound : (stops : List StopData) (options : Options) (transfers : List TransferData) (footpaths : FootpathData) → options.change ≤ 86400 → IfSome options.station (λ secs. secs ≤ 86400) → length stops ≤ 100000
    → All (λ r. TakesAtMostADay (TransferData.rule r)) transfers → given_footpaths stops options transfers ≡ Ok footpaths → IsSoundFootpaths footpaths
unfolding given_footpaths
given_sound stops options transfers footpaths h k few days e =
    let kept = length-filter_le (λ (s : StopData). is_platform s.kind) stops in
    let some : length (platforms stops) ≤ 100000 = omega (arith, few, kept) in
    sound_paths (changes stops transfers options) (length (platforms stops)) footpaths some (λ p q. secs_day stops options transfers p q h k days) e

parts_sound : (feed : Feed) (day : ℕ) (options : Options) (parts : DayParts) → options.change ≤ 86400 → IfSome options.station (λ secs. secs ≤ 86400) → day_parts feed day options ≡ Ok parts → IsSoundFootpaths parts.footpaths
unfolding day_parts
parts_sound feed day options parts h k e =
    let rows = stepped (rows_of feed) _ parts e in
    let transfers = stepped (transfers_of_feed feed rows.0.stops) _ parts rows.2 in
    let frequencies = stepped (frequencies_of feed rows.0.trips) _ parts transfers.2 in
    let given = given_footpaths rows.0.stops options transfers.0 in
    let trips = stepped (trips_on rows.0 frequencies.0 day options.horizon) _ parts frequencies.2 in
    let footpaths = stepped given _ parts trips.2 in
    let same = one_value (record { stops = rows.0.stops; footpaths = footpaths.0; trips = trips.0 }) parts footpaths.2 in
    let sound = given_sound rows.0.stops options transfers.0 footpaths.0 h k (few_stops feed rows.0.stops (stops_given feed rows.0 rows.1)) (short feed rows.0.stops transfers.0 transfers.1) footpaths.1 in
    subst (λ (P : FootpathData). IsSoundFootpaths P) (ap (λ (parts : DayParts). parts.footpaths) same) sound

-- something becomes of sound change times and footpaths
tested_given : (stops : List StopData) (P : FootpathData) → KeepsFootpathLaw P ⊎ ((f : LawFault) × IsFirstBreach P f) → (r : Result FootpathData FeedFault) × KeepTheLaw stops P r
tested_given stops P (inl law) = (Ok P, (refl, law))
tested_given stops P (inr (f, first)) = (Err (breach_fault stops f), (f, first, refl))

settled_given : (close : Bool) (stops : List StopData) (P : FootpathData) → IsSoundFootpaths P → (r : Result FootpathData FeedFault) × AreClosedOrTested close stops P r
settled_given true stops P sound = closing_given P sound stops
settled_given false stops P sound = tested_given stops P (kept_or_breached P sound)

parts_given : (close : Bool) (parts : DayParts) → ((r : Result FootpathData FeedFault) × AreClosedOrTested close parts.stops parts.footpaths r) → (r : Result TimetableData FeedFault) × IsTimetableOfParts close parts r
parts_given close parts (Ok footpaths, held) = (Ok (timetable parts footpaths), (footpaths, held, refl))
parts_given close parts (Err f, held) = (Err f, held)

-- there is a timetable of the day, or a first fault
pub timetable_is : (feed : Feed) (day : ℕ) (options : Options) → options.change ≤ 86400 → IfSome options.station (λ secs. secs ≤ 86400) → (r : Result TimetableData FeedFault) × IsTimetableOf feed day options r
timetable_is feed day options h k = by_parts (day_parts feed day options) refl
  where
    by_parts : (meant : Result DayParts FeedFault) → day_parts feed day options ≡ meant → (r : Result TimetableData FeedFault) × Then meant (IsTimetableOfParts options.close) r
    by_parts (Err f) e = (Err f, refl)
    by_parts (Ok parts) e = parts_given options.close parts (settled_given options.close parts.stops parts.footpaths (parts_sound feed day options parts h k e))
