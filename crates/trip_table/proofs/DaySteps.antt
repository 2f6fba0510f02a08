-- What is told of a day comes from what is told of its files.
use Rattle.std.proofs.Common.{◌≡◌, refl, sym, ap, subst, ℕ, List, Option}
use Rattle.std.specs.Prelude.{Bool, Result, Ok, Err, IsSome}
use Rattle.tb_io.specs.Files.{FileList}
use Rattle.tb_base.specs.declared.days.Horizon.{Horizon}
use Rattle.tb_base.specs.TimetableData.{TimetableData, FootpathData}
use Rattle.gtfs_rows.specs.Steps.{and_then}
use Rattle.gtfs_rows.specs.StopsFile.{StopData}
use Rattle.gtfs_rows.specs.TransfersFile.{TransferData}
use Rattle.gtfs_rows.specs.TripsFile as row
use Rattle.gtfs_rows.specs.declared.fault.FeedFault.{FeedFault}
use Rattle.gtfs_rows.specs.declared.fault.RowsFault.{RowsFault}
use Rattle.gtfs_rows.specs.declared.fault.RowsFault.TheVariants as refusal
use Rattle.footpaths.specs.declared.paths.Options.{Options}
use Rattle.service_trips.specs.declared.frequency.TripFrequency.{TripFrequency}
use Rattle.trip_table.specs.Feed.{Feed}
use Rattle.trip_table.specs.Answers.{Gives, IsFault, IsDayRefused, IsRowsFault, feed_of}
use Rattle.trip_table.specs.OfRows.{day_fault}
use Rattle.trip_table.specs.References.{Rows, rows_of, transfers_of_feed, frequencies_of}
use Rattle.trip_table.specs.Day.{DayParts, parts_on, parts_after_paths, parts_after_rows, given_footpaths, day_parts, IsTimetableOf, IsTimetableOfParts, Then}
use Rattle.trip_table.specs.declared.day_fault.DayFault.{DayFault}
use Rattle.trip_table.specs.declared.day_fault.DayFault.TheVariants as why
use Rattle.trip_table.proofs.Told.{refused}

-- what becomes of something equal
pub then_same : (close : Bool) (meant other : Result DayParts FeedFault) (table : Result TimetableData FeedFault) → meant ≡ other → Then other (IsTimetableOfParts close) table → Then meant (IsTimetableOfParts close) table
then_same close meant other table e made = subst (λ (m : Result DayParts FeedFault). Then m (IsTimetableOfParts close) table) (sym e) made

-- a fault of the parts is a fault of the day
fault_of : (close : Bool) (meant : Result DayParts FeedFault) (f : DayFault) → IsDayRefused meant f → IsFault (Then meant (IsTimetableOfParts close)) f
fault_of close meant (why.Feed g) h = then_same close meant (Err g) (Err g) h refl
fault_of close meant why.ReadFault h = tt
fault_of close meant why.Memory h = tt

-- what a folder tells after it was read, where its files stayed the same
moved : (P : Option FileList → Type 0) (first second : Option FileList) → second ≡ first → (IsSome second → P second) → IsSome first → P first
moved P first second same told = subst (λ (o : Option FileList). IsSome o → P o) same told

read : (feed : Feed) (day : ℕ) (options : Options) (rows : Rows) → rows_of feed ≡ Ok rows → day_parts feed day options ≡ parts_after_rows feed day options rows
unfolding day_parts
read feed day options rows h = ap (λ (r : Result Rows FeedFault). and_then r (parts_after_rows feed day options)) h

-- a fault of the rows is a fault of the day
pub rows_fault : (files : Option FileList) (dir : List ℕ) (day : ℕ) (options : Options) (f : DayFault) → (IsSome files → IsDayRefused (rows_of (feed_of files dir)) f) → IsSome files → IsFault (IsTimetableOf (feed_of files dir) day options) f
unfolding day_parts
rows_fault files dir day options f told there =
    let feed = feed_of files dir in
    fault_of options.close (day_parts feed day options) f (refused (rows_of feed) (parts_after_rows feed day options) f (told there))

-- what the files after the rows give is what the feed gives
pub rows_are : (first second : Option FileList) (dir : List ℕ) (day : ℕ) (options : Options) (rows : Rows) (result : Result TimetableData DayFault) → second ≡ first → (IsSome first → rows_of (feed_of first dir) ≡ Ok rows)
    → (IsSome second → Gives (Then (parts_after_rows (feed_of second dir) day options rows) (IsTimetableOfParts options.close)) result) → IsSome first → Gives (IsTimetableOf (feed_of first dir) day options) result
rows_are first second dir day options rows result same are told there =
    let feed = feed_of first dir in
    let h : Gives (Then (parts_after_rows feed day options rows) (IsTimetableOfParts options.close)) result =
    moved (λ (o : Option FileList). Gives (Then (parts_after_rows (feed_of o dir) day options rows) (IsTimetableOfParts options.close)) result) first second same told there in
    subst (λ (m : Result DayParts FeedFault). Gives (Then m (IsTimetableOfParts options.close)) result) (sym (read feed day options rows (are there))) h

-- a fault of transfers.txt is a fault of the day, where nothing is wrong with the rows
pub transfers_fault : (feed : Feed) (day : ℕ) (options : Options) (rows : Rows) (stops : List StopData) (f : DayFault) → stops ≡ rows.stops → IsDayRefused (transfers_of_feed feed stops) f
    → IsFault (Then (parts_after_rows feed day options rows) (IsTimetableOfParts options.close)) f
transfers_fault feed day options rows stops f are told =
    let h : IsDayRefused (transfers_of_feed feed rows.stops) f = subst (λ (s : List StopData). IsDayRefused (transfers_of_feed feed s) f) are told in
    let next = λ (transfers : List TransferData). parts_after_paths feed day options.horizon rows (given_footpaths rows.stops options transfers) in
    fault_of options.close (parts_after_rows feed day options rows) f (refused (transfers_of_feed feed rows.stops) next f h)

-- what the files after transfers.txt give is what those after the rows give
pub transfers_are : (first second : Option FileList) (dir : List ℕ) (day : ℕ) (options : Options) (rows : Rows) (stops : List StopData) (transfers : List TransferData) (result : Result TimetableData DayFault) → second ≡ first → stops ≡ rows.stops
    → transfers_of_feed (feed_of first dir) stops ≡ Ok transfers
    → (IsSome second → Gives (Then (parts_after_paths (feed_of second dir) day options.horizon rows (given_footpaths stops options transfers)) (IsTimetableOfParts options.close)) result) → IsSome first
    → Gives (Then (parts_after_rows (feed_of first dir) day options rows) (IsTimetableOfParts options.close)) result
transfers_are first second dir day options rows stops transfers result same are given told there =
    let feed = feed_of first dir in
    let Q = IsTimetableOfParts options.close in
    let h : Gives (Then (parts_after_paths feed day options.horizon rows (given_footpaths stops options transfers)) Q) result =
    moved (λ (o : Option FileList). Gives (Then (parts_after_paths (feed_of o dir) day options.horizon rows (given_footpaths stops options transfers)) Q) result) first second same told there in
    let k : Gives (Then (parts_after_paths feed day options.horizon rows (given_footpaths rows.stops options transfers)) Q) result = subst (λ (s : List StopData). Gives (Then (parts_after_paths feed day options.horizon rows (given_footpaths s options transfers)) Q) result) are h in
    let g : transfers_of_feed feed rows.stops ≡ Ok transfers = subst (λ (s : List StopData). transfers_of_feed feed s ≡ Ok transfers) are given in
    let e : parts_after_rows feed day options rows ≡ parts_after_paths feed day options.horizon rows (given_footpaths rows.stops options transfers) =
    ap (λ (r : Result (List TransferData) FeedFault). and_then r (λ transfers. parts_after_paths feed day options.horizon rows (given_footpaths rows.stops options transfers))) g in
    subst (λ (m : Result DayParts FeedFault). Gives (Then m Q) result) (sym e) k

-- a fault of frequencies.txt is a fault of the day, where nothing is wrong with the files before
pub frequencies_fault : (feed : Feed) (day : ℕ) (horizon : Horizon) (close : Bool) (rows : Rows) (counted : Result FootpathData FeedFault) (trips : List row.TripData) (f : DayFault) → trips ≡ rows.trips → IsDayRefused (frequencies_of feed trips) f
    → IsFault (Then (parts_after_paths feed day horizon rows counted) (IsTimetableOfParts close)) f
frequencies_fault feed day horizon close rows counted trips f are told =
    let h : IsDayRefused (frequencies_of feed rows.trips) f = subst (λ (ts : List row.TripData). IsDayRefused (frequencies_of feed ts) f) are told in
    fault_of close (parts_after_paths feed day horizon rows counted) f (refused (frequencies_of feed rows.trips) (λ frequencies. parts_on rows frequencies day horizon counted) f h)

-- what becomes of the parts of the day becomes of the files from frequencies.txt on
pub frequencies_are : (feed : Feed) (day : ℕ) (horizon : Horizon) (close : Bool) (rows : Rows) (counted : Result FootpathData FeedFault) (trips : List row.TripData) (frequencies : List TripFrequency) (table : Result TimetableData FeedFault) → trips ≡ rows.trips
    → frequencies_of feed trips ≡ Ok frequencies → Then (parts_on rows frequencies day horizon counted) (IsTimetableOfParts close) table → Then (parts_after_paths feed day horizon rows counted) (IsTimetableOfParts close) table
frequencies_are feed day horizon close rows counted trips frequencies table are given made =
    let g : frequencies_of feed rows.trips ≡ Ok frequencies = subst (λ (ts : List row.TripData). frequencies_of feed ts ≡ Ok frequencies) are given in
    then_same close (parts_after_paths feed day horizon rows counted) (parts_on rows frequencies day horizon counted) table
    (ap (λ (r : Result (List TripFrequency) FeedFault). and_then r (λ frequencies. parts_on rows frequencies day horizon counted)) g) made

-- the same where nothing becomes of the parts
pub frequencies_refused : (feed : Feed) (day : ℕ) (horizon : Horizon) (close : Bool) (rows : Rows) (counted : Result FootpathData FeedFault) (trips : List row.TripData) (frequencies : List TripFrequency) (f : RowsFault) → trips ≡ rows.trips
    → frequencies_of feed trips ≡ Ok frequencies → IsRowsFault (Then (parts_on rows frequencies day horizon counted) (IsTimetableOfParts close)) f → IsFault (Then (parts_after_paths feed day horizon rows counted) (IsTimetableOfParts close)) (day_fault f)
frequencies_refused feed day horizon close rows counted trips frequencies (refusal.Feed g) are given made = frequencies_are feed day horizon close rows counted trips frequencies (Err g) are given made
frequencies_refused feed day horizon close rows counted trips frequencies refusal.Memory are given made = tt
