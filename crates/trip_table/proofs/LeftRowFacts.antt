-- What holds of each row of a file holds of those that are left.
use Rattle.std.proofs.Common.{◌≡◌, ◌≢◌, refl, ap, subst, ℕ, zero, suc, ◌<◌, List, [], ◌∷◌, ◌++◌, length, Option, Some, None}
use Rattle.std.specs.Prelude.{Result, Ok, Err, All, IfOk, filter, not}
use Rattle.std.proofs.lemmas.List.Elements.{All-push, All-head, All-tail, All-nil, All-filter}
use Rattle.gtfs_rows.specs.Faults.{wrong_after}
use Rattle.gtfs_rows.specs.RawRows.{RawRow, typed_rows}
use Rattle.gtfs_rows.specs.Refused.{AreRowsRefused, Yields}
use Rattle.gtfs_rows.specs.StopsFile.{StopData, stop_row}
use Rattle.gtfs_rows.specs.TripsFile.{TripData}
use Rattle.gtfs_rows.specs.declared.fault.FeedFile.{FeedFile}
use Rattle.gtfs_rows.specs.declared.fault.FeedFile.TheVariants as file
use Rattle.gtfs_rows.specs.declared.fault.FeedFault.{FeedFault}
use Rattle.gtfs_rows.specs.declared.fault.RowsFault.{RowsFault}
use Rattle.footpaths.specs.Stops.{check_stops, lacks_parent, stop_id, wrong_stop}
use Rattle.service_trips.specs.Faults.{first_wrong}
use Rattle.service_trips.specs.Times.{HasFileTimes}
use Rattle.service_trips.specs.declared.stop_time.StopTime.{StopTime}
use Rattle.trip_table.specs.LeftFeed.{duplicate_stop, good, good_time, keep_unless, leave_found, leave_orphans, or_nothing, sift, unless_bad, wrong_in}
use Rattle.trip_table.specs.References.{numbered_row, wrong_names, wrong_twice}
use Rattle.trip_table.proofs.DayTrips.{unless_wrong-value}
use Rattle.trip_table.proofs.GoodRows.{good_row, timed_row}
use Rattle.trip_table.proofs.RowFacts.{named_row, rows_all}

one_list : {A : Type 0} (P : A → Type 0) (xs ys : List A) → (let r : Result (List A) FeedFault = Ok xs in r) ≡ Ok ys → All P xs → All P ys
one_list P xs ys e h = let same : xs ≡ ys = cc in subst (λ (zs : List _). All P zs) same h

-- of rows that are kept beside those before them
pub sift_all : {A : Type 0} (P : A → Type 0) (wrong : List A → A → List (Option FeedFault)) (kept rows ys : List A) → (sift wrong kept rows).end ≡ Ok ys → All P kept → All P rows → All P ys
sift_all P wrong kept [] ys e k h = one_list P kept ys e k
sift_all P wrong kept (r ∷ rest) ys e k h =
    by_fault (first_wrong (wrong kept r)) (λ q. sift_all P wrong (kept ++ r ∷ []) rest ys q (All-push P kept r k (All-head P r rest h)) (All-tail P r rest h)) (λ q. sift_all P wrong kept rest ys q k (All-tail P r rest h)) e
  where
    by_fault : (o : Option FeedFault) → ((sift wrong (kept ++ r ∷ []) rest).end ≡ Ok ys → All P ys) → ((sift wrong kept rest).end ≡ Ok ys → All P ys) → (keep_unless o (sift wrong (kept ++ r ∷ []) rest) (sift wrong kept rest)).end ≡ Ok ys → All P ys
    by_fault None kept_on left_out q = kept_on q
    by_fault (Some f) kept_on left_out q = left_out q

-- of rows that have their parents
pub orphans_all : (P : StopData → Type 0) (n : ℕ) (rows ys : List StopData) → (leave_orphans n rows).end ≡ Ok ys → All P rows → All P ys
orphans_all P zero rows ys e h = one_list P rows ys e h
orphans_all P (suc n) rows ys e h =
    by_found (filter (lacks_parent rows) rows) (λ q. orphans_all P n (filter (λ s. not (lacks_parent rows s)) rows) ys q (All-filter (λ s. not (lacks_parent rows s)) P rows h)) e
  where
    by_found : (found : List StopData) → ((leave_orphans n (filter (λ s. not (lacks_parent rows s)) rows)).end ≡ Ok ys → All P ys) → (leave_found found rows (leave_orphans n (filter (λ s. not (lacks_parent rows s)) rows))).end ≡ Ok ys → All P ys
    by_found [] later q = one_list P rows ys q h
    by_found (s ∷ more) later q = later q

good_is : {A : Type 0} (r : Result (Option A) FeedFault) (x : A) → (let q : Result (Option A) FeedFault = Ok (or_nothing r) in q) ≡ Ok (Some x) → r ≡ Ok (Some x)
good_is (Err f) x e = absurd (cc)
good_is (Ok None) x e = absurd (cc)
good_is (Ok (Some y)) x e = cc

good_named : (raw : RawRow) (s : StopData) → good stop_row raw ≡ Ok (Some s) → s.id ≢ []
good_named raw s e = named_row raw s (good_is (stop_row raw) s e)

-- the ids of stops that are left aren't empty
pub left_named : (text : List ℕ) (rows distinct kept stops : List StopData) (n : ℕ) → typed_rows file.Stops (good stop_row) text ≡ Ok rows → (sift (wrong_twice stop_id duplicate_stop) [] rows).end ≡ Ok distinct → (leave_orphans n distinct).end ≡ Ok kept → check_stops kept ≡ Ok stops
    → All (λ s. StopData.id s ≢ []) stops
left_named text rows distinct kept stops n read sifted left checked =
    let P : StopData → Type 0 = λ s. StopData.id s ≢ [] in
    let all = rows_all P file.Stops (good stop_row) good_named text rows read in
    let apart = sift_all P (wrong_twice stop_id duplicate_stop) [] rows distinct sifted (All-nil P) all in
    let same : kept ≡ stops = unless_wrong-value (wrong_after (wrong_stop kept) [] kept) kept stops checked in
    subst (λ (stops : List StopData). All P stops) same (orphans_all P n distinct kept left apart)

good_time_is : (stops : List StopData) (trips : List TripData) (r : Result (Option StopTime) FeedFault) (x : StopTime) → (let q : Result (Option StopTime) FeedFault = Ok (unless_bad (wrong_in stops trips r) (or_nothing r)) in q) ≡ Ok (Some x)
    → (r ≡ Ok (Some x)) × (wrong_names stops trips x ≡ None)
good_time_is stops trips (Err f) x e = absurd (cc)
good_time_is stops trips (Ok None) x e = absurd (cc)
good_time_is stops trips (Ok (Some y)) x e = by_names (wrong_names stops trips y) refl e
  where
    by_names : (o : Option FeedFault) → wrong_names stops trips y ≡ o → (let q : Result (Option StopTime) FeedFault = Ok (unless_bad o (Some y)) in q) ≡ Ok (Some x) → ((let r : Result (Option StopTime) FeedFault = Ok (Some y) in r) ≡ Ok (Some x)) × (wrong_names stops trips x ≡ None)
    by_names (Some f) w q = absurd (cc)
    by_names None w q = let same : y ≡ x = cc in (ap (λ z. Ok (Some z)) same, subst (λ z. wrong_names stops trips z ≡ None) same w)

-- good stop times name trips that are there
pub trips_there : (stops : List StopData) (trips : List TripData) (text : List ℕ) (rows : List StopTime) → typed_rows file.StopTimes (good_time stops trips) text ≡ Ok rows → All (λ r. StopTime.trip_row r < length trips) rows
trips_there stops trips text rows =
    rows_all (λ r. StopTime.trip_row r < length trips) file.StopTimes (good_time stops trips) (λ raw x e. (good_row stops trips x (good_time_is stops trips (numbered_row stops trips raw) x e).1).trip) text rows

-- and have times of a file
pub times_there : (stops : List StopData) (trips : List TripData) (text : List ℕ) (rows : List StopTime) → typed_rows file.StopTimes (good_time stops trips) text ≡ Ok rows → All HasFileTimes rows
times_there stops trips text rows = rows_all HasFileTimes file.StopTimes (good_time stops trips) (λ raw x e. timed_row stops trips raw x (good_time_is stops trips (numbered_row stops trips raw) x e).0) text rows

-- what a step gives has what all that it may give has
pub given_has : {A : Type 0} (P : A → Type 0) (meant : Result A FeedFault) (result : Result A RowsFault) → Yields AreRowsRefused result (λ x. x) meant → ((x : A) → meant ≡ Ok x → P x) → IfOk result P
given_has P meant (Ok x) h f = f x h
given_has P meant (Err g) h f = tt

-- and name what is there
pub names_there : (stops : List StopData) (trips : List TripData) (text : List ℕ) (rows : List StopTime) → typed_rows file.StopTimes (good_time stops trips) text ≡ Ok rows → All (λ r. wrong_names stops trips r ≡ None) rows
names_there stops trips text rows =
    rows_all (λ r. wrong_names stops trips r ≡ None) file.StopTimes (good_time stops trips) (λ raw x e. (good_time_is stops trips (numbered_row stops trips raw) x e).1) text rows

-- rows that are read come of some bytes
pub bytes_given : {V A : Type 0} (items : V → List A) (here : FeedFile) (read : RawRow → Result (Option A) FeedFault) (bytes : List ℕ) (result : Result V RowsFault) → Yields AreRowsRefused result items (typed_rows here read bytes)
    → IfOk result (λ v. (x : List ℕ) × (typed_rows here read x ≡ Ok (items v)))
bytes_given items here read bytes (Ok v) h = (bytes, h)
bytes_given items here read bytes (Err f) h = tt

-- and what holds of all that come of some bytes holds of them
pub given_all : {V A : Type 0} (items : V → List A) (P : A → Type 0) (here : FeedFile) (read : RawRow → Result (Option A) FeedFault) (result : Result V RowsFault) → IfOk result (λ v. (x : List ℕ) × (typed_rows here read x ≡ Ok (items v)))
    → ((bytes : List ℕ) (rows : List A) → typed_rows here read bytes ≡ Ok rows → All P rows) → IfOk result (λ v. All P (items v))
given_all items P here read (Ok v) h f = f h.0 (items v) h.1
given_all items P here read (Err g) h f = tt
