-- The trips of a service day, row after row of trips.txt.
use Rattle.std.proofs.Common.{◌≡◌, ◌∙◌, sym, ap, refl, ℕ, ◌+◌, ◌<◌, List, [], ◌∷◌, ◌++◌, drop, set, length, get_or, append_assoc, append-nil, map-id, drop-drop, drop-set-lt, get_or-drop, Bool, false, arith}
use Rattle.std.specs.Prelude.{filter, slice_index_or}
use Rattle.std.specs.List.{flat_map, range_with_len}
use Rattle.std.proofs.lemmas.Grind.{flat_map-append}
use Rattle.std.proofs.lemmas.List.{get_or_read}
use Rattle.std.proofs.lemmas.List.FromFn.{map-range_with_len_more}
use Rattle.tb_base.specs.declared.days.ServiceDay.{ServiceDay}
use Rattle.tb_base.specs.declared.table.Event.{Event}
use Rattle.tb_base.specs.TimetableData.{TripData}
use Rattle.gtfs_rows.specs.TripsFile as row
use Rattle.service_trips.specs.Starts.{names_trip}
use Rattle.service_trips.specs.ServiceDay.{FeedTrips, id_of, ride_of_trip, trips_where, trips_at, service_trips}
use Rattle.service_trips.specs.TimetableTrips.{shown}
use Rattle.service_trips.proofs.Shown.{shown-append}

range_more : (n : ℕ) → range_with_len 0 (n + 1) ≡ range_with_len 0 n ++ n ∷ []
range_more n = sym (map-id (range_with_len 0 (n + 1))) ∙ map-range_with_len_more (λ k. k) 0 n n (omega arith) ∙ ap (λ xs. xs ++ n ∷ []) (map-id (range_with_len 0 n))

-- the trips of the first so many rows that are shown
unfoldable pub first_trips : ServiceDay → FeedTrips → List Bool → ℕ → List TripData
first_trips d feed runs n = shown d (flat_map (trips_at feed runs) (range_with_len 0 n))

pub no_trips : (d : ServiceDay) (feed : FeedTrips) (runs : List Bool) → first_trips d feed runs 0 ≡ []
unfolding first_trips
no_trips d feed runs = refl

-- the trips of one row more
pub more_trips : (d : ServiceDay) (feed : FeedTrips) (runs : List Bool) (n : ℕ) → first_trips d feed runs (n + 1) ≡ first_trips d feed runs n ++ shown d (trips_at feed runs n)
unfolding first_trips
more_trips d feed runs n =
    ap (λ ks. shown d (flat_map (trips_at feed runs) ks)) (range_more n)
    ∙ ap (shown d) (flat_map-append (trips_at feed runs) (range_with_len 0 n) (n ∷ []) ∙ ap (λ last. flat_map (trips_at feed runs) (range_with_len 0 n) ++ last) (append-nil (trips_at feed runs n)))
    ∙ shown-append d (flat_map (trips_at feed runs) (range_with_len 0 n)) (trips_at feed runs n)

-- trips added row after row
pub trips_added : (d : ServiceDay) (feed : FeedTrips) (runs : List Bool) (n : ℕ) (done new added : List TripData) → done ≡ first_trips d feed runs n → new ≡ done ++ added → added ≡ shown d (trips_at feed runs n) → new ≡ first_trips d feed runs (n + 1)
trips_added d feed runs n done new added so_far is same = is ∙ rw (so_far, same) (sym (more_trips d feed runs n))

-- the same behind other trips
pub trips_behind : (d : ServiceDay) (feed : FeedTrips) (runs : List Bool) (n : ℕ) (old done new added : List TripData) → done ≡ old ++ first_trips d feed runs n → new ≡ done ++ added → added ≡ shown d (trips_at feed runs n) → new ≡ old ++ first_trips d feed runs (n + 1)
trips_behind d feed runs n old done new added so_far is same =
    is ∙ rw (so_far, same) (append_assoc old (first_trips d feed runs n) (shown d (trips_at feed runs n))) ∙ ap (λ all. old ++ all) (sym (more_trips d feed runs n))

pub none_behind : (d : ServiceDay) (feed : FeedTrips) (runs : List Bool) (old : List TripData) → old ≡ old ++ first_trips d feed runs 0
none_behind d feed runs old = sym (ap (λ none. old ++ none) (no_trips d feed runs) ∙ append-nil old)

-- the trips of the row with a number
pub row_at : (d : ServiceDay) (feed : FeedTrips) (runs : List Bool) (k : ℕ) (id : List ℕ) (ride : List Event) → id ≡ id_of feed k → ride ≡ ride_of_trip feed k
    → shown d (trips_where (slice_index_or runs k false) id (filter (names_trip k) feed.frequencies) ride) ≡ shown d (trips_at feed runs k)
row_at d feed runs k id ride i r = rw (i, r) refl

-- the id of a row
pub id_at : (feed : FeedTrips) (k : ℕ) (t : row.TripData) → k < length feed.rows → t ≡ get_or feed.rows k t → t.id ≡ id_of feed k
id_at feed k t below at = ap (λ (t : row.TripData). t.id) (get_or_read feed.rows k t below at (record { row = 0; service = []; id = [] }))

-- what is left of two lists begins alike
pub left_at : {A : Type 0} (xs ys : List A) (i : ℕ) (d : A) → drop i xs ≡ drop i ys → get_or xs i d ≡ get_or ys i d
left_at xs ys i d same =
    let e : i + 0 ≡ i = omega arith in
    let x : get_or (drop i xs) 0 d ≡ get_or xs i d = get_or-drop i xs 0 d ∙ ap (λ k. get_or xs k d) e in
    let y : get_or (drop i ys) 0 d ≡ get_or ys i d = get_or-drop i ys 0 d ∙ ap (λ k. get_or ys k d) e in
    sym x ∙ ap (λ zs. get_or zs 0 d) same ∙ y

pub left_more : {A : Type 0} (xs ys : List A) (i : ℕ) (gone : A) → drop i xs ≡ drop i ys → drop (i + 1) (set xs i gone) ≡ drop (i + 1) ys
left_more xs ys i gone same =
    drop-set-lt (i + 1) xs i gone (omega arith) ∙ sym (drop-drop 1 i xs) ∙ ap (drop 1) same ∙ drop-drop 1 i ys

-- all rows are done
pub all_trips : (d : ServiceDay) (feed : FeedTrips) (runs : List Bool) (n : ℕ) → n ≡ length feed.rows → first_trips d feed runs n ≡ shown d (service_trips feed runs)
unfolding first_trips
all_trips d feed runs n all = rw all refl
