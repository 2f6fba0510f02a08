-- The timetable of a day is sound.
use Rattle.std.proofs.Common.{◌≡◌, ◌≢◌, ◌∙◌, sym, ap, subst, refl, ℕ, zero, suc, ◌+◌, ◌<◌, ◌≤◌, List, [], ◌∷◌, ◌++◌, length, map, take, get_or, Bool, true, false, cond, arith}
use Rattle.std.specs.Prelude.{All, AllPairs, Ok, filter, sum_by, slice_index_or}
use Rattle.std.specs.List.{list_any, range_with_len}
use Rattle.std.proofs.lemmas.List.{get_or_default, get_or-take, length-map, length-take, map-append}
use Rattle.std.proofs.lemmas.List.Elements.{All-append, All-cons, All-filter, All-head, All-map, All-nil, All-tail}
use Rattle.std.proofs.lemmas.List.Folds.{list_any_at}
use Rattle.std.proofs.lemmas.List.FromFn.{get_or-range_with_len, length-range_with_len}
use Rattle.std.proofs.lemmas.List.Kept.{AllPairs-cons, AllPairs-filter}
use Rattle.std.proofs.lemmas.Slice.Eq.{bytes_eq-Decides}
use Rattle.tb_base.specs.declared.table.Stop.{Stop}
use Rattle.tb_base.specs.TimetableData.{TripData, StationData, FootpathData}
use Rattle.tb_base.specs.Soundness.{IsSound, IsSoundStation, IsSoundTrip, place_names, IsSoundFootpaths}
use Rattle.tb_base.specs.Walking.{KeepsFootpathLaw}
use Rattle.tb_base.proofs.Ordered.{AllPairs-tail}
use Rattle.gtfs_rows.specs.StopsFile.{StopData, is_platform, is_station}
use Rattle.gtfs_rows.specs.declared.stops.Kind.{Kind}
use Rattle.gtfs_rows.specs.declared.stops.Kind.TheVariants as kind
use Rattle.footpaths.specs.Stops.{stop_id, has_stop_id, platforms, stations, station_of, check_stops}
use Rattle.footpaths.proofs.StopRows.{new_id}
use Rattle.tb_base.proofs.Lists.{length-filter_le}
use Rattle.footpaths.specs.Footpaths.{is_number}
use Rattle.trip_table.specs.Day.{DayParts, station_stops, stations_from, timetable}

AllPairs-append : {X : Type 0} (R : X → X → Type 0) (xs ys : List X) → AllPairs R xs → AllPairs R ys → All (λ x. All (R x) ys) xs → AllPairs R (xs ++ ys)
AllPairs-append R [] ys a b c = b
AllPairs-append R (x ∷ xs) ys a b c =
    let head : All (R x) xs = λ k d within. a zero (suc k) d (omega arith) (omega arith) in
    AllPairs-cons R x (xs ++ ys) (All-append (R x) xs ys head (All-head (λ y. All (R y) ys) x xs c)) (AllPairs-append R xs ys (AllPairs-tail R x xs a) b (All-tail (λ y. All (R y) ys) x xs c))

AllPairs-map : {X Y : Type 0} (R : Y → Y → Type 0) (f : X → Y) (xs : List X) → AllPairs (λ x y. R (f x) (f y)) xs → AllPairs R (map f xs)
AllPairs-map R f [] h = λ i j d before below. absurd (omega arith)
AllPairs-map R f (x ∷ xs) h =
    let head : All (λ y. R (f x) (f y)) xs = λ k d within. h zero (suc k) d (omega arith) (omega arith) in
    AllPairs-cons R (f x) (map f xs) (All-map (R (f x)) f xs head) (AllPairs-map R f xs (AllPairs-tail (λ x y. R (f x) (f y)) x xs h))

-- what holds of each two items holds between those that pass one test and those that pass another, if none passes both
module _ {X : Type 0} (R : X → X → Type 0) (symmetric : (x y : X) → R x y → R y x) (p q : X → Bool) (apart : (x : X) → p x ≡ true → q x ≡ false) where
  one_more : (x : X) (xs : List X) (a b : Bool) → (a ≡ true → b ≡ false) → All (R x) xs → All (λ y. All (R y) (filter q xs)) (filter p xs)
      → All (λ y. All (R y) (cond b (x ∷ filter q xs) (filter q xs))) (cond a (x ∷ filter p xs) (filter p xs))
  one_more x xs true true f h rest = absurd (let no : true ≡ false = f refl in cc)
  one_more x xs true false f h rest = All-cons (λ y. All (R y) (filter q xs)) x (filter p xs) (All-filter q (R x) xs h) rest
  one_more x xs false true f h rest = λ i d k. All-cons (R (slice_index_or (filter p xs) i d)) x (filter q xs) (symmetric x (slice_index_or (filter p xs) i d) (All-filter p (R x) xs h i d k)) (rest i d k)
  one_more x xs false false f h rest = rest

  across : (xs : List X) → AllPairs R xs → All (λ x. All (R x) (filter q xs)) (filter p xs)
  across [] h = All-nil (λ x. All (R x) [])
  across (x ∷ xs) h =
      let head : All (R x) xs = λ k d within. h zero (suc k) d (omega arith) (omega arith) in
      one_more x xs (p x) (q x) (apart x) head (across xs (AllPairs-tail R x xs h))

abbrev Differ : StopData → StopData → Type 0
Differ s t = s.id ≢ t.id

-- rows with which nothing is wrong have ids that differ
rows_differ : (stops : List StopData) → check_stops stops ≡ Ok stops → AllPairs Differ stops
rows_differ stops e i j d before below same =
    let t : StopData = get_or stops j d in
    let at : t ≡ get_or stops j t = get_or_default stops j d t below in
    let no : list_any (has_stop_id t.id) (take j stops) ≡ false = new_id stops j t below at e in
    let read : get_or (take j stops) i d ≡ get_or stops i d = get_or-take j stops i d before in
    let equal : t.id ≡ StopData.id (get_or (take j stops) i d) = sym same ∙ sym (ap (λ (s : StopData). s.id) read) in
    let here : has_stop_id t.id (get_or (take j stops) i d) ≡ true = (bytes_eq-Decides t.id (StopData.id (get_or (take j stops) i d))).1 equal in
    let yes : list_any (has_stop_id t.id) (take j stops) ≡ true = list_any_at (has_stop_id t.id) (take j stops) i d (omega (arith, length-take j stops)) here in
    cc

one_kind : (k : Kind) → is_platform k ≡ true → is_station k ≡ false
one_kind kind.Platform e = refl
one_kind kind.Station e = cc
one_kind kind.Other e = refl

places_differ : (stops : List StopData) → check_stops stops ≡ Ok stops → AllPairs Differ (platforms stops ++ stations stops)
places_differ stops e =
    let h = rows_differ stops e in
    AllPairs-append Differ (platforms stops) (stations stops) (AllPairs-filter Differ (λ s. is_platform s.kind) stops h) (AllPairs-filter Differ (λ s. is_station s.kind) stops h)
    (across Differ (λ x y f g. f (sym g)) (λ s. is_platform s.kind) (λ s. is_station s.kind) (λ s. one_kind s.kind) stops h)

stop_of : StopData → Stop
stop_of s = record { name = s.id }

stop_names : (rows : List StopData) → map (λ (s : Stop). s.name) (map stop_of rows) ≡ map stop_id rows
unfolding stop_of
stop_names [] = refl
stop_names (s ∷ rest) = ap (λ names. s.id ∷ names) (stop_names rest)

station_names : (stops : List StopData) (n : ℕ) (rows : List StopData) → map (λ s. StationData.name s) (stations_from stops n rows) ≡ map stop_id rows
station_names stops n [] = refl
station_names stops n (s ∷ rest) = ap (λ names. s.id ∷ names) (station_names stops (n + 1) rest)

names_are : (day : DayParts) (paths : FootpathData) → map stop_id (platforms day.stops ++ stations day.stops) ≡ place_names (timetable day paths)
unfolding stop_of
names_are day paths =
    let stops = day.stops in
    map-append stop_id (platforms stops) (stations stops)
    ∙ ap (λ names. names ++ map stop_id (stations stops)) (sym (stop_names (platforms stops)))
    ∙ ap (λ names. map (λ (s : Stop). s.name) (map stop_of (platforms stops)) ++ names) (sym (station_names stops 0 (stations stops)))

station_count : (stops : List StopData) (n : ℕ) (rows : List StopData) → length (stations_from stops n rows) ≡ length rows
station_count stops n [] = refl
station_count stops n (s ∷ rest) = ap suc (station_count stops (n + 1) rest)

below : (n : ℕ) → All (λ p. p < n) (range_with_len 0 n)
below n i d within = omega (arith, get_or-range_with_len 0 n i d, length-range_with_len 0 n)

upwards : (n : ℕ) → AllPairs (λ p q. p < q) (range_with_len 0 n)
upwards n i j d before within = omega (arith, get_or-range_with_len 0 n i d, get_or-range_with_len 0 n j d, length-range_with_len 0 n)

sound_station : (stops : List StopData) (n : ℕ) (name : List ℕ) → IsSoundStation (length (platforms stops)) (record { name = name; stops = station_stops stops n })
sound_station stops n name =
    let count = length (platforms stops) in
    record {
      stops = All-filter (λ p. is_number n (station_of stops p)) (λ p. p < count) (range_with_len 0 count) (below count);
      ascending = AllPairs-filter (λ p q. p < q) (λ p. is_number n (station_of stops p)) (range_with_len 0 count) (upwards count);
    }

sound_stations : (stops : List StopData) (n : ℕ) (rows : List StopData) → All (IsSoundStation (length (platforms stops))) (stations_from stops n rows)
sound_stations stops n [] = All-nil (IsSoundStation (length (platforms stops)))
sound_stations stops n (s ∷ rest) = All-cons (IsSoundStation (length (platforms stops))) (record { name = s.id; stops = station_stops stops n }) (stations_from stops (n + 1) rest) (sound_station stops n s.id) (sound_stations stops (n + 1) rest)

-- the timetable of sound trips and paths is sound, where nothing is wrong with the stops
pub sound_day : (day : DayParts) (paths : FootpathData) → length day.stops ≤ 100000 → check_stops day.stops ≡ Ok day.stops → All (λ s. StopData.id s ≢ []) day.stops
    → IsSoundFootpaths paths → length paths.change ≡ length (platforms day.stops) → KeepsFootpathLaw paths
    → length day.trips ≤ 500000 → sum_by (λ t. length (TripData.events t)) day.trips ≤ 10000000 → All (IsSoundTrip (length (platforms day.stops))) day.trips → IsSound (timetable day paths)
unfolding stop_of
sound_day day paths few checked named ways many law trip_count event_count sound =
    let stops = day.stops in
    let count : length (map stop_of (platforms stops)) ≡ length (platforms stops) = length-map (platforms stops) stop_of in
    let rows : length paths.change ≡ length (map stop_of (platforms stops)) = many ∙ sym count in
    record {
      stops = omega (arith, count, length-filter_le (λ s. is_platform s.kind) stops);
      stations = omega (arith, station_count stops 0 (stations stops), length-filter_le (λ s. is_station s.kind) stops);
      trips = trip_count;
      events = event_count;
      named = subst (λ names. All (λ n. n ≢ []) names) (names_are day paths)
          (All-map (λ n. n ≢ []) stop_id (platforms stops ++ stations stops)
          (All-append (λ s. StopData.id s ≢ []) (platforms stops) (stations stops) (All-filter (λ s. is_platform s.kind) (λ s. StopData.id s ≢ []) stops named) (All-filter (λ s. is_station s.kind) (λ s. StopData.id s ≢ []) stops named)));
      distinct = subst (λ names. AllPairs (λ m n. m ≢ n) names) (names_are day paths) (AllPairs-map (λ m n. m ≢ n) stop_id (platforms stops ++ stations stops) (places_differ stops checked));
      station = subst (λ n. All (IsSoundStation n) (stations_from stops 0 (stations stops))) (sym count) (sound_stations stops 0 (stations stops));
      trip = subst (λ n. All (IsSoundTrip n) day.trips) (sym count) sound;
      change_times = rows;
      footpaths = ways;
      law = law;
    }

-- the parts, by what each is made of, are those of the timetable
pub parts_are : (day : DayParts) (paths : FootpathData) (rows : List StopData) (names : List Stop) (places : List StationData) → rows ≡ day.stops → names ≡ map (λ s. record { name = StopData.id s }) (platforms rows)
    → places ≡ stations_from day.stops 0 (stations day.stops) → record { stops = names; stations = places; trips = day.trips; footpaths = paths } ≡ timetable day paths
parts_are day paths rows names places r n p =
    let stops_are : names ≡ map (λ s. record { name = StopData.id s }) (platforms day.stops) = n ∙ ap (λ rows. map (λ s. record { name = StopData.id s }) (platforms rows)) r in
    λ i. record { stops = stops_are i; stations = p i; trips = day.trips; footpaths = paths }
