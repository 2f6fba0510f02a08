-- The stations of a day, one platform more.
use Rattle.std.proofs.Common.{◌≡◌, ◌≢◌, ◌∙◌, sym, ap, refl, ℕ, zero, suc, ◌+◌, ◌<◌, ◌≤◌, List, [], ◌∷◌, ◌++◌, length, map, set, get_or, true, false, cond, Option, Some, None, arith}
use Rattle.std.specs.Prelude.{filter, option_and_then}
use Rattle.std.specs.List.{range_with_len}
use Rattle.std.proofs.lemmas.Bool.Decides.{nat_tests}
use Rattle.std.proofs.lemmas.List.{append-nil}
use Rattle.std.proofs.lemmas.List.Elements.{filter-append}
use Rattle.std.proofs.lemmas.List.Quantifiers.{position-Some}
use Rattle.tb_base.specs.TimetableData.{StationData}
use Rattle.gtfs_rows.specs.StopsFile.{StopData}
use Rattle.footpaths.specs.Stops.{has_stop_id, platforms, stations, station_of, parent_station}
use Rattle.footpaths.proofs.NumberLists.{numbers_more}
use Rattle.footpaths.specs.Footpaths.{is_number}
use Rattle.trip_table.specs.Day.{station_stops, stations_from}

-- stations from a number on, with the stops that each number is given
abbrev pub stations_by : (ℕ → List ℕ) → ℕ → List StopData → List StationData
stations_by given n [] = []
stations_by given n (s ∷ rest) = record { name = s.id; stops = given n } ∷ stations_by given (n + 1) rest

-- the stops of a station among the first platforms
abbrev pub stops_among : List StopData → ℕ → ℕ → List ℕ
stops_among stops count n = filter (λ p. is_number n (station_of stops p)) (range_with_len 0 count)

pub station_count : (given : ℕ → List ℕ) (n : ℕ) (rows : List StopData) → length (stations_by given n rows) ≡ length rows
station_count given n [] = refl
station_count given n (s ∷ rest) = ap suc (station_count given (n + 1) rest)

-- at first no station has a stop
pub stations_none : (stops : List StopData) (n : ℕ) (rows : List StopData) → map (λ s. record { name = StopData.id s; stops = [] }) rows ≡ stations_by (stops_among stops 0) n rows
stations_none stops n [] = refl
stations_none stops n (s ∷ rest) = ap (λ more. record { name = s.id; stops = [] } ∷ more) (stations_none stops (n + 1) rest)

-- at last each has all its stops
pub stations_all : (stops : List StopData) (n : ℕ) (rows : List StopData) → stations_by (stops_among stops (length (platforms stops))) n rows ≡ stations_from stops n rows
stations_all stops n [] = refl
stations_all stops n (s ∷ rest) = ap (λ more. record { name = s.id; stops = station_stops stops n } ∷ more) (stations_all stops (n + 1) rest)

same_from : (f g : ℕ → List ℕ) (n : ℕ) (rows : List StopData) → ((i : ℕ) → n ≤ i → f i ≡ g i) → stations_by f n rows ≡ stations_by g n rows
same_from f g n [] h = refl
same_from f g n (s ∷ rest) h =
    let first : f n ≡ g n = h n (omega arith) in
    let more : stations_by f (n + 1) rest ≡ stations_by g (n + 1) rest = same_from f g (n + 1) rest (λ i le. h i (omega arith)) in
    cc

one_changed : (f g : ℕ → List ℕ) (p : ℕ) (rows : List StopData) (n j k : ℕ) (old new : StationData) → n + j ≡ k → j < length rows → g k ≡ f k ++ p ∷ [] → ((i : ℕ) → i ≢ k → f i ≡ g i)
    → old ≡ get_or (stations_by f n rows) j old → new ≡ record old { stops = old.stops ++ p ∷ [] } → set (stations_by f n rows) j new ≡ stations_by g n rows
one_changed f g p [] n j k old new e h one others at is = absurd (omega arith)
one_changed f g p (s ∷ rest) n zero k old new e h one others at is =
    let same : k ≡ n = omega arith in
    let given : g n ≡ f n ++ p ∷ [] = ap g (sym same) ∙ one ∙ ap (λ i. f i ++ p ∷ []) same in
    let first : new ≡ record { name = s.id; stops = g n } = is ∙ ap (λ (o : StationData). record o { stops = o.stops ++ p ∷ [] }) at ∙ ap (λ stops. record { name = s.id; stops = stops }) (sym given) in
    let more : stations_by f (n + 1) rest ≡ stations_by g (n + 1) rest = same_from f g (n + 1) rest (λ i le. others i (λ is. omega arith)) in
    cc
one_changed f g p (s ∷ rest) n (suc j) k old new e h one others at is =
    let first : f n ≡ g n = others n (λ is. omega arith) in
    let more : set (stations_by f (n + 1) rest) j new ≡ stations_by g (n + 1) rest = one_changed f g p rest (n + 1) j k old new (omega arith) (omega arith) one others at is in
    cc

among_more : (stops : List StopData) (p n : ℕ) → stops_among stops (p + 1) n ≡ stops_among stops p n ++ cond (is_number n (station_of stops p)) (p ∷ []) []
among_more stops p n = ap (filter (λ p. is_number n (station_of stops p))) (numbers_more p) ∙ filter-append (λ p. is_number n (station_of stops p)) (range_with_len 0 p) (p ∷ [])

among_same : (stops : List StopData) (p n : ℕ) → is_number n (station_of stops p) ≡ false → stops_among stops p n ≡ stops_among stops (p + 1) n
among_same stops p n other = sym (among_more stops p n ∙ ap (λ b. stops_among stops p n ++ cond b (p ∷ []) []) other ∙ append-nil (stops_among stops p n))

-- a platform whose parent is no station is no station's
pub station_lacks : (stops : List StopData) (p : ℕ) (items : List StationData) (rows : List StopData) → items ≡ stations_by (stops_among stops p) 0 rows → station_of stops p ≡ None → items ≡ stations_by (stops_among stops (p + 1)) 0 rows
station_lacks stops p items rows are none = are ∙ same_from (stops_among stops p) (stops_among stops (p + 1)) 0 rows (λ n le. among_same stops p n (ap (is_number n) none))

-- a platform joins the stops of its station
pub station_gains : (stops : List StopData) (p k : ℕ) (items : List StationData) (rows : List StopData) (old new : StationData) → items ≡ stations_by (stops_among stops p) 0 rows → k < length rows → station_of stops p ≡ Some k
    → old ≡ get_or items k old → new ≡ record old { stops = old.stops ++ p ∷ [] } → set items k new ≡ stations_by (stops_among stops (p + 1)) 0 rows
station_gains stops p k items rows old new are below some at is =
    let own : is_number k (station_of stops p) ≡ true = ap (is_number k) some ∙ grind (arith, nat_tests) in
    let others : (i : ℕ) → i ≢ k → is_number i (station_of stops p) ≡ false = λ i away. ap (is_number i) some ∙ grind (arith, nat_tests) in
    ap (λ (stations : List StationData). set stations k new) are
    ∙ one_changed (stops_among stops p) (stops_among stops (p + 1)) p rows 0 k k old new (omega arith) below (among_more stops p k ∙ ap (λ b. stops_among stops p k ++ cond b (p ∷ []) []) own)
    (λ i away. among_same stops p i (others i away)) (at ∙ ap (λ (stations : List StationData). get_or stations k old) are) is

station_below-by : (stops : List StopData) (row : Option StopData) (k : ℕ) → option_and_then (parent_station stops) row ≡ Some k → k < length (stations stops)
station_below-by stops None k e = absurd (cc)
station_below-by stops (Some s) k e = (position-Some (has_stop_id s.parent) (stations stops) k s e).0

-- the number of a station is one of the stations
pub station_below : (stops : List StopData) (p k : ℕ) → station_of stops p ≡ Some k → k < length (stations stops)
station_below stops p k e = station_below-by stops _ k e
