-- The keys of rows and platforms, and the places that have one.
use Rattle.std.proofs.Common.{◌≡◌, ◌≢◌, ◌∙◌, sym, ap, refl, ℕ, zero, suc, ◌+◌, ◌<◌, ◌≤◌, List, ◌∷◌, length, Bool, true, false, cond, Option, Some, None, arith, inl, inr}
use Rattle.std.specs.Prelude.{◌==◌, All, AllPairs, filter, unwrap_or, slice_index, slice_get, option_and_then, IfSome}
use Rattle.std.specs.List.{list_any, range_with_len}
use Rattle.std.proofs.lemmas.Bool.{cases_Bool}
use Rattle.std.proofs.lemmas.Bool.Decides.{nat_tests}
use Rattle.std.proofs.lemmas.List.Elements.{All-filter, All-map, All-weaker}
use Rattle.std.proofs.lemmas.List.Kept.{AllPairs-filter}
use Rattle.std.proofs.lemmas.List.FromFn.{length-range_with_len, get_or-range_with_len, get_or-map-range_with_len, length-map-range_with_len}
use Rattle.tb_base.specs.KeyPlaces.{places_of}
use Rattle.gtfs_rows.specs.StopsFile.{StopData, is_platform, is_station}
use Rattle.footpaths.specs.declared.found.Found.{Found}
use Rattle.footpaths.specs.declared.found.Found.TheVariants as found
use Rattle.footpaths.specs.declared.found.Link.{Link}
use Rattle.footpaths.specs.Stops.{has_stop_id, platforms, stations, parent_station, station_of}
use Rattle.footpaths.specs.Footpaths.{is_number, numbers}
use Rattle.footpaths.specs.LinkedPlatforms.{platform_key, station_key, platform_keys, station_keys, parent_keys, HasLinkEnds, IsEnd}
use Rattle.footpaths.proofs.StopPlaces.{place_below}
use Rattle.tb_base.proofs.Lists.{length-filter_le}

at_most : (o : Option ℕ) (n : ℕ) → IfSome o (λ k. k < n) → unwrap_or o n ≤ n
at_most None n h = omega arith
at_most (Some k) n h = omega arith

station_below_by : (stops : List StopData) (o : Option StopData) → IfSome (option_and_then (parent_station stops) o) (λ k. k < length stops)
station_below_by stops None = tt
station_below_by stops (Some s) = place_below (has_stop_id s.parent) (stations stops) (length stops) (parent_station stops s) refl (length-filter_le (λ s. is_station s.kind) stops)

-- the number of a station is below the number of rows
pub station_below : (stops : List StopData) (p : ℕ) → IfSome (station_of stops p) (λ k. k < length stops)
station_below stops p = station_below_by stops (slice_get (platforms stops) p)

pub parent_keys_within : (stops : List StopData) → All (λ key. key ≤ length stops) (parent_keys stops)
parent_keys_within stops = All-map (λ key. key ≤ length stops) (λ p. unwrap_or (station_of stops p) (length stops)) (numbers (length (platforms stops))) (λ k d h. at_most (station_of stops _) (length stops) (station_below stops _))

platform_key_le : (stops : List StopData) (to : Found) → IsEnd stops to → platform_key (length stops) to ≤ length stops
platform_key_le stops (found.Platform n) h = omega (arith, length-filter_le (λ s. is_platform s.kind) stops)
platform_key_le stops (found.Station k) h = omega arith
platform_key_le stops found.Other h = omega arith

station_key_le : (stops : List StopData) (to : Found) → IsEnd stops to → station_key (length stops) to ≤ length stops
station_key_le stops (found.Platform n) h = omega arith
station_key_le stops (found.Station k) h = omega arith
station_key_le stops found.Other h = omega arith

pub platform_keys_within : (stops : List StopData) (links : List Link) → All (HasLinkEnds stops) links → All (λ key. key ≤ length stops) (platform_keys (length stops) links)
platform_keys_within stops links h = All-map (λ key. key ≤ length stops) (λ l. platform_key (length stops) (Link.to l)) links (All-weaker (HasLinkEnds stops) (λ l. platform_key (length stops) (Link.to l) ≤ length stops) (λ l e. platform_key_le stops l.to e.target) links h)

pub station_keys_within : (stops : List StopData) (links : List Link) → All (HasLinkEnds stops) links → All (λ key. key ≤ length stops) (station_keys (length stops) links)
station_keys_within stops links h = All-map (λ key. key ≤ length stops) (λ l. station_key (length stops) (Link.to l)) links (All-weaker (HasLinkEnds stops) (λ l. station_key (length stops) (Link.to l) ≤ length stops) (λ l e. station_key_le stops l.to e.target) links h)

numbers_within : (n : ℕ) → All (λ p. p < n) (numbers n)
numbers_within n k d h = let below : k < n = omega (arith, length-range_with_len 0 n) in omega (arith, get_or-range_with_len 0 n k d below)

numbers_distinct : (n : ℕ) → AllPairs (λ p q. p ≢ q) (numbers n)
numbers_distinct n i j d before within =
    let below : j < n = omega (arith, length-range_with_len 0 n) in
    let first : i < n = omega arith in
    λ e. absurd (omega (arith, get_or-range_with_len 0 n i d first, get_or-range_with_len 0 n j d below, e))

pub places_within : (keys : List ℕ) (key n : ℕ) → length keys ≡ n → All (λ p. p < n) (places_of keys key)
places_within keys key n e = All-filter (λ i. slice_index keys i == key) (λ p. p < n) (numbers (length keys)) (rw e (numbers_within n))

pub places_distinct : (keys : List ℕ) (key : ℕ) → AllPairs (λ p q. p ≢ q) (places_of keys key)
places_distinct keys key = AllPairs-filter (λ p q. p ≢ q) (λ i. slice_index keys i == key) (numbers (length keys)) (numbers_distinct (length keys))

none_below : (t : ℕ → Bool) (p n a : ℕ) → p < a → list_any (λ m. m == p) (filter t (range_with_len a n)) ≡ false
none_below t p zero a h = refl
none_below t p (suc n) a h = none_below_by (t a) (none_below t p n (a + 1) (omega arith))
  where
    other : (a == p) ≡ false
    other = elim (cases_Bool (a == p)) [ inl e ↦ absurd (let s : a ≡ p = grind (arith, nat_tests, e) in omega arith) | inr f ↦ f ]

    none_below_by : (b : Bool) → list_any (λ m. m == p) (filter t (range_with_len (a + 1) n)) ≡ false → list_any (λ m. m == p) (cond b (a ∷ filter t (range_with_len (a + 1) n)) (filter t (range_with_len (a + 1) n))) ≡ false
    none_below_by true e = rw other e
    none_below_by false e = e

number_kept_from : (t : ℕ → Bool) (p n a : ℕ) → a ≤ p → p < a + n → list_any (λ m. m == p) (filter t (range_with_len a n)) ≡ t p
number_kept_from t p zero a h k = absurd (omega arith)
number_kept_from t p (suc n) a h k =
    elim (cases_Bool (a == p)) [
      | inl e ↦ let s : a ≡ p = grind (arith, nat_tests, e) in here (t a) e refl ∙ ap t s
      | inr f ↦ let o : a ≢ p = (λ s. absurd (let e : (a == p) ≡ true = grind (arith, nat_tests, s) in let c : false ≡ true = sym f ∙ e in cc)) in later (t a) f (number_kept_from t p n (a + 1) (omega arith) (omega arith))
    ]
  where
    here : (b : Bool) → (a == p) ≡ true → t a ≡ b → list_any (λ m. m == p) (cond b (a ∷ filter t (range_with_len (a + 1) n)) (filter t (range_with_len (a + 1) n))) ≡ b
    here true e q = rw e refl
    here false e q = let s : a ≡ p = grind (arith, nat_tests, e) in none_below t p n (a + 1) (omega arith)

    later : (b : Bool) → (a == p) ≡ false → list_any (λ m. m == p) (filter t (range_with_len (a + 1) n)) ≡ t p → list_any (λ m. m == p) (cond b (a ∷ filter t (range_with_len (a + 1) n)) (filter t (range_with_len (a + 1) n))) ≡ t p
    later true f e = rw f e
    later false f e = e

-- a number below n is among those that a filter keeps exactly where it passes
pub number_kept : (t : ℕ → Bool) (p n : ℕ) → p < n → list_any (λ m. m == p) (filter t (numbers n)) ≡ t p
number_kept t p n h = number_kept_from t p n 0 (omega arith) (omega arith)

key_is : (o : Option ℕ) (n k : ℕ) → k < n → (unwrap_or o n == k) ≡ is_number k o
key_is None n k h = elim (cases_Bool (n == k)) [ inl e ↦ absurd (let s : n ≡ k = grind (arith, nat_tests, e) in omega arith) | inr f ↦ f ]
key_is (Some m) n k h = refl

-- a platform is among those of a station exactly where that is its station
pub member_kept : (stops : List StopData) (k p : ℕ) → k < length stops → p < length (platforms stops) → list_any (λ m. m == p) (places_of (parent_keys stops) k) ≡ is_number k (station_of stops p)
member_kept stops k p h below =
    let n = length (platforms stops) in
    let f : ℕ → ℕ = λ p. unwrap_or (station_of stops p) (length stops) in
    let many : length (parent_keys stops) ≡ n = length-map-range_with_len f 0 n in
    let kept = number_kept (λ i. slice_index (parent_keys stops) i == k) p (length (parent_keys stops)) (omega arith) in
    let at : slice_index (parent_keys stops) p ≡ f p = get_or-map-range_with_len f 0 n p p 0 below (omega arith) in
    kept ∙ ap (λ x. x == k) at ∙ key_is (station_of stops p) (length stops) k h

pub parent_keys_many : (stops : List StopData) → length (parent_keys stops) ≡ length (platforms stops)
parent_keys_many stops = length-map-range_with_len (λ p. unwrap_or (station_of stops p) (length stops)) 0 (length (platforms stops))
