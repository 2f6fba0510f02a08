-- The city is sound.
use Rattle.std.proofs.Common.{◌≡◌, ◌≢◌, ◌∙◌, ap, sym, subst, ℕ, ◌+◌, ◌*◌, ◌-◌, ◌<◌, ◌≤◌, ◌∷◌, ◌++◌, [], List, Some, Option, ◌==◌, inl, inr, length, get_or, map, refl, arith, replicate, append-nil}
use Rattle.std.specs.Prelude.{find, option_map, All, AllPairs, IfSome, sum_by, slice_index_or}
use Rattle.std.proofs.lemmas.Bool.{cases_lt}
use Rattle.std.proofs.lemmas.Int.{ints}
use Rattle.std.proofs.lemmas.Nat.{mul-le}
use Rattle.std.proofs.lemmas.List.{length-append, length-replicate, get_or-replicate, get_or_past, get_or-map, length-map}
use Rattle.std.proofs.lemmas.List.Elements.{All-append, All-nil, All-replicate}
use Rattle.std.proofs.lemmas.List.Folds.{sum_by-replicate}
use Rattle.std.proofs.lemmas.List.Sums.{sum_by-append}
use Rattle.tb_base.specs.declared.table.Path.{Path}
use Rattle.tb_base.specs.declared.table.Stop.{Stop}
use Rattle.tb_base.specs.TimetableData.{TripData, event_total}
use Rattle.tb_base.specs.Soundness.{IsSound, IsSoundEvent, IsSoundFootpaths, IsSoundTrip, place_names}
use Rattle.tb_base.specs.Transfers.{numbers_below}
use Rattle.tb_base.specs.Walking.{KeepsFootpathLaw}
use Rattle.feed_maker.specs.declared.heading.Heading.{Heading}
use Rattle.feed_maker.specs.declared.heading.Heading.TheVariants.{Rightward, Leftward, Downward, Upward}
use Rattle.feed_maker.specs.City.{city, city_event, city_stop, city_trip, city_trips, stop_along, trips_along, trips_heading}
use Rattle.feed_maker.proofs.Numbered.{All-gathered, All-made, gathered_total, length-made, made_at, made_total}
use Rattle.feed_maker.proofs.Names.{named_apart}

square : (n : ℕ) → n ≤ 40 → n * n ≤ 1600
square n few = mul-le n n 40 40 few few

-- a stop in column x and row y is one of the grid
on_grid : (n x y : ℕ) → x < n → y < n → y * n + x < n * n
on_grid n x y hx hy =
    let rows : (y + 1) * n ≤ n * n = mul-le (y + 1) n n n (omega arith) (omega arith) in
    let split : (y + 1) * n ≡ y * n + n = grind arith in
    omega (arith, rows, split, hx)

along_grid : (n : ℕ) (heading : Heading) (k e : ℕ) → k < n → e < n → stop_along n heading k e < n * n
along_grid n Rightward k e hk he = on_grid n e k he hk
along_grid n Leftward k e hk he = on_grid n (n - 1 - e) k (omega arith) hk
along_grid n Downward k e hk he = on_grid n k e hk he
along_grid n Upward k e hk he = on_grid n k (n - 1 - e) hk (omega arith)

module _ (n : ℕ) (some : 2 ≤ n) (few : n ≤ 40) where
  sound_event : (heading : Heading) (k m e : ℕ) → k < n → m < 90 → e < n → IsSoundEvent (n * n) (city_event n heading k m e)
  sound_event heading k m e hk hm he = record {
    stop = along_grid n heading k e hk he;
    earliest = omega (arith, ints);
    waits = omega (arith, ints);
    latest = omega (arith, ints);
  }

  sound_trip : (heading : Heading) (k m : ℕ) → k < n → m < 90 → IsSoundTrip (n * n) (city_trip n heading k m)
  sound_trip heading k m hk hm = record {
    long = omega (arith, some, length-made (city_event n heading k m) n);
    events = All-made (IsSoundEvent (n * n)) (city_event n heading k m) n (λ e he. sound_event heading k m e hk hm he);
    onward = λ i j d before below.
        let inside : j < n = omega (arith, below, length-made (city_event n heading k m) n) in
        rw (made_at (city_event n heading k m) n i d (omega arith), made_at (city_event n heading k m) n j d inside) (omega (arith, ints));
  }

  sound_heading : (heading : Heading) → All (IsSoundTrip (n * n)) (trips_heading n heading)
  sound_heading heading = All-gathered (IsSoundTrip (n * n)) (trips_along n heading) n (λ k hk. All-made (IsSoundTrip (n * n)) (city_trip n heading k) 90 (λ m hm. sound_trip heading k m hk hm))

  sound_trips : All (IsSoundTrip (n * n)) (city_trips n)
  sound_trips =
      let sound = IsSoundTrip (n * n) in
      All-append sound _ (trips_heading n Upward) (All-append sound _ (trips_heading n Downward) (All-append sound (trips_heading n Rightward) (trips_heading n Leftward) (sound_heading Rightward) (sound_heading Leftward)) (sound_heading Downward)) (sound_heading Upward)

  -- how much there is of what adds up over lists, where each trip has c of it
  total : (size : List TripData → ℕ) (c : ℕ) → size [] ≡ 0 → ((xs ys : List TripData) → size (xs ++ ys) ≡ size xs + size ys) → ((heading : Heading) (k m : ℕ) → size (city_trip n heading k m ∷ []) ≡ c) → size (city_trips n) ≡ 4 * (n * (90 * c))
  total size c none adds each =
      let right = trips_heading n Rightward in
      let left = trips_heading n Leftward in
      let down = trips_heading n Downward in
      let up = trips_heading n Upward in
      omega (arith, adds (right ++ left ++ down) up, adds (right ++ left) down, adds right left, one Rightward, one Leftward, one Downward, one Upward)
    where
      one : (heading : Heading) → size (trips_heading n heading) ≡ n * (90 * c)
      one heading = gathered_total size none adds (trips_along n heading) (90 * c) (λ k. made_total size none adds (city_trip n heading k) c (each heading k) 90) n

  trip_total : length (city_trips n) ≤ 500000
  trip_total = let all : length (city_trips n) ≡ 4 * (n * (90 * 1)) = total length 1 refl (λ xs ys. length-append xs ys) (λ heading k m. refl) in omega (arith, all, few)

  events_total : event_total (city n) ≤ 10000000
  events_total =
      let size : List TripData → ℕ = sum_by (λ t. length (TripData.events t)) in
      let all : size (city_trips n) ≡ 4 * (n * (90 * n)) = total size n refl (λ xs ys. sum_by-append (λ t. length (TripData.events t)) xs ys) (λ heading k m. omega (arith, length-made (city_event n heading k m) n)) in
      let most : n * (90 * n) ≤ 40 * 3600 = mul-le n (90 * n) 40 3600 few (omega arith) in
      omega (arith, all, most)

  abbrev name_of : Stop → List ℕ
  name_of s = s.name

  names_are : place_names (city n) ≡ map name_of (map (city_stop n) (numbers_below (n * n)))
  names_are = append-nil _

  long : length (map (city_stop n) (numbers_below (n * n))) ≡ n * n
  long = length-made (city_stop n) (n * n)

  name_at : (p : ℕ) (d : List ℕ) → p < n * n → get_or (map name_of (map (city_stop n) (numbers_below (n * n)))) p d ≡ (city_stop n p).name
  name_at p d h =
      get_or-map name_of (map (city_stop n) (numbers_below (n * n))) p (city_stop n 0) d (omega (arith, h, long))
      ∙ ap name_of (made_at (city_stop n) (n * n) p (city_stop n 0) h)

  names_long : length (map name_of (map (city_stop n) (numbers_below (n * n)))) ≡ n * n
  names_long = length-map _ name_of ∙ long

  named : All (λ name. name ≢ []) (place_names (city n))
  named = rw names_are (λ p d h. let inside : p < n * n = omega (arith, h, names_long) in rw (name_at p d inside) (λ e. cc))

  distinct : AllPairs (λ a b. a ≢ b) (place_names (city n))
  distinct = rw names_are (λ p q d before below.
      let inside : q < n * n = omega (arith, below, names_long) in
      let small : n * n ≤ 1600 = square n few in
      rw (name_at p d (omega arith), name_at q d inside) (named_apart n p q (omega (arith, some)) (omega (arith, few)) (omega (arith, inside, before, small)) (omega (arith, inside, small)) before))

-- no footpath leads anywhere
no_row : (many p : ℕ) → slice_index_or (replicate {A = List Path} many []) p [] ≡ []
no_row many p = elim (cases_lt p many) [
  | inl below ↦ get_or-replicate many p [] [] below
  | inr past ↦ get_or_past (replicate many []) p [] (omega (arith, past, length-replicate {A = List Path} many []))
]

sound_footpaths : (many : ℕ) → many ≤ 1600 → IsSoundFootpaths (record { change = replicate many (Some 60); paths = replicate many [] })
sound_footpaths many few = record {
  few = (let long = length-replicate {A = Option ℕ} many (Some 60) in omega (arith, few, long));
  rows = length-replicate {A = List Path} many [] ∙ sym (length-replicate {A = Option ℕ} many (Some 60));
  footpaths = omega (arith, sum_by-replicate (λ row. length {A = Path} row) many []);
  change_secs = All-replicate (λ (c : Option ℕ). IfSome c (λ secs. secs ≤ 86400)) many (Some 60) (omega arith);
  paths = λ p h. rw (no_row many p) (All-nil _);
  ascending = All-replicate (λ row. AllPairs (λ (f g : Path). f.to < g.to) row) many [] (λ i j d before below. omega arith);
}

law : (many : ℕ) → KeepsFootpathLaw (record { change = replicate many (Some 60); paths = replicate many [] })
law many p q r pq qr apart other first second = let no = subst (λ (row : List Path). option_map (λ f. f.secs) (find (λ f. f.to == q) row) ≡ Some pq) (no_row many p) first in cc

pub city_sound : (n : ℕ) → 2 ≤ n → n ≤ 40 → IsSound (city n)
city_sound n some few = record {
  stops = omega (arith, long n some few, square n few);
  stations = omega arith;
  trips = trip_total n some few;
  events = events_total n some few;
  named = named n some few;
  distinct = distinct n some few;
  station = All-nil _;
  trip = subst (λ m. All (IsSoundTrip m) (city_trips n)) (sym (long n some few)) (sound_trips n some few);
  change_times = length-replicate {A = Option ℕ} (n * n) (Some 60) ∙ sym (long n some few);
  footpaths = sound_footpaths (n * n) (square n few);
  law = law (n * n);
}
