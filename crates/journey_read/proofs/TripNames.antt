-- Trips are looked for by their names.
use Rattle.std.proofs.Common.{◌≡◌, ◌∙◌, refl, ap, sym, ℕ, zero, suc, ◌+◌, ◌<◌, ◌≤◌, List, [], ◌∷◌, length, map, drop, take, ◌++◌, subst, get_or, Option, Some, None, Bool, true, false, inl, inr, arith, add-one}
use Rattle.std.specs.Prelude.{◌==◌, All, bytes_eq, filter, position, slice_get, slice_index, unwrap_or}
use Rattle.std.specs.List.{range_with_len}
use Rattle.std.proofs.lemmas.Bool.{cases_Bool}
use Rattle.std.proofs.lemmas.Bool.Decides.{nat_tests}
use Rattle.std.proofs.lemmas.List.{get_or-map, length-map, map_more}
use Rattle.std.proofs.lemmas.List.Elements.{All-filter}
use Rattle.std.proofs.lemmas.List.FromFn.{get_or-range_with_len, length-range_with_len}
use Rattle.std.proofs.lemmas.List.Quantifiers.{position-Some}
use Rattle.std.proofs.lemmas.Option.{get_or_from_slice_get, slice_get_within}
use Rattle.std.proofs.lemmas.Slice.Eq.{bytes_eq-Decides}
use Rattle.tb_base.specs.declared.days.ServiceDay.{ServiceDay}
use Rattle.tb_base.specs.TimetableData.{TripData, no_trip}
use Rattle.journey_read.specs.declared.rides.Ends.{Ends}
use Rattle.journey_read.specs.Rides.{HaveRides, ride_among, ride_in}
use Rattle.journey_read.specs.TripNames.{AreByName, name_place, name_places}

pub place_within : (names : List (List ℕ)) (behind : ℕ) (name : List ℕ) → length names ≤ behind → name_place names behind name ≤ behind
place_within names behind name few = by (position (bytes_eq name) names) refl where
  by : (o : Option ℕ) → position (bytes_eq name) names ≡ o → unwrap_or o behind ≤ behind
  by None is = omega arith
  by (Some k) is = let at = position-Some (bytes_eq name) names k [] is in omega (arith, at.0, few)

module _ (names : List (List ℕ)) (trips : List TripData) where
  abbrev place : TripData → ℕ
  place t = name_place names (length trips) (TripData.name t)

  pub place_at : (i : ℕ) (trip : TripData) → i < length trips → get_or trips i trip ≡ trip → slice_index (name_places names trips) i ≡ place trip
  place_at i trip below is = get_or-map place trips i trip 0 below ∙ ap place is

  -- the place of one trip's name more
  pub place_added : (t p : ℕ) (trip : TripData) (old new : List ℕ) → t < length trips → slice_get trips t ≡ Some trip → p ≡ place trip → old ≡ map place (take t trips) → new ≡ old ++ p ∷ [] → new ≡ map place (take (t + 1) trips)
  place_added t p trip old new below at is so_far added =
      let here : get_or trips t trip ≡ trip = get_or_from_slice_get trips t trip trip at in
      added ∙ ap (λ (ys : List ℕ). ys ++ p ∷ []) so_far ∙ ap (λ (x : ℕ). map place (take t trips) ++ x ∷ []) (is ∙ ap place (sym here)) ∙ sym (map_more place trips t trip below)

  pub place_below : length names ≤ length trips → (i : ℕ) → i < length (name_places names trips) → slice_index (name_places names trips) i < length trips + 1
  place_below few i inside =
      let below : i < length trips = omega (arith, inside, length-map trips place) in
      let is = get_or-map place trips i no_trip 0 below in
      omega (arith, is, place_within names (length trips) (TripData.name (get_or trips i no_trip)) few)

head_of : {A : Type 0} (all : List A) (n : ℕ) (x : A) (xs : List A) → drop n all ≡ x ∷ xs → (slice_get all n ≡ Some x) × (drop (suc n) all ≡ xs)
head_of [] zero x xs e = absurd (cc e)
head_of [] (suc n) x xs e = absurd (cc e)
head_of (y ∷ ys) zero x xs e = (cc e, cc e)
head_of (y ∷ ys) (suc n) x xs e = head_of ys n x xs e

-- trips that pass a test, as all with the name do, have the rides that all trips have
module _ (name : List ℕ) (day : ServiceDay) (ends : Ends) (all : List TripData) (test : ℕ → Bool) where
  pub rides_from : ((i : ℕ) (trip : TripData) → slice_get all i ≡ Some trip → bytes_eq name trip.name ≡ true → test i ≡ true) → (t : ℕ) (trips : List TripData) → drop t all ≡ trips
      → ride_in name day ends all (filter test (range_with_len t (length trips))) ≡ ride_among name day ends t trips
  rides_from passes t [] e = refl
  rides_from passes t (trip ∷ trips) e =
      let head = head_of all t trip trips e in
      let more = rides_from passes (t + 1) trips (rw add-one head.1) in
      elim (cases_Bool (test t)) [
        | inl passed ↦ rw (passed, head.0, more) refl
        | inr failed ↦ elim (cases_Bool (bytes_eq name trip.name)) [
          | inl same ↦ absurd (let both : false ≡ true = sym failed ∙ passes t trip head.0 same in cc)
          | inr other ↦ rw (failed, other, more) refl
        ]
      ]

below : (n : ℕ) → All (λ p. p < n) (range_with_len 0 n)
below n i d within = omega (arith, get_or-range_with_len 0 n i d, length-range_with_len 0 n)

-- what is kept of a place has all trips whose names have it
module _ (names groups : List (List ℕ)) (trips : List TripData) (kept : AreByName names groups trips) (name numbers : List ℕ) (place : ℕ)
    (named : place ≡ name_place names (length trips) name) (within : place ≤ length trips) (is : numbers ≡ get_or groups place []) where
  abbrev keys : List ℕ
  keys = name_places names trips

  abbrev has_place : ℕ → Bool
  has_place i = slice_index keys i == place

  these : numbers ≡ filter has_place (range_with_len 0 (length trips))
  these = is ∙ kept.each place (omega (arith, within)) ∙ ap (λ n. filter has_place (range_with_len 0 n)) (length-map trips (λ (t : TripData). name_place names (length trips) t.name))

  passes : (i : ℕ) (trip : TripData) → slice_get trips i ≡ Some trip → bytes_eq name trip.name ≡ true → has_place i ≡ true
  passes i trip at same =
      let inside : i < length trips = slice_get_within trips i trip at in
      let here = place_at names trips i trip inside (get_or_from_slice_get trips i trip trip at) in
      let one : name ≡ trip.name = (bytes_eq-Decides name trip.name).0 same in
      let equal : slice_index keys i ≡ place = here ∙ ap (name_place names (length trips)) (sym one) ∙ sym named in
      grind (arith, nat_tests, equal)

  pub rides_named : HaveRides name trips numbers
  rides_named day ends = ap (ride_in name day ends trips) these ∙ rides_from name day ends trips has_place passes 0 trips refl

  pub numbers_within : All (λ t. t < length trips) numbers
  numbers_within = subst (All (λ t. t < length trips)) (sym these) (All-filter has_place (λ t. t < length trips) (range_with_len 0 (length trips)) (below (length trips)))
