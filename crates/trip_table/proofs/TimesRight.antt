-- Nothing is wrong with the stop times that are left.
use Rattle.std.proofs.Common.{◌≡◌, ◌∙◌, refl, sym, ap, subst, ℕ, zero, suc, ◌+◌, ◌<◌, ◌≤◌, List, [], ◌∷◌, ◌++◌, flat_map, Bool, true, false, cond, ◌||◌, Option, Some, None, arith, append-nil}
use Rattle.std.specs.Prelude.{Ok, All, filter, not, ◌==◌}
use Rattle.std.specs.List.{list_any, range_with_len}
use Rattle.std.proofs.lemmas.Bool.{eq-eqb}
use Rattle.std.proofs.lemmas.Bool.Decides.{nat_tests}
use Rattle.std.proofs.lemmas.List.Elements.{All-head, All-tail, filter-append}
use Rattle.std.proofs.lemmas.List.Folds.{list_any-append}
use Rattle.gtfs_rows.specs.Faults.{unless_wrong, wrong_after, check_rows}
use Rattle.gtfs_rows.specs.StopsFile.{StopData}
use Rattle.gtfs_rows.specs.TripsFile.{TripData}
use Rattle.gtfs_rows.specs.declared.fault.FeedFault.{FeedFault}
use Rattle.footpaths.proofs.StopPlaces.{none_kept}
use Rattle.service_trips.specs.declared.broken.TripFault.{TripFault}
use Rattle.service_trips.specs.declared.stop_time.StopTime.{StopTime}
use Rattle.service_trips.specs.Broken.{broken_by, broken_trip, broken_trips}
use Rattle.service_trips.specs.Faults.{first_wrong}
use Rattle.service_trips.specs.StopTimes.{in_sequence, is_of_trip, stop_times}
use Rattle.service_trips.specs.TimeFaults.{wrong_trip_times, wrong_trips}
use Rattle.trip_table.specs.LeftFeed.{is_among, twin_if, twins, without_trips}
use Rattle.trip_table.specs.References.{repeats, wrong_names, wrong_time}

-- a trip bears a fault
abbrev Bears : ℕ → List TripFault → Type 0
Bears t found = list_any (λ f. TripFault.trip f == t) found ≡ true

or_left : (a b : Bool) → a ≡ true → (a || b) ≡ true
or_left true b e = refl
or_left false b e = absurd (cc)

or_right : (a b : Bool) → b ≡ true → (a || b) ≡ true
or_right true b e = refl
or_right false b e = e

bears_either : (t : ℕ) (xs ys : List TripFault) → Bears t ys → Bears t (xs ++ ys)
bears_either t xs ys h = list_any-append (λ f. TripFault.trip f == t) xs ys ∙ or_right (list_any (λ f. TripFault.trip f == t) xs) (list_any (λ f. TripFault.trip f == t) ys) h

bears_first : (t : ℕ) (xs ys : List TripFault) → Bears t xs → Bears t (xs ++ ys)
bears_first t xs ys h = list_any-append (λ f. TripFault.trip f == t) xs ys ∙ or_left (list_any (λ f. TripFault.trip f == t) xs) (list_any (λ f. TripFault.trip f == t) ys) h

twin_bears : (b : Bool) (r : StopTime) → b ≡ true → Bears r.trip_row (twin_if b r)
twin_bears true r e = or_left (r.trip_row == r.trip_row) false (eq-eqb r.trip_row r.trip_row refl)
twin_bears false r e = absurd (cc)

module _ (stops : List StopData) (trips : List TripData) (found : List TripFault) (all : List StopTime) where
  clean : (earlier rows : List StopTime) → ((t : ℕ) → Bears t (twins earlier rows) → Bears t found) → All (λ r. wrong_names stops trips r ≡ None) rows
      → unless_wrong (wrong_after (wrong_time stops trips all) (filter (λ r. not (is_among found r)) earlier) (filter (λ r. not (is_among found r)) rows)) all ≡ Ok all
  clean earlier [] told good = refl
  clean earlier (r ∷ rest) told good =
      by_twin (list_any (repeats r) earlier) refl (is_among found r) refl
      (clean (earlier ++ r ∷ []) rest (λ t h. told t (bears_either t (twin_if (list_any (repeats r) earlier) r) (twins (earlier ++ r ∷ []) rest) h)) (All-tail (λ r. wrong_names stops trips r ≡ None) r rest good))
    where
      grown : (a : Bool) → is_among found r ≡ a → filter (λ r. not (is_among found r)) (earlier ++ r ∷ []) ≡ filter (λ r. not (is_among found r)) earlier ++ cond (not a) (r ∷ []) []
      grown a e = filter-append (λ r. not (is_among found r)) earlier (r ∷ []) ∙ ap (λ b. filter (λ r. not (is_among found r)) earlier ++ cond (not b) (r ∷ []) []) e

      by_twin : (b : Bool) → list_any (repeats r) earlier ≡ b → (a : Bool) → is_among found r ≡ a
          → unless_wrong (wrong_after (wrong_time stops trips all) (filter (λ r. not (is_among found r)) (earlier ++ r ∷ [])) (filter (λ r. not (is_among found r)) rest)) all ≡ Ok all
          → unless_wrong (wrong_after (wrong_time stops trips all) (filter (λ r. not (is_among found r)) earlier) (cond (not a) (r ∷ filter (λ r. not (is_among found r)) rest) (filter (λ r. not (is_among found r)) rest))) all ≡ Ok all
      by_twin b e true q later =
          subst (λ l. unless_wrong (wrong_after (wrong_time stops trips all) l (filter (λ r. not (is_among found r)) rest)) all ≡ Ok all) (grown true q ∙ append-nil (filter (λ r. not (is_among found r)) earlier)) later
      by_twin true e false q later =
          let bears : Bears r.trip_row found = told r.trip_row (bears_first r.trip_row (twin_if (list_any (repeats r) earlier) r) (twins (earlier ++ r ∷ []) rest) (twin_bears (list_any (repeats r) earlier) r e)) in
          absurd (let no : true ≡ false = sym bears ∙ q in cc)
      by_twin false e false q later =
          let fresh = none_kept (repeats r) (λ r. not (is_among found r)) earlier e in
          let named = All-head (λ r. wrong_names stops trips r ≡ None) r rest good in
          let rest_right = subst (λ l. unless_wrong (wrong_after (wrong_time stops trips all) l (filter (λ r. not (is_among found r)) rest)) all ≡ Ok all) (grown false q) later in
          rw (named, fresh) rest_right

-- stop times that name what is there, without those of trips that repeat a number, are right
pub apart_right : (stops : List StopData) (trips : List TripData) (rows : List StopTime) → All (λ r. wrong_names stops trips r ≡ None) rows
    → check_rows (wrong_time stops trips) (without_trips (twins [] rows) rows) ≡ Ok (without_trips (twins [] rows) rows)
apart_right stops trips rows good = clean stops trips (twins [] rows) (without_trips (twins [] rows) rows) [] rows (λ t h. h) good

-- a trip with whose times something is wrong bears a fault
broken_bears : (rows : List StopTime) (a n t : ℕ) (f : FeedFault) → a ≤ t → t < a + n → first_wrong (wrong_trip_times (stop_times rows t)) ≡ Some f → Bears t (flat_map (broken_trip rows) (range_with_len a n))
broken_bears rows a zero t f h k w = absurd (omega (arith, h, k))
broken_bears rows a (suc n) t f h k w = by_test (a == t) refl (λ more. broken_bears rows (a + 1) n t f more (omega (arith, k)) w)
  where
    by_test : (b : Bool) → (a == t) ≡ b → (a + 1 ≤ t → Bears t (flat_map (broken_trip rows) (range_with_len (a + 1) n))) → Bears t (broken_trip rows a ++ flat_map (broken_trip rows) (range_with_len (a + 1) n))
    by_test true e later =
        let same : a ≡ t = grind (arith, nat_tests, e) in
        let here : broken_trip rows a ≡ record { trip = a; fault = f } ∷ [] = ap (broken_by a) (ap (λ t. first_wrong (wrong_trip_times (stop_times rows t))) same ∙ w) in
        bears_first t (broken_trip rows a) (flat_map (broken_trip rows) (range_with_len (a + 1) n)) (ap (list_any (λ f. TripFault.trip f == t)) here ∙ or_left (a == t) false e)
    by_test false e later =
        let apart : a < t = grind (arith, nat_tests, e, h) in
        bears_either t (broken_trip rows a) (flat_map (broken_trip rows) (range_with_len (a + 1) n)) (later (omega (arith, apart)))

-- the stop times of a trip, by whether it bears a fault
left_by : (found : List TripFault) (t : ℕ) (b : Bool) (r : StopTime) (rest : List StopTime) (c : Bool) → (r.trip_row == t) ≡ c → (a : Bool) → (c ≡ true → a ≡ b) → filter (is_of_trip t) (without_trips found rest) ≡ cond b [] (filter (is_of_trip t) rest)
    → filter (is_of_trip t) (cond (not a) (r ∷ without_trips found rest) (without_trips found rest)) ≡ cond b [] (cond c (r ∷ filter (is_of_trip t) rest) (filter (is_of_trip t) rest))
left_by found t b r rest false e true same h = h
left_by found t b r rest false e false same h = rw (e, h) refl
left_by found t true r rest true e true same h = h
left_by found t false r rest true e false same h = rw (e, h) refl
left_by found t false r rest true e true same h = absurd (let no : true ≡ false = same refl in cc)
left_by found t true r rest true e false same h = absurd (let no : false ≡ true = same refl in cc)

trip_left : (found : List TripFault) (t : ℕ) (b : Bool) (rows : List StopTime) → list_any (λ f. TripFault.trip f == t) found ≡ b → filter (is_of_trip t) (without_trips found rows) ≡ cond b [] (filter (is_of_trip t) rows)
trip_left found t true [] e = refl
trip_left found t false [] e = refl
trip_left found t b (r ∷ rest) e =
    left_by found t b r rest (r.trip_row == t) refl (is_among found r) (λ c. let same : r.trip_row ≡ t = grind (arith, nat_tests, c) in ap (λ n. list_any (λ f. TripFault.trip f == n) found) same ∙ e) (trip_left found t b rest e)

right_trip : (rows : List StopTime) (n t : ℕ) → t < n → first_wrong (wrong_trip_times (stop_times (without_trips (broken_trips rows n) rows) t)) ≡ None
right_trip rows n t h = by_bears (list_any (λ f. TripFault.trip f == t) (broken_trips rows n)) refl
  where
    no_fault : (o : Option FeedFault) → first_wrong (wrong_trip_times (stop_times rows t)) ≡ o → list_any (λ f. TripFault.trip f == t) (broken_trips rows n) ≡ false → first_wrong (wrong_trip_times (stop_times rows t)) ≡ None
    no_fault None w e = w
    no_fault (Some f) w e = absurd (let yes : Bears t (broken_trips rows n) = broken_bears rows 0 n t f (omega arith) (omega (arith, h)) w in let no : true ≡ false = sym yes ∙ e in cc)

    by_bears : (b : Bool) → list_any (λ f. TripFault.trip f == t) (broken_trips rows n) ≡ b → first_wrong (wrong_trip_times (stop_times (without_trips (broken_trips rows n) rows) t)) ≡ None
    by_bears true e = ap (λ l. first_wrong (wrong_trip_times (in_sequence l))) (trip_left (broken_trips rows n) t true rows e)
    by_bears false e = ap (λ l. first_wrong (wrong_trip_times (in_sequence l))) (trip_left (broken_trips rows n) t false rows e) ∙ no_fault (first_wrong (wrong_trip_times (stop_times rows t))) refl e

passed : {A : Type 0} (before more : List (Option FeedFault)) (x : A) → first_wrong before ≡ None → unless_wrong more x ≡ Ok x → unless_wrong (before ++ more) x ≡ Ok x
passed [] more x e h = h
passed (None ∷ rest) more x e h = passed rest more x e h
passed (Some f ∷ rest) more x e h = absurd (cc)

right_trips : {A : Type 0} (rows : List StopTime) (x : A) (a n : ℕ) → ((t : ℕ) → t < a + n → first_wrong (wrong_trip_times (stop_times rows t)) ≡ None) → unless_wrong (wrong_trips rows a n) x ≡ Ok x
right_trips rows x a zero h = refl
right_trips rows x a (suc n) h = passed (wrong_trip_times (stop_times rows a)) (wrong_trips rows (a + 1) n) x (h a (omega arith)) (right_trips rows x (a + 1) n (λ t k. h t (omega (arith, k))))

-- nothing is wrong with the times of the trips that are left
pub times_right : {A : Type 0} (rows : List StopTime) (x : A) (n : ℕ) → unless_wrong (wrong_trips (without_trips (broken_trips rows n) rows) 0 n) x ≡ Ok x
times_right rows x n = right_trips (without_trips (broken_trips rows n) rows) x 0 n (λ t k. right_trip rows n t (omega (arith, k)))
