-- Where nothing is wrong, the events of each trip are those of a sound trip.
use Rattle.std.proofs.Common.{◌≡◌, ◌∙◌, sym, ap, refl, subst, ℕ, zero, suc, ◌+◌, ◌<◌, ◌≤◌, ℤ, pos, negsuc, ◌≤ℤ◌, List, [], ◌∷◌, ◌++◌, length, map, get_or, Bool, true, false, Option, Some, None, inl, inr, zero-add, arith}
use Rattle.std.specs.Prelude.{All, AllPairs, IfSome, Result, Ok, int_lt, nat_le}
use Rattle.std.specs.Option.{option_or}
use Rattle.std.specs.List.{AllByRecursion}
use Rattle.std.specs.Prelude.{is_none}
use Rattle.std.proofs.lemmas.Int.{ints}
use Rattle.std.proofs.lemmas.Bool.{cases_Bool}
use Rattle.std.proofs.lemmas.Bool.Decides.{nat_tests}
use Rattle.std.proofs.lemmas.List.{get_or-map, length-map}
use Rattle.std.proofs.lemmas.List.FromFn.{get_or-map-range_with_len, length-map-range_with_len}
use Rattle.std.proofs.lemmas.List.Elements.{All-from_recursion, All-head, All-tail}
use Rattle.std.proofs.lemmas.List.Kept.{AllPairs-cons}
use Rattle.tb_base.specs.declared.table.Event.{Event}
use Rattle.tb_base.specs.Soundness.{IsSoundEvent}
use Rattle.gtfs_rows.specs.declared.fault.FeedFault.{FeedFault}
use Rattle.gtfs_rows.specs.Faults.{fault_if}
use Rattle.service_trips.specs.declared.stop_time.StopTime.{StopTime}
use Rattle.service_trips.specs.declared.times.Times.{Times}
use Rattle.service_trips.specs.declared.times.Timepoint.{Timepoint}
use Rattle.service_trips.specs.Faults.{first_wrong}
use Rattle.service_trips.specs.StopTimes.{stop_times}
use Rattle.service_trips.specs.TimeFaults.{wrong_times, departed_by, wrong_along, last_row, wrong_trip_times, wrong_trips}
use Rattle.gtfs_rows.specs.Numbers.{IsFileTime}
use Rattle.service_trips.specs.Times.{AreFileTimes, HasFileTimes, times_of_row, timed_or, first_timed, between, own_or}
use Rattle.service_trips.specs.Rides.{event_of, events_in, ride_in, ride_on, rides_on, checked_rides, IsSoundRide}
use Rattle.service_trips.proofs.FirstWrong.{first_wrong-append, first_wrong-none, unless_wrong-none}
use Rattle.service_trips.proofs.TripRows.{All-stop_times}
use Rattle.service_trips.proofs.Timed.{AllTimed, all_timed, after_by, times_within}
use Rattle.service_trips.proofs.Parts.{part, part_least, part_rises, part_most}
use Rattle.service_trips.proofs.Walk.{walk, walk_is, length-walk}

-- nothing is wrong
abbrev Right : List (Option FeedFault) → Type 0
Right wrong = first_wrong wrong ≡ None

two_right : (a b : Bool) (f g : FeedFault) (rest : Option FeedFault) → option_or (fault_if a f) (option_or (fault_if b g) rest) ≡ None → (a ≡ false) × (b ≡ false) × (rest ≡ None)
two_right true b f g rest h = absurd cc
two_right false true f g rest h = absurd cc
two_right false false f g rest h = (refl, refl, h)

one_right : (a : Bool) (f : FeedFault) (rest : Option FeedFault) → option_or (fault_if a f) rest ≡ None → (a ≡ false) × (rest ≡ None)
one_right true f rest h = absurd cc
one_right false f rest h = (refl, h)

-- a timed row is reached after the departure before it, and left after it is reached
pub record TimedRight (d : ℤ) (t : Times) (after : List (Option FeedFault)) : Type 0 where
  pub onward : d ≤ℤ t.arr
  pub waits : t.arr ≤ℤ t.dep
  pub rest : Right after

timed_right : (d : ℤ) (r : StopTime) (t : Times) (rest : List (Option FeedFault)) → Right (wrong_times (Some d) r (Some t) ++ rest) → TimedRight d t rest
timed_right d r t rest h =
    let both = two_right (int_lt t.arr d) (int_lt t.dep t.arr) _ _ (first_wrong rest) h in
    let onward = both.0 in
    let waits = both.1 in
    record { onward = grind (arith, ints, onward); waits = grind (arith, ints, waits); rest = both.2 }

-- the last row is timed, where rows follow one with these times
abbrev EndTimed : Option Times → List StopTime → Type 0
EndTimed t [] = is_none t ≡ false
EndTimed t (r ∷ rest) = EndTimed (times_of_row r) rest

-- the last row is timed, if there is one
abbrev LastTimed : List StopTime → Type 0
LastTimed [] = Unit {0}
LastTimed (r ∷ rest) = EndTimed (times_of_row r) rest

last_timed : (t : Option Times) (rest : List StopTime) → EndTimed t rest → LastTimed rest
last_timed t [] h = tt
last_timed t (r ∷ rest) h = h

-- a timed row from place k on, reached after a departure
pub record Next (d : ℤ) (k : ℕ) (found : Option Timepoint) : Type 0 where
  pub row : Timepoint
  pub is : found ≡ Some row
  pub after : k ≤ row.at
  pub onward : d ≤ℤ row.times.arr

next_timed : (d : ℤ) (k : ℕ) (t : Option Times) (r : StopTime) (rest : List StopTime) → EndTimed t rest → Right (wrong_times (Some d) r t ++ wrong_along (departed_by (Some d) t) rest)
    → Next d k (timed_or k t (first_timed (k + 1) (map times_of_row rest)))
next_timed d k (Some t) r rest e h =
    let right = timed_right d r t (wrong_along (Some t.dep) rest) h in
    record { row = record { at = k; times = t }; is = refl; after = omega arith; onward = right.onward }
next_timed d k None r [] e h = absurd cc
next_timed d k None r (s ∷ rest) e h =
    let next = next_timed d (k + 1) (times_of_row s) s rest e h in
    let after = next.after in
    record { row = next.row; is = next.is; after = omega (arith, after); onward = next.onward }

low_step : (low : ℤ) (r : StopTime) (rest : List StopTime) (k : ℕ) (i : Timepoint) (t : Option Times) → low ≤ℤ i.times.dep → EndTimed t rest
    → Right (wrong_times (Some i.times.dep) r t ++ wrong_along (departed_by (Some i.times.dep) t) rest)
    → ((j : Timepoint) → low ≤ℤ j.times.dep → Right (wrong_along (Some j.times.dep) rest) → AllByRecursion (λ e. low ≤ℤ Event.arr e) (walk (Some j) (k + 1) rest))
    → AllByRecursion (λ e. low ≤ℤ Event.arr e) (event_of r (own_or t (between (Some i) (first_timed (k + 1) (map times_of_row rest)) k)) ∷ walk (timed_or k t (Some i)) (k + 1) rest)
low_step low r rest k i (Some t) h e right more =
    let timed = timed_right i.times.dep r t (wrong_along (Some t.dep) rest) right in
    let a = timed.onward in
    let b = timed.waits in
    (omega (arith, ints, h, a), more (record { at = k; times = t }) (omega (arith, ints, h, a, b)) timed.rest)
low_step low r rest k i None h e right more =
    let next = next_timed i.times.dep k None r rest e right in
    let least = part_least i next.row k in
    (rw next.is (omega (arith, ints, h, least)), more i h right)

-- no event is reached before the departure of the timed row before
low : (d : ℤ) (rows : List StopTime) (k : ℕ) (i : Timepoint) → d ≤ℤ i.times.dep → LastTimed rows → Right (wrong_along (Some i.times.dep) rows)
    → AllByRecursion (λ e. d ≤ℤ Event.arr e) (walk (Some i) k rows)
low d [] k i h e right = tt
low d (r ∷ rest) k i h e right =
    low_step d r rest k i (times_of_row r) h e right (λ j h' right'. low d rest (k + 1) j h' (last_timed (times_of_row r) rest e) right')

rise_step : (i j : Timepoint) (m : ℕ) (r : StopTime) (rest : List StopTime) (k : ℕ) (t : Option Times) → m ≤ k → i.at < j.at → i.times.dep ≤ℤ j.times.arr → EndTimed t rest
    → Right (wrong_times (Some i.times.dep) r t ++ wrong_along (departed_by (Some i.times.dep) t) rest)
    → timed_or k t (first_timed (k + 1) (map times_of_row rest)) ≡ Some j
    → (first_timed (k + 1) (map times_of_row rest) ≡ Some j → Right (wrong_along (Some i.times.dep) rest) → AllByRecursion (λ e. part i j m ≤ℤ Event.arr e) (walk (Some i) (k + 1) rest))
    → AllByRecursion (λ e. part i j m ≤ℤ Event.arr e) (event_of r (own_or t (between (Some i) (first_timed (k + 1) (map times_of_row rest)) k)) ∷ walk (timed_or k t (Some i)) (k + 1) rest)
rise_step i j m r rest k (Some t) h p up e right is more =
    let timed = timed_right i.times.dep r t (wrong_along (Some t.dep) rest) right in
    let at : k ≡ j.at = cc in
    let arr : t.arr ≡ j.times.arr = cc in
    let most = part_most i j m (omega (arith, at, h)) up in
    let b = timed.waits in
    let head : part i j m ≤ℤ t.arr = omega (arith, ints, most, arr) in
    (head, low (part i j m) rest (k + 1) (record { at = k; times = t }) (omega (arith, ints, head, b)) (last_timed (Some t) rest e) timed.rest)
rise_step i j m r rest k None h p up e right is more =
    (rw is (part_rises i j m k p h), more is right)

-- between two timed rows no event is reached before the time of an earlier place
rise : (i j : Timepoint) (m : ℕ) (rows : List StopTime) (k : ℕ) → m ≤ k → i.at < j.at → i.times.dep ≤ℤ j.times.arr → LastTimed rows
    → Right (wrong_along (Some i.times.dep) rows) → first_timed k (map times_of_row rows) ≡ Some j → AllByRecursion (λ e. part i j m ≤ℤ Event.arr e) (walk (Some i) k rows)
rise i j m [] k h p up e right is = tt
rise i j m (r ∷ rest) k h p up e right is =
    rise_step i j m r rest k (times_of_row r) h p up e right is (λ is' right'. rise i j m rest (k + 1) (omega (arith, h)) p up (last_timed (times_of_row r) rest e) right' is')

abbrev IsSince : Event → Type 0
IsSince e = pos 0 ≤ℤ e.arr

abbrev IsOnward : Event → Event → Type 0
IsOnward e f = e.dep ≤ℤ f.arr

onward_step : (r : StopTime) (rest : List StopTime) (k : ℕ) (i : Timepoint) (t : Option Times) → i.at < k → EndTimed t rest
    → Right (wrong_times (Some i.times.dep) r t ++ wrong_along (departed_by (Some i.times.dep) t) rest)
    → ((j : Timepoint) → j.at < k + 1 → Right (wrong_along (Some j.times.dep) rest) → AllPairs IsOnward (walk (Some j) (k + 1) rest))
    → AllPairs IsOnward (event_of r (own_or t (between (Some i) (first_timed (k + 1) (map times_of_row rest)) k)) ∷ walk (timed_or k t (Some i)) (k + 1) rest)
onward_step r rest k i (Some t) p e right more =
    let timed = timed_right i.times.dep r t (wrong_along (Some t.dep) rest) right in
    AllPairs-cons IsOnward _ _
    (All-from_recursion _ _ (low t.dep rest (k + 1) (record { at = k; times = t }) (omega (arith, ints)) (last_timed (Some t) rest e) timed.rest))
    (more (record { at = k; times = t }) (omega arith) timed.rest)
onward_step r rest k i None p e right more =
    let next = next_timed i.times.dep k None r rest e right in
    let after = next.after in
    rw next.is (
    AllPairs-cons IsOnward _ _
    (All-from_recursion _ _ (rise i next.row k rest (k + 1) (omega arith) (omega (arith, p, after)) next.onward (last_timed None rest e) right next.is))
    (more i (omega (arith, p)) right))

-- each event is left before a later one is reached
onward : (rows : List StopTime) (k : ℕ) (i : Timepoint) → i.at < k → LastTimed rows → Right (wrong_along (Some i.times.dep) rows) → AllPairs IsOnward (walk (Some i) k rows)
onward [] k i p e right = λ i j d before below. absurd (omega (arith, below))
onward (r ∷ rest) k i p e right = onward_step r rest k i (times_of_row r) p e right (λ j p' right'. onward rest (k + 1) j p' (last_timed (times_of_row r) rest e) right')

file_time_low : (t : ℤ) → IsFileTime t → negsuc 86399 ≤ℤ t
file_time_low t h = let a = h.least in omega (arith, ints, a)

sound_step : (stops : ℕ) (r : StopTime) (rest : List StopTime) (k : ℕ) (i : Timepoint) (t : Option Times) → r.stop < stops → IfSome t AreFileTimes → AllTimed (map times_of_row rest) → AreFileTimes i.times → i.at < k
    → EndTimed t rest → Right (wrong_times (Some i.times.dep) r t ++ wrong_along (departed_by (Some i.times.dep) t) rest)
    → ((j : Timepoint) → AreFileTimes j.times → j.at < k + 1 → Right (wrong_along (Some j.times.dep) rest) → AllByRecursion (IsSoundEvent stops) (walk (Some j) (k + 1) rest))
    → AllByRecursion (IsSoundEvent stops) (event_of r (own_or t (between (Some i) (first_timed (k + 1) (map times_of_row rest)) k)) ∷ walk (timed_or k t (Some i)) (k + 1) rest)
sound_step stops r rest k i (Some t) s within all a p e right more =
    let timed = timed_right i.times.dep r t (wrong_along (Some t.dep) rest) right in (
      record { stop = s; earliest = file_time_low t.arr within.arr; waits = timed.waits; latest = within.dep.most },
      more (record { at = k; times = t }) within (omega arith) timed.rest,
    )
sound_step stops r rest k i None s within all a p e right more =
    let next = next_timed i.times.dep k None r rest e right in
    let j = next.row in
    let after = next.after in
    let found = rw next.is at (after_by (map times_of_row rest) (k + 1) all) in
    let least = part_least i j k in
    let most = part_most i j k after next.onward in
    let low = a.dep.least in
    let high = found.1.arr.most in
    let event : IsSoundEvent stops (event_of r (between (Some i) (Some j) k)) = record {
      stop = s;
      earliest = omega (arith, ints, least, low);
      waits = omega (arith, ints);
      latest = omega (arith, ints, most, high);
    } in
    (rw next.is event, more i a (omega (arith, p)) right)

-- each event stands at a stop, within the limits of times
sound : (stops : ℕ) (rows : List StopTime) (k : ℕ) (i : Timepoint) → All (λ r. StopTime.stop r < stops) rows → All HasFileTimes rows → AreFileTimes i.times → i.at < k → LastTimed rows
    → Right (wrong_along (Some i.times.dep) rows) → AllByRecursion (IsSoundEvent stops) (walk (Some i) k rows)
sound stops [] k i s h a p e right = tt
sound stops (r ∷ rest) k i s h a p e right =
    let own = All-head HasFileTimes r rest h in
    let later = All-tail HasFileTimes r rest h in
    let stops_later = All-tail (λ r. StopTime.stop r < stops) r rest s in
    sound_step stops r rest k i (times_of_row r) (All-head (λ r. StopTime.stop r < stops) r rest s) (times_within r.arr r.dep own.arr own.dep) (all_timed rest later) a p e right
    (λ j a' p' right'. sound stops rest (k + 1) j stops_later later a' p' (last_timed (times_of_row r) rest e) right')

end_timed : (r : StopTime) (rest : List StopTime) → is_none (times_of_row (last_row r rest)) ≡ false → EndTimed (times_of_row r) rest
end_timed r [] h = h
end_timed r (s ∷ rest) h = end_timed s rest h

-- what is known of the rows of a trip with which nothing is wrong
pub record TripRight (r : StopTime) (rest : List StopTime) : Type 0 where
  pub times : Times
  pub first : times_of_row r ≡ Some times
  pub last : LastTimed rest
  pub waits : times.arr ≤ℤ times.dep
  pub along : Right (wrong_along (Some times.dep) rest)

trip_right_at : (r : StopTime) (rest : List StopTime) (t : Option Times) → times_of_row r ≡ t → is_none t ≡ false → LastTimed rest → Right (wrong_times None r t ++ wrong_along (departed_by None t) rest) → TripRight r rest
trip_right_at r rest None e n l h = absurd cc
trip_right_at r rest (Some t) e n l h =
    let both = one_right (int_lt t.dep t.arr) _ (first_wrong (wrong_along (Some t.dep) rest)) h in
    let waits = both.0 in
    record { times = t; first = e; last = l; waits = grind (arith, ints, waits); along = both.1 }

trip_right : (r s : StopTime) (rest : List StopTime) → Right (wrong_trip_times (r ∷ s ∷ rest)) → TripRight r (s ∷ rest)
trip_right r s rest h =
    let both = two_right (is_none (times_of_row r)) (is_none (times_of_row (last_row s rest))) _ _ (first_wrong (wrong_along None (r ∷ s ∷ rest))) h in
    trip_right_at r (s ∷ rest) (times_of_row r) refl both.0 (end_timed s rest both.1) both.2

walk_sound : (stops : ℕ) (r : StopTime) (rest : List StopTime) → All (λ r. StopTime.stop r < stops) (r ∷ rest) → All HasFileTimes (r ∷ rest) → TripRight r rest
    → AllByRecursion (IsSoundEvent stops) (walk None 0 (r ∷ rest)) × AllPairs IsOnward (walk None 0 (r ∷ rest)) × AllByRecursion IsSince (walk None 0 (r ∷ rest))
walk_sound stops r rest s h right =
    let t = right.times in
    let i : Timepoint = record { at = 0; times = t } in
    let own = All-head HasFileTimes r rest h in
    let later = All-tail HasFileTimes r rest h in
    let within : AreFileTimes t = rw right.first at (times_within r.arr r.dep own.arr own.dep) in
    let event : IsSoundEvent stops (event_of r t) = record {
      stop = All-head (λ r. StopTime.stop r < stops) r rest s;
      earliest = file_time_low t.arr within.arr;
      waits = right.waits;
      latest = within.dep.most;
    } in
    let P : Option Times → Type 0 =
    λ o. AllByRecursion (IsSoundEvent stops) (event_of r (own_or o (between None (first_timed 1 (map times_of_row rest)) 0)) ∷ walk (timed_or 0 o None) 1 rest)
    × AllPairs IsOnward (event_of r (own_or o (between None (first_timed 1 (map times_of_row rest)) 0)) ∷ walk (timed_or 0 o None) 1 rest)
    × AllByRecursion IsSince (event_of r (own_or o (between None (first_timed 1 (map times_of_row rest)) 0)) ∷ walk (timed_or 0 o None) 1 rest) in
    subst P (sym right.first) (
      (event, sound stops rest 1 i (All-tail (λ r. StopTime.stop r < stops) r rest s) later within (omega arith) right.last right.along),
      AllPairs-cons IsOnward (event_of r t) (walk (Some i) 1 rest)
          (All-from_recursion (IsOnward (event_of r t)) (walk (Some i) 1 rest) (low t.dep rest 1 i (omega (arith, ints)) right.last right.along))
          (onward rest 1 i (omega arith) right.last right.along),
      (within.arr.least, low (pos 0) rest 1 i within.dep.least right.last right.along),
    )

trip_sound : (stops : ℕ) (ordered : List StopTime) → All (λ r. StopTime.stop r < stops) ordered → All HasFileTimes ordered → Right (wrong_trip_times ordered) → 2 ≤ length ordered → IsSoundRide stops (events_in ordered)
trip_sound stops [] s h right long some = absurd (omega (arith, long))
trip_sound stops (r ∷ []) s h right long some = absurd (omega (arith, long))
trip_sound stops (r ∷ q ∷ rest) s h right long some =
    let parts = walk_sound stops r (q ∷ rest) s h (trip_right r q rest right) in
    rw walk_is (record {
      long = rw length-walk long;
      events = All-from_recursion (IsSoundEvent stops) (walk None 0 (r ∷ q ∷ rest)) parts.0;
      onward = parts.1;
      since = All-from_recursion IsSince (walk None 0 (r ∷ q ∷ rest)) parts.2;
    })

-- the events of a trip with which nothing is wrong
ride_sound : (stops : ℕ) (runs : Bool) (ordered : List StopTime) → All (λ r. StopTime.stop r < stops) ordered → All HasFileTimes ordered → Right (wrong_trip_times ordered) → IsSoundRide stops (ride_in runs ordered)
ride_sound stops false ordered s h right = λ some. absurd (omega (arith, some))
ride_sound stops true ordered s h right =
    elim (cases_Bool (nat_le 2 (length ordered))) [
      | inl t ↦ rw t (trip_sound stops ordered s h right (grind (arith, nat_tests, t)))
      | inr f ↦ rw f (λ some. absurd (omega (arith, some)))
    ]

both_right : (a b : Option FeedFault) → option_or a b ≡ None → (a ≡ None) × (b ≡ None)
both_right None b h = (refl, h)
both_right (Some f) b h = absurd cc

trips_right : (rows : List StopTime) (first count : ℕ) → Right (wrong_trips rows first (suc count)) → Right (wrong_trip_times (stop_times rows first)) × Right (wrong_trips rows (first + 1) count)
trips_right rows first count right = both_right _ _ (sym (first_wrong-append (wrong_trip_times (stop_times rows first)) (wrong_trips rows (first + 1) count)) ∙ right)

-- where nothing is wrong with any trip, nothing is wrong with each of them
each_right : (rows : List StopTime) (first count k : ℕ) → k < count → Right (wrong_trips rows first count) → Right (wrong_trip_times (stop_times rows (first + k)))
each_right rows first zero k h right = absurd (omega (arith, h))
each_right rows first (suc count) zero h right =
    let e : first + 0 ≡ first = omega arith in
    rw e (trips_right rows first count right).0
each_right rows first (suc count) (suc k) h right =
    let e : first + suc k ≡ first + 1 + k = omega arith in
    rw e (each_right rows (first + 1) count k (omega (arith, h)) (trips_right rows first count right).1)

same_ok : (r : Result (List (List Event)) FeedFault) (xs ys : List (List Event)) → r ≡ Ok xs → r ≡ Ok ys → xs ≡ ys
same_ok r xs ys p q = cc

-- where no trip has a fault, each ride is one of a sound trip
pub rides_sound : {V : Type 0} (events : V → List Event) (rows : List StopTime) (runs : List Bool) (rides : List V) (stops : ℕ) → All HasFileTimes rows → All (λ r. StopTime.stop r < stops) rows
    → checked_rides rows runs ≡ Ok (map events rides) → All (λ ride. IsSoundRide stops (events ride)) rides
rides_sound events rows runs rides stops h s made k d below =
    let count = length runs in
    let right = first_wrong-none (wrong_trips rows 0 count) (rides_on rows runs count) (map events rides) made in
    let all = same_ok (checked_rides rows runs) (map events rides) (rides_on rows runs count) made (unless_wrong-none (wrong_trips rows 0 count) (rides_on rows runs count) right) in
    let many : length rides ≡ count = sym (length-map rides events) ∙ ap length all ∙ length-map-range_with_len (ride_on rows runs) 0 count in
    let here : events (get_or rides k d) ≡ ride_on rows runs k =
    sym (get_or-map events rides k d [] below) ∙ ap (λ all. get_or all k []) all ∙ get_or-map-range_with_len (ride_on rows runs) 0 count k k [] (omega (arith, many, below)) (omega arith) in
    let own = rw zero-add at (each_right rows 0 count k (omega (arith, many, below)) right) in
    rw here (
    ride_sound stops (get_or runs k false) (stop_times rows k) (All-stop_times (λ r. StopTime.stop r < stops) rows k s) (All-stop_times HasFileTimes rows k h) own)
