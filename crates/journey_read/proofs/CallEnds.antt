-- The ends of a ride, found among the calls of its trip.
use Rattle.std.proofs.Common.{◌≡◌, refl, ap, sym, subst, ℕ, zero, suc, ◌+◌, ◌<◌, ◌≤◌, ◌==◌, ◌&&◌, Bool, true, false, List, length, get_or, ◌-◌, Option, Some, None, arith, add-one, ℤ}
use Rattle.std.specs.Prelude.{Contains}
use Rattle.std.specs.Ordering.{int_eq}
use Rattle.std.proofs.lemmas.List.{get_or_default}
use Rattle.std.proofs.lemmas.List.Elements.{All-contains}
use Rattle.tb_base.specs.declared.table.Event.{Event}
use Rattle.tb_base.specs.TimetableData.{no_event}
use Rattle.journey_read.specs.declared.calls.Call.{Call}
use Rattle.journey_read.specs.declared.calls.EventTime.TheVariants as which
use Rattle.journey_read.specs.declared.calls.TripCalls.{TripCalls}
use Rattle.journey_read.specs.declared.rides.Ends.{Ends}
use Rattle.journey_read.specs.Calls.{AreCalls, HoldsCalls, IsFirstCall, call_at, first_begin, first_end, moved_call, time_by}
use Rattle.journey_read.specs.Rides.{arrives, departs, ends_among}
use Rattle.journey_read.proofs.CallSearch.{same_stop_and_time, same_stop_and_time_from}
use Rattle.journey_read.proofs.RideSteps.{IsLookedFor, none_found, not_begun, not_ended, ride_begins, ride_ends}

module _ (time : Event → ℤ) (events : List Event) (calls : List Call) (are : AreCalls time events (length events) calls) (w : Call) where
  -- whether an event has the stop and the time
  abbrev pub fits : Event → Bool
  fits e = (e.stop == w.stop) && int_eq (time e) w.time

  abbrev event : ℕ → Event
  event i = get_or events i no_event

  has : (i : ℕ) → i < length events → fits (event i) ≡ true → Contains calls (moved_call w i)
  has i inside test =
      let same = same_stop_and_time (event i).stop w.stop (time (event i)) w.time test in
      let is : call_at time events i ≡ moved_call w i = λ k. record { stop = same.0 k; time = same.1 k; at = i } in
      subst (Contains calls) is (are.each i inside)

  passes : (i : ℕ) → Contains calls (moved_call w i) → (i < length events) × (fits (event i) ≡ true)
  passes i there =
      let real = All-contains (λ c. (c.at < length events) × (c ≡ call_at time events c.at)) calls (moved_call w i) are.real there in
      let stops : (event i).stop ≡ w.stop = sym (ap (λ (c : Call). c.stop) real.1) in
      let times : time (event i) ≡ w.time = sym (ap (λ (c : Call). c.time) real.1) in
      (real.0, same_stop_and_time_from (event i).stop w.stop (time (event i)) w.time stops times)

  pub record Fits (at : ℕ) : Type 0 where
    pub low : w.at ≤ at
    pub inside : at < length events
    pub test : fits (event at) ≡ true
    pub first : (j : ℕ) → w.at ≤ j → j < at → fits (event j) ≡ false

  pub found_call : (at : ℕ) → IsFirstCall calls w (Some at) → Fits at
  found_call at is =
      let there = passes at is.1 in
      record { low = is.0; inside = there.0; test = there.1; first = λ j low before. earlier j low before (fits (event j)) refl }
    where
      earlier : (j : ℕ) → w.at ≤ j → j < at → (b : Bool) → fits (event j) ≡ b → b ≡ false
      earlier j low before false e = refl
      earlier j low before true e =
          let inside = (passes at is.1).0 in
          let least = is.2 j low (has j (omega (arith, inside, before)) e) in
          absurd (omega (arith, least, before))

  pub no_call : IsFirstCall calls w None → (j : ℕ) → w.at ≤ j → j < length events → fits (event j) ≡ false
  no_call none j low inside = by (fits (event j)) refl where
    by : (b : Bool) → fits (event j) ≡ b → b ≡ false
    by false e = refl
    by true e = absurd (none j low (has j inside e))

module _ (ends : Ends) (events : List Event) where
  abbrev at : ℕ → Event
  at i = get_or events i no_event

  pub not_begun_before : (n : ℕ) → n ≤ length events → ((j : ℕ) → j < n → departs ends (at j) ≡ false) → IsLookedFor ends events None n
  not_begun_before zero inside other = refl
  not_begun_before (suc n) inside other =
      rw (← add-one)
      (not_begun ends events n (at n) (omega arith) (get_or_default events n no_event (at n) (omega arith)) (not_begun_before n (omega arith) (λ j h. other j (omega arith))) (other n (omega arith)))

  -- the ride begins at an event, and ends at none of so many behind it
  pub not_ended_before : (b n : ℕ) → b + 1 + n ≤ length events → ((j : ℕ) → j < b → departs ends (at j) ≡ false) → departs ends (at b) ≡ true
      → ((j : ℕ) → b + 1 ≤ j → j < b + 1 + n → arrives ends (at j) ≡ false) → IsLookedFor ends events (Some b) (b + 1 + n)
  not_ended_before b zero inside before begins other =
      subst (IsLookedFor ends events (Some b)) (omega arith)
      (ride_begins ends events b (at b) (omega arith) (get_or_default events b no_event (at b) (omega arith)) (not_begun_before b (omega arith) before) begins)
  not_ended_before b (suc n) inside before begins other =
      subst (IsLookedFor ends events (Some b)) (omega arith)
      (not_ended ends events b (b + 1 + n) (at (b + 1 + n)) (omega arith) (get_or_default events (b + 1 + n) no_event (at (b + 1 + n)) (omega arith))
      (not_ended_before b n (omega arith) before begins (λ j from h. other j from (omega arith))) (other (b + 1 + n) (omega arith) (omega arith)))

-- what is told of a first call
pub first_told : (found calls : List Call) (given wanted : Call) (result answer : Option ℕ) → found ≡ calls → given ≡ wanted → result ≡ answer → IsFirstCall found given result → IsFirstCall calls wanted answer
first_told found calls given wanted result answer same_calls same_call same_answer told =
    subst (IsFirstCall calls wanted) same_answer (subst (λ cs. IsFirstCall cs wanted result) same_calls (subst (λ w. IsFirstCall found w result) same_call told))

module _ (ends : Ends) (events : List Event) (calls : TripCalls) (holds : HoldsCalls events calls) where
  -- the ride begins at no event
  pub never_begins : IsFirstCall calls.departures.items (first_begin ends) None → None ≡ ends_among ends 0 events
  never_begins none =
      let other = no_call (time_by which.Departure) events calls.departures.items holds.departures.all (first_begin ends) none in
      none_found ends events None (length events) (omega arith) (not_begun_before ends events (length events) (omega arith) (λ j h. other j (omega arith) h))

  module _ (b : ℕ) (begins : IsFirstCall calls.departures.items (first_begin ends) (Some b)) where
    abbrev first : Fits (time_by which.Departure) events calls.departures.items holds.departures.all (first_begin ends) b
    first = found_call (time_by which.Departure) events calls.departures.items holds.departures.all (first_begin ends) b begins

    pub board_inside : b < length events
    board_inside = first.inside

    -- it begins and doesn't end
    pub never_ends : IsFirstCall calls.arrivals.items (first_end ends b) None → None ≡ ends_among ends 0 events
    never_ends none =
        let inside = first.inside in
        let other = no_call (time_by which.Arrival) events calls.arrivals.items holds.arrivals.all (first_end ends b) none in
        let all : b + 1 + (length events - (b + 1)) ≡ length events = omega (arith, inside) in
        none_found ends events (Some b) (length events) (omega arith)
        (subst (IsLookedFor ends events (Some b)) all
        (not_ended_before ends events b (length events - (b + 1)) (omega (arith, all)) (λ j h. first.first j (omega arith) h) first.test (λ j from h. other j from (omega (arith, all, h)))))

    pub begins_and_ends : (a : ℕ) → IsFirstCall calls.arrivals.items (first_end ends b) (Some a) → Some (b, a) ≡ ends_among ends 0 events
    begins_and_ends a is =
        let last = found_call (time_by which.Arrival) events calls.arrivals.items holds.arrivals.all (first_end ends b) a is in
        let low = last.low in
        let inside = last.inside in
        let all : b + 1 + (a - (b + 1)) ≡ a = omega (arith, low) in
        ride_ends ends events b a (get_or events a no_event) inside (get_or_default events a no_event (get_or events a no_event) inside)
        (subst (IsLookedFor ends events (Some b)) all
        (not_ended_before ends events b (a - (b + 1)) (omega (arith, all, inside)) (λ j h. first.first j (omega arith) h) first.test (λ j from h. last.first j from (omega (arith, all, h)))))
        last.test
