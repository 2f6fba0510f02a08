-- A ride is looked for from event to event, and from trip to trip.
use Rattle.std.proofs.Common.{◌≡◌, ◌∙◌, refl, ap, sym, ℕ, zero, suc, ◌+◌, ◌<◌, ◌≤◌, List, [], ◌∷◌, length, drop, get_or, Option, Some, None, Bool, true, false, arith, add-one}
use Rattle.std.specs.Prelude.{slice_get, if◌then◌else◌}
use Rattle.std.specs.Option.{option_map, option_or}
use Rattle.std.proofs.Math.Seq.{drop-cons}
use Rattle.tb_base.specs.declared.days.ServiceDay.{ServiceDay}
use Rattle.tb_base.specs.declared.query.Leg.{Leg}
use Rattle.tb_base.specs.declared.table.Event.{Event}
use Rattle.tb_base.specs.TimetableData.{TripData}
use Rattle.journey_read.specs.declared.rides.Ends.{Ends}
use Rattle.journey_read.specs.Rides.{arrives, departs, end_among, ends_among, ride_among, ride_in, ride_on}

drop_past : {A : Type 0} (xs : List A) (n : ℕ) → length xs ≤ n → drop n xs ≡ []
drop_past [] zero past = refl
drop_past [] (suc n) past = refl
drop_past (x ∷ xs) zero past = absurd (omega arith)
drop_past (x ∷ xs) (suc n) past = drop_past xs n (omega arith)

-- what is left to find among these events, where the ride has begun or not
abbrev pub ends_behind : Ends → Option ℕ → ℕ → List Event → Option (ℕ × ℕ)
ends_behind ends None i events = ends_among ends i events
ends_behind ends (Some b) i events = option_map (λ j. (b, j)) (end_among ends i events)

-- that no event is one where the ride can end has nothing to do with the first event's index
none_at : (ends : Ends) (i j : ℕ) (events : List Event) → end_among ends i events ≡ None → end_among ends j events ≡ None
none_at ends i j [] none = refl
none_at ends i j (e ∷ events) none = by (arrives ends e) refl (none_at ends (i + 1) (j + 1) events) where
  by : (b : Bool) → arrives ends e ≡ b → (end_among ends (i + 1) events ≡ None → end_among ends (j + 1) events ≡ None) → end_among ends j (e ∷ events) ≡ None
  by true is later = absurd (let some : Some i ≡ None = rw is at none in cc)
  by false is later = let more : end_among ends (i + 1) events ≡ None = rw is at none in rw is (later more)

neither : (b : Bool) (i : ℕ) (first : Option ℕ) (rest : Option (ℕ × ℕ)) → first ≡ None → rest ≡ None → option_or (if b then option_map (λ j. (i, j)) first else None) rest ≡ None
neither true i None None f r = refl
neither true i (Some x) rest f r = absurd (cc f)
neither true i None (Some x) f r = absurd (cc r)
neither false i first None f r = refl
neither false i first (Some x) f r = absurd (cc r)

-- where it can't end it doesn't begin either
no_ends : (ends : Ends) (i j : ℕ) (events : List Event) → end_among ends j events ≡ None → ends_among ends i events ≡ None
no_ends ends i j [] none = refl
no_ends ends i j (e ∷ events) none = by (arrives ends e) refl (no_ends ends (i + 1) (j + 1) events) where
  by : (b : Bool) → arrives ends e ≡ b → (end_among ends (j + 1) events ≡ None → ends_among ends (i + 1) events ≡ None) → ends_among ends i (e ∷ events) ≡ None
  by true is later = absurd (let some : Some j ≡ None = rw is at none in cc)
  by false is later =
      let more : end_among ends (j + 1) events ≡ None = rw is at none in
      neither (departs ends e) i (end_among ends (i + 1) events) (ends_among ends (i + 1) events) (none_at ends (j + 1) (i + 1) events more) (later more)

first_counts : (i : ℕ) (first : Option ℕ) (rest : Option (ℕ × ℕ)) → (first ≡ None → rest ≡ None) → option_or (option_map (λ j. (i, j)) first) rest ≡ option_map (λ j. (i, j)) first
first_counts i (Some x) rest h = refl
first_counts i None rest h = h refl

-- of two events where it can begin the first counts
begun : (ends : Ends) (i : ℕ) (e : Event) (events : List Event) → departs ends e ≡ true → ends_among ends i (e ∷ events) ≡ ends_behind ends (Some i) (i + 1) events
begun ends i e events is = rw is (first_counts i (end_among ends (i + 1) events) (ends_among ends (i + 1) events) (no_ends ends (i + 1) (i + 1) events))

module _ (ends : Ends) (events : List Event) where
  -- what the events from one on leave to find is what there is
  abbrev pub IsLookedFor : Option ℕ → ℕ → Type 0
  IsLookedFor begin at = ends_behind ends begin at (drop at events) ≡ ends_among ends 0 events

  opened : (begin : Option ℕ) (at : ℕ) (e : Event) → at < length events → e ≡ get_or events at e → IsLookedFor begin at → ends_behind ends begin at (e ∷ drop (at + 1) events) ≡ ends_among ends 0 events
  opened begin at e inside is h =
      let rest : drop at events ≡ e ∷ drop (at + 1) events = rw add-one (drop-cons events at e inside ∙ ap (λ y. y ∷ drop (suc at) events) (sym is)) in
      ap (ends_behind ends begin at) (sym rest) ∙ h

  pub ride_begins : (at : ℕ) (e : Event) → at < length events → e ≡ get_or events at e → IsLookedFor None at → departs ends e ≡ true → IsLookedFor (Some at) (at + 1)
  ride_begins at e inside is h b = sym (begun ends at e (drop (at + 1) events) b) ∙ opened None at e inside is h

  pub not_begun : (at : ℕ) (e : Event) → at < length events → e ≡ get_or events at e → IsLookedFor None at → departs ends e ≡ false → IsLookedFor None (at + 1)
  not_begun at e inside is h b = let o = opened None at e inside is h in rw b at o

  pub not_ended : (begin at : ℕ) (e : Event) → at < length events → e ≡ get_or events at e → IsLookedFor (Some begin) at → arrives ends e ≡ false → IsLookedFor (Some begin) (at + 1)
  not_ended begin at e inside is h b = let o = opened (Some begin) at e inside is h in rw b at o

  pub ride_ends : (begin at : ℕ) (e : Event) → at < length events → e ≡ get_or events at e → IsLookedFor (Some begin) at → arrives ends e ≡ true → Some (begin, at) ≡ ends_among ends 0 events
  ride_ends begin at e inside is h b = let o = opened (Some begin) at e inside is h in rw b at o

  pub none_found : (begin : Option ℕ) (at : ℕ) → length events ≤ at → IsLookedFor begin at → None ≡ ends_among ends 0 events
  none_found None at past h = rw (drop_past events at past) at h
  none_found (Some b) at past h = rw (drop_past events at past) at h

module _ (name : List ℕ) (day : ServiceDay) (ends : Ends) (trips : List TripData) (numbers : List ℕ) where
  abbrev pub IsLookedForFrom : ℕ → Type 0
  IsLookedForFrom i = ride_in name day ends trips (drop i numbers) ≡ ride_among name day ends 0 trips

  next_trip : (i d : ℕ) (trip : TripData) → i < length numbers → slice_get trips (get_or numbers i d) ≡ Some trip → IsLookedForFrom i
      → option_or (ride_on name day ends (get_or numbers i d) trip) (ride_in name day ends trips (drop (i + 1) numbers)) ≡ ride_among name day ends 0 trips
  next_trip i d trip inside at h =
      let rest : drop i numbers ≡ get_or numbers i d ∷ drop (i + 1) numbers = rw add-one (drop-cons numbers i d inside) in
      let one : option_or (ride_on name day ends (get_or numbers i d) trip) (ride_in name day ends trips (drop (i + 1) numbers)) ≡ ride_in name day ends trips (get_or numbers i d ∷ drop (i + 1) numbers) = rw at refl in
      one ∙ ap (ride_in name day ends trips) (sym rest) ∙ h

  pub trip_has_none : (i d : ℕ) (trip : TripData) → i < length numbers → slice_get trips (get_or numbers i d) ≡ Some trip → IsLookedForFrom i → ride_on name day ends (get_or numbers i d) trip ≡ None → IsLookedForFrom (i + 1)
  trip_has_none i d trip inside at h none = let o = next_trip i d trip inside at h in rw none at o

  pub trip_has_one : (i d : ℕ) (trip : TripData) (leg : Leg) → i < length numbers → slice_get trips (get_or numbers i d) ≡ Some trip → IsLookedForFrom i → ride_on name day ends (get_or numbers i d) trip ≡ Some leg
      → Some leg ≡ ride_among name day ends 0 trips
  trip_has_one i d trip leg inside at h some = let o = next_trip i d trip inside at h in rw some at o

  pub no_trip : (i : ℕ) → length numbers ≤ i → IsLookedForFrom i → None ≡ ride_among name day ends 0 trips
  no_trip i past h = rw (drop_past numbers i past) at h
