-- The trips of a timetable are sound.
use Rattle.std.proofs.Common.{◌≡◌, ◌∙◌, sym, ap, refl, ℕ, zero, suc, ◌-◌, ◌<◌, List, [], ◌∷◌, map, length, get_or, Bool, true, false, ◌||◌, arith, inl, inr}
use Rattle.std.specs.Prelude.{All, filter, ◌==◌, not, int_lt, Ok, ℤ, pos, negsuc, ◌+ℤ◌, ◌-ℤ◌, ◌≤ℤ◌, slice_index_or}
use Rattle.std.specs.List.{list_any, flat_map, range_with_len}
use Rattle.std.proofs.lemmas.Int.{ints}
use Rattle.std.proofs.lemmas.Bool.{cases_Bool}
use Rattle.std.proofs.lemmas.Bool.Decides.{nat_tests}
use Rattle.std.proofs.lemmas.List.{length-map, get_or-map}
use Rattle.std.proofs.lemmas.List.Elements.{All-append, All-cons, All-head, All-nil, All-tail}
use Rattle.std.proofs.lemmas.List.Folds.{list_any_at}
use Rattle.tb_base.specs.declared.days.ServiceDay.{ServiceDay}
use Rattle.tb_base.specs.declared.days.ServiceDay.TheVariants as day
use Rattle.tb_base.specs.declared.table.Event.{Event}
use Rattle.tb_base.specs.ServiceDays.{seconds_after}
use Rattle.tb_base.specs.TimetableData.{TripData, no_event}
use Rattle.tb_base.specs.Soundness.{IsSoundTrip}
use Rattle.gtfs_rows.specs.Faults.{unless_wrong}
use Rattle.service_trips.specs.Rides.{AreSoundEvents, IsSoundRide}
use Rattle.service_trips.specs.declared.frequency.TripFrequency.{TripFrequency}
use Rattle.service_trips.specs.Starts.{names_trip, starts}
use Rattle.service_trips.specs.ServiceDay.{FeedTrips, ride_of_trip, id_of, moved, first_departure, starting_at, trip_starting_at, trips_of, trips_where, trips_at, service_trips}
use Rattle.service_trips.specs.TimetableTrips.{DayRunsData, is_shown, last_departure, reckoned, shown, timetable_trips}
use Rattle.service_trips.specs.ShownRides.{IsRideOrNone}
use Rattle.service_trips.specs.Limits.{has_beyond, is_beyond, moves_beyond, wrong_frequency, check_frequencies}

-- the events of a sound ride are those of a day
pub day_ride : (n : ℕ) (ride : List Event) → IsSoundRide n ride → IsRideOrNone ride
day_ride n ride sound some =
    let s = sound some in
    record {
      long = s.long;
      events = λ i d below.
          let e = s.events i d below in
          record { since = s.since i d below; waits = e.waits; latest = e.latest };
      onward = s.onward;
    }

-- no item passes a test that none passes
none_passes : {X : Type 0} (p : X → Bool) (xs : List X) → list_any p xs ≡ false → All (λ x. p x ≡ false) xs
none_passes p xs none i d below =
    elim (cases_Bool (p (get_or xs i d))) [
      | inl t ↦ absurd (let yes' = list_any_at p xs i d below t in cc)
      | inr f ↦ f
    ]

inside_low : (arr dep : ℤ) → (is_beyond arr || is_beyond dep) ≡ false → pos 0 ≤ℤ arr
inside_low arr dep none = grind (arith, ints, none)

inside_high : (arr dep : ℤ) → (is_beyond arr || is_beyond dep) ≡ false → dep ≤ℤ pos 359999
inside_high arr dep none = grind (arith, ints, none)

-- a sound ride stays sound when it is moved within the limits
moved_sound : (n : ℕ) (ride : List Event) (secs : ℤ) → AreSoundEvents n ride → list_any has_beyond (map (moved secs) ride) ≡ false → AreSoundEvents n (map (moved secs) ride)
moved_sound n ride secs s none =
    let inside = none_passes has_beyond (map (moved secs) ride) none in
    let many = length-map ride (moved secs) in
    record {
      long = let long = s.long in omega (arith, long, many);
      events = λ i d below.
          let within : i < length ride = omega (arith, below, many) in
          let at : get_or (map (moved secs) ride) i d ≡ moved secs (get_or ride i d) = get_or-map (moved secs) ride i d d within in
          let e = s.events i d within in
          let ok = ap has_beyond (sym at) ∙ inside i d below in
          let waits = e.waits in
          let arr : ℤ = Event.arr (get_or ride i d) +ℤ secs in
          let dep : ℤ = Event.dep (get_or ride i d) +ℤ secs in
          let low = inside_low arr dep ok in
          rw at (record { stop = e.stop; earliest = omega (arith, ints, low); waits = omega (arith, ints, waits); latest = inside_high arr dep ok });
      onward = λ i j d before below.
          let within : j < length ride = omega (arith, below, many) in
          let at : get_or (map (moved secs) ride) i d ≡ moved secs (get_or ride i d) = get_or-map (moved secs) ride i d d (omega (arith, within, before)) in
          let to : get_or (map (moved secs) ride) j d ≡ moved secs (get_or ride j d) = get_or-map (moved secs) ride j d d within in
          let on = s.onward i j d before within in
          rw (at, to) (omega (arith, ints, on));
      since = λ i d below.
          let within : i < length ride = omega (arith, below, many) in
          let at : get_or (map (moved secs) ride) i d ≡ moved secs (get_or ride i d) = get_or-map (moved secs) ride i d d within in
          let ok = ap has_beyond (sym at) ∙ inside i d below in
          rw at (inside_low (Event.arr (get_or ride i d) +ℤ secs) (Event.dep (get_or ride i d) +ℤ secs) ok);
    }

abbrev HasSound : ℕ → TripData → Type 0
HasSound n t = AreSoundEvents n t.events

-- the trips of the starts of a row that moves no time beyond the limits
starts_sound : (n : ℕ) (id : List ℕ) (ride : List Event) (xs : List ℕ) → AreSoundEvents n ride → All (λ start. list_any has_beyond (starting_at ride start) ≡ false) xs → All (HasSound n) (map (trip_starting_at id ride) xs)
starts_sound n id ride [] s none = All-nil (HasSound n)
starts_sound n id ride (x ∷ xs) s none =
    All-cons (HasSound n) (trip_starting_at id ride x) (map (trip_starting_at id ride) xs)
    (moved_sound n ride (pos x -ℤ first_departure ride) s (All-head (λ start. list_any has_beyond (starting_at ride start) ≡ false) x xs none))
    (starts_sound n id ride xs s (All-tail (λ start. list_any has_beyond (starting_at ride start) ≡ false) x xs none))

abbrev KeepsWithin : List Event → TripFrequency → Type 0
KeepsWithin ride f = moves_beyond ride f ≡ false

all_within : (ride : List Event) (fs : List TripFrequency) → All (KeepsWithin ride) fs → All (λ start. list_any has_beyond (starting_at ride start) ≡ false) (flat_map starts fs)
all_within ride [] keeps = All-nil (λ start. list_any has_beyond (starting_at ride start) ≡ false)
all_within ride (f ∷ fs) keeps =
    All-append (λ start. list_any has_beyond (starting_at ride start) ≡ false) (starts f) (flat_map starts fs)
    (none_passes (λ start. list_any has_beyond (starting_at ride start)) (starts f) (All-head (KeepsWithin ride) f fs keeps))
    (all_within ride fs (All-tail (KeepsWithin ride) f fs keeps))

row_sound : (n : ℕ) (id : List ℕ) (fs : List TripFrequency) (ride : List Event) → IsSoundRide n ride → All (KeepsWithin ride) fs → All (HasSound n) (trips_of id fs ride)
row_sound n id fs [] sound keeps = All-nil (HasSound n)
row_sound n id [] (e ∷ es) sound keeps = All-cons (HasSound n) (record { name = id; day = day.Date; events = e ∷ es }) [] (sound (omega arith)) (All-nil (HasSound n))
row_sound n id (f ∷ fs) (e ∷ es) sound keeps = starts_sound n id (e ∷ es) (flat_map starts (f ∷ fs)) (sound (omega arith)) (all_within (e ∷ es) (f ∷ fs) keeps)

where_sound : (n : ℕ) (runs : Bool) (id : List ℕ) (fs : List TripFrequency) (ride : List Event) → IsSoundRide n ride → All (KeepsWithin ride) fs → All (HasSound n) (trips_where runs id fs ride)
where_sound n false id fs ride sound keeps = All-nil (HasSound n)
where_sound n true id fs ride sound keeps = row_sound n id fs ride sound keeps

-- a check that nothing fails
checked : (feed : FeedTrips) (fs rows rows' : List TripFrequency) → unless_wrong (map (wrong_frequency feed) fs) rows ≡ Ok rows' → All (λ f. moves_beyond (ride_of_trip feed (TripFrequency.trip_row f)) f ≡ false) fs
checked feed [] rows rows' ok = All-nil (λ f. moves_beyond (ride_of_trip feed (TripFrequency.trip_row f)) f ≡ false)
checked feed (f ∷ fs) rows rows' ok =
    elim (cases_Bool (moves_beyond (ride_of_trip feed f.trip_row) f)) [
      | inl t ↦ absurd (let h = rw t at ok in cc)
      | inr e ↦ All-cons (λ f. moves_beyond (ride_of_trip feed (TripFrequency.trip_row f)) f ≡ false) f fs e (checked feed fs rows rows' (let h = rw e at ok in h))
    ]

-- the rows that name a trip keep its times within
of_trip_within : (feed : FeedTrips) (trip : ℕ) (fs : List TripFrequency) → All (λ f. moves_beyond (ride_of_trip feed (TripFrequency.trip_row f)) f ≡ false) fs → All (KeepsWithin (ride_of_trip feed trip)) (filter (names_trip trip) fs)
of_trip_within feed trip [] keeps = All-nil (KeepsWithin (ride_of_trip feed trip))
of_trip_within feed trip (f ∷ fs) keeps =
    let rest = of_trip_within feed trip fs (All-tail (λ f. moves_beyond (ride_of_trip feed (TripFrequency.trip_row f)) f ≡ false) f fs keeps) in
    let here = All-head (λ f. moves_beyond (ride_of_trip feed (TripFrequency.trip_row f)) f ≡ false) f fs keeps in
    elim (cases_Bool (f.trip_row == trip)) [
      | inl t ↦
          let same : f.trip_row ≡ trip = grind (arith, nat_tests, t) in
          rw t (All-cons (KeepsWithin (ride_of_trip feed trip)) f (filter (names_trip trip) fs) (rw same at here) rest)
      | inr e ↦ rw e rest
    ]

sound_ride_at : (n : ℕ) (rides : List (List Event)) (k : ℕ) → All (IsSoundRide n) rides → IsSoundRide n (slice_index_or rides k [])
sound_ride_at n [] k sound = λ some. absurd (omega (arith, some))
sound_ride_at n (r ∷ rs) zero sound = All-head (IsSoundRide n) r rs sound
sound_ride_at n (r ∷ rs) (suc k) sound = sound_ride_at n rs k (All-tail (IsSoundRide n) r rs sound)

rows_sound : (n : ℕ) (feed : FeedTrips) (runs : List Bool) (ks : List ℕ) → All (IsSoundRide n) feed.rides → All (λ f. moves_beyond (ride_of_trip feed (TripFrequency.trip_row f)) f ≡ false) feed.frequencies
    → All (HasSound n) (flat_map (trips_at feed runs) ks)
rows_sound n feed runs [] sound keeps = All-nil (HasSound n)
rows_sound n feed runs (k ∷ ks) sound keeps =
    All-append (HasSound n) (trips_at feed runs k) (flat_map (trips_at feed runs) ks)
    (where_sound n (slice_index_or runs k false) (id_of feed k) (filter (names_trip k) feed.frequencies) (ride_of_trip feed k) (sound_ride_at n feed.rides k sound) (of_trip_within feed k feed.frequencies keeps))
    (rows_sound n feed runs ks sound keeps)

-- an item of a list, whatever stands for one that is not there
same_at : (xs : List Event) (i : ℕ) (d e : Event) → i < length xs → get_or xs i d ≡ get_or xs i e
same_at [] i d e below = absurd (omega (arith, below))
same_at (x ∷ xs) zero d e below = refl
same_at (x ∷ xs) (suc i) d e below = same_at xs i d e (omega (arith, below))

-- no event is left after the last one is left
left_by_end : (n : ℕ) (ride : List Event) (i : ℕ) (d : Event) → AreSoundEvents n ride → i < length ride → Event.dep (get_or ride i d) ≤ℤ last_departure ride
left_by_end n ride i d s below =
    let k = length ride - 1 in
    let at : Event.dep (get_or ride i d) ≡ Event.dep (get_or ride i no_event) = ap Event.dep (same_at ride i d no_event below) in
    elim (cases_Bool (i == k)) [
      | inl t ↦
          let is : i ≡ k = grind (arith, nat_tests, t) in
          let same : Event.dep (get_or ride i no_event) ≡ last_departure ride = ap (λ j. Event.dep (get_or ride j no_event)) is in
          omega (arith, ints, at, same)
      | inr f ↦
          let earlier : i < k = grind (arith, nat_tests, f, below) in
          let on = s.onward i k no_event earlier (omega (arith, below)) in
          let e = s.events k no_event (omega (arith, below)) in
          let waits = e.waits in
          omega (arith, ints, at, on, waits)
    ]

-- times of a trip that is shown are those of a timetable when they are told as times of the date
gains_low : (d : ServiceDay) (x : ℤ) → pos 0 ≤ℤ x → negsuc 86399 ≤ℤ (x +ℤ seconds_after d)
gains_low day.Before x low = omega (arith, ints, low)
gains_low day.Date x low = omega (arith, ints, low)
gains_low day.After x low = omega (arith, ints, low)
gains_low day.SecondAfter x low = omega (arith, ints, low)

over : (limit end x : ℤ) → not (int_lt limit end) ≡ true → x ≤ℤ end → x ≤ℤ limit
over limit end x shown before = grind (arith, ints, shown, before)

gains_high : (d : ServiceDay) (ride : List Event) (x : ℤ) → x ≤ℤ pos 359999 → x ≤ℤ last_departure ride → is_shown d ride ≡ true → (x +ℤ seconds_after d) ≤ℤ pos 359999
gains_high day.Before ride x high before shown = omega (arith, ints, high)
gains_high day.Date ride x high before shown = omega (arith, ints, high)
gains_high day.After ride x high before shown = let h = over (pos 273599) (last_departure ride) x shown before in omega (arith, ints, h)
gains_high day.SecondAfter ride x high before shown = let h = over (pos 187199) (last_departure ride) x shown before in omega (arith, ints, h)

reckoned_sound : (n : ℕ) (d : ServiceDay) (t : TripData) → HasSound n t → is_shown d t.events ≡ true → IsSoundTrip n (reckoned d t)
reckoned_sound n d t s shown =
    let ride = t.events in
    let secs = seconds_after d in
    let many = length-map ride (moved secs) in
    record {
      long = let long = s.long in omega (arith, long, many);
      events = λ i x below.
          let within : i < length ride = omega (arith, below, many) in
          let at : get_or (map (moved secs) ride) i x ≡ moved secs (get_or ride i x) = get_or-map (moved secs) ride i x x within in
          let e = s.events i x within in
          let waits = e.waits in
          rw at (record {
            stop = e.stop;
            earliest = gains_low d (Event.arr (get_or ride i x)) (s.since i x within);
            waits = omega (arith, ints, waits);
            latest = gains_high d ride (Event.dep (get_or ride i x)) e.latest (left_by_end n ride i x s within) shown;
          });
      onward = λ i j x before below.
          let within : j < length ride = omega (arith, below, many) in
          let at : get_or (map (moved secs) ride) i x ≡ moved secs (get_or ride i x) = get_or-map (moved secs) ride i x x (omega (arith, within, before)) in
          let to : get_or (map (moved secs) ride) j x ≡ moved secs (get_or ride j x) = get_or-map (moved secs) ride j x x within in
          let on = s.onward i j x before within in
          rw (at, to) (omega (arith, ints, on));
    }

shown_sound : (n : ℕ) (d : ServiceDay) (trips : List TripData) → All (HasSound n) trips → All (IsSoundTrip n) (shown d trips)
shown_sound n d [] sound = All-nil (IsSoundTrip n)
shown_sound n d (t ∷ ts) sound =
    let rest = shown_sound n d ts (All-tail (HasSound n) t ts sound) in
    elim (cases_Bool (is_shown d t.events)) [
      | inl y ↦ rw y (All-cons (IsSoundTrip n) (reckoned d t) (shown d ts) (reckoned_sound n d t (All-head (HasSound n) t ts sound) y) rest)
      | inr f ↦ rw f rest
    ]

days_sound : (n : ℕ) (feed : FeedTrips) (days : List DayRunsData) → ((runs : List Bool) → All (HasSound n) (service_trips feed runs)) → All (IsSoundTrip n) (timetable_trips feed days)
days_sound n feed [] all = All-nil (IsSoundTrip n)
days_sound n feed (d ∷ days) all =
    All-append (IsSoundTrip n) (shown d.day (service_trips feed d.runs)) (timetable_trips feed days)
    (shown_sound n d.day (service_trips feed d.runs) (all d.runs))
    (days_sound n feed days all)

-- the trips of a timetable are sound where its rides are, and no row moves a time beyond the limits
pub timetable_sound : (n : ℕ) (feed : FeedTrips) (days : List DayRunsData) → All (IsSoundRide n) feed.rides → check_frequencies feed ≡ Ok feed.frequencies → All (IsSoundTrip n) (timetable_trips feed days)
timetable_sound n feed days sound ok =
    let keeps = checked feed feed.frequencies feed.frequencies feed.frequencies ok in
    days_sound n feed days (λ runs. rows_sound n feed runs (range_with_len 0 (length feed.rows)) sound keeps)
