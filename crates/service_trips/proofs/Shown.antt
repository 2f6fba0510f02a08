-- What a timetable shows of the trips of a service day.
use Rattle.std.proofs.Common.{◌≡◌, ◌∙◌, sym, ap, refl, ℕ, List, [], ◌∷◌, ◌++◌, map, Bool, inl, inr, arith}
use Rattle.std.specs.Prelude.{filter, codes, ℤ, pos, ◌+ℤ◌, ◌-ℤ◌}
use Rattle.std.proofs.lemmas.Int.{ints}
use Rattle.std.proofs.lemmas.Bool.{cases_Bool}
use Rattle.std.proofs.lemmas.List.{map-append}
use Rattle.std.proofs.lemmas.List.Elements.{filter-append}
use Rattle.tb_base.specs.declared.days.ServiceDay.{ServiceDay}
use Rattle.tb_base.specs.declared.days.ServiceDay.TheVariants as day
use Rattle.tb_base.specs.declared.table.Event.{Event}
use Rattle.tb_base.specs.Clock.{time_text}
use Rattle.tb_base.specs.ServiceDays.{seconds_after}
use Rattle.tb_base.specs.TimetableData.{TripData}
use Rattle.service_trips.specs.declared.starts.StartSpan.{StartSpan}
use Rattle.service_trips.specs.Starts.{is_in}
use Rattle.service_trips.specs.ServiceDay.{moved, first_departure, trip_starting_at}
use Rattle.service_trips.specs.TimetableTrips.{is_shown, reckoned, shown}
use Rattle.service_trips.specs.ShownRides.{shift}

-- events moved by nothing
moved_none : (events : List Event) → map (moved (pos 0)) events ≡ events
moved_none [] = refl
moved_none (x ∷ xs) =
    let arr : x.arr +ℤ pos 0 ≡ x.arr = omega (arith, ints) in
    let dep : x.dep +ℤ pos 0 ≡ x.dep = omega (arith, ints) in
    let rest = moved_none xs in
    λ i. record { stop = x.stop; arr = arr i; dep = dep i; board = x.board; alight = x.alight } ∷ rest i

-- a trip of the date stays as it is
pub of_date : (name : List ℕ) (events : List Event) → record { name = name; day = day.Date; events = events } ≡ reckoned day.Date (record { name = name; day = day.Date; events = events })
of_date name events =
    let e = moved_none events in
    λ i. record { name = name; day = day.Date; events = sym e i }

-- events moved twice
pub moved_twice : (a b c : ℤ) (events : List Event) → a +ℤ b ≡ c → map (moved b) (map (moved a) events) ≡ map (moved c) events
moved_twice a b c [] e = refl
moved_twice a b c (x ∷ xs) e =
    let arr : (x.arr +ℤ a) +ℤ b ≡ x.arr +ℤ c = omega (arith, ints, e) in
    let dep : (x.dep +ℤ a) +ℤ b ≡ x.dep +ℤ c = omega (arith, ints, e) in
    let rest = moved_twice a b c xs e in
    λ i. record { stop = x.stop; arr = arr i; dep = dep i; board = x.board; alight = x.alight } ∷ rest i

-- a trip by a start, in the reckoning of the date
starts_shown : (d : ServiceDay) (id : List ℕ) (ride : List Event) (start : ℕ) →
    record { name = id ++ codes "#" ++ time_text (pos start); day = d; events = map (moved (shift d ride start)) ride } ≡ reckoned d (trip_starting_at id ride start)
starts_shown d id ride start =
    let e = moved_twice (pos start -ℤ first_departure ride) (seconds_after d) (shift d ride start) ride refl in
    λ i. record { name = id ++ codes "#" ++ time_text (pos start); day = d; events = sym e i }

-- a trip of these parts is one by a start, in the reckoning of the date
pub trip_made : (d : ServiceDay) (id : List ℕ) (ride : List Event) (start : ℕ) (name : List ℕ) (events : List Event) (secs : ℤ) →
    name ≡ id ++ codes "#" ++ time_text (pos start) → events ≡ map (moved secs) ride → secs ≡ shift d ride start →
    record { name = name; day = d; events = events } ≡ reckoned d (trip_starting_at id ride start)
trip_made d id ride start name events secs n e s = rw (n, e, s) (starts_shown d id ride start)

pub shown-append : (d : ServiceDay) (xs ys : List TripData) → shown d (xs ++ ys) ≡ shown d xs ++ shown d ys
shown-append d xs ys =
    let p : TripData → Bool = λ t. is_shown d t.events in
    ap (map (reckoned d)) (filter-append p xs ys) ∙ map-append (reckoned d) (filter p xs) (filter p ys)

-- the trips that are shown are those that start within a span
pub late_starts : (d : ServiceDay) (span : StartSpan) (f : ℕ → TripData) (xs : List ℕ) → ((start : ℕ) → is_in span start ≡ is_shown d (TripData.events (f start)))
    → map (λ start. reckoned d (f start)) (filter (is_in span) xs) ≡ shown d (map f xs)
late_starts d span f [] late = refl
late_starts d span f (x ∷ xs) late =
    let here = late x in
    elim (cases_Bool (is_shown d (TripData.events (f x)))) [
      | inl t ↦ rw (here, t) (ap (λ rest. reckoned d (f x) ∷ rest) (late_starts d span f xs late))
      | inr e ↦ rw (here, e) (late_starts d span f xs late)
    ]
