-- Some start moves a time beyond the limits where the first one moves the first arrival, or the last one the last departure.
use Rattle.std.proofs.Common.{◌≡◌, ◌∙◌, sym, ap, refl, ℕ, zero, suc, ◌+◌, ◌-◌, ◌*◌, ◌<◌, ◌≤◌, List, [], ◌∷◌, map, length, get_or, Bool, true, false, ◌||◌, arith, inl, inr}
use Rattle.std.specs.Prelude.{filter, nat_le, nat_lt, ℤ, pos, int_lt, ◌+ℤ◌, ◌-ℤ◌, ◌≤ℤ◌}
use Rattle.std.specs.List.{list_any, range_with_len}
use Rattle.std.proofs.Math.Nat.{mul-le-mul_right}
use Rattle.std.proofs.lemmas.Int.{ints}
use Rattle.std.proofs.lemmas.Bool.{cases_Bool}
use Rattle.std.proofs.lemmas.Bool.Decides.{nat_tests}
use Rattle.std.proofs.lemmas.List.{length-map, get_or-map}
use Rattle.std.proofs.lemmas.List.FromFn.{get_or-map-range_with_len, length-map-range_with_len}
use Rattle.std.proofs.lemmas.List.Folds.{list_any_none, list_any_at}
use Rattle.tb_base.specs.declared.table.Event.{Event}
use Rattle.tb_base.specs.TimetableData.{no_event}
use Rattle.service_trips.specs.declared.frequency.TripFrequency.{TripFrequency}
use Rattle.service_trips.specs.Starts.{starts, starts_from}
use Rattle.service_trips.specs.ServiceDay.{moved, first_departure, starting_at}
use Rattle.service_trips.specs.ShownRides.{IsRide, begin_from, end_from}
use Rattle.service_trips.specs.Limits.{has_beyond, is_beyond, moves_beyond}

-- a trip that starts at a time begins before the day
abbrev begins_early : List Event → ℕ → Bool
begins_early ride start = int_lt (begin_from ride start) (pos 0)

-- or ends after 99:59:59
abbrev ends_late : List Event → ℕ → Bool
ends_late ride start = int_lt (pos 359999) (end_from ride start)

-- no start is before the day
from_zero : (xs : List ℕ) → filter (nat_le 0) xs ≡ xs
from_zero [] = refl
from_zero (x ∷ xs) =
    let here : nat_le 0 x ≡ true = grind (arith, nat_tests) in
    rw here (ap (λ rest. x ∷ rest) (from_zero xs))

pub all_starts_are : (f : TripFrequency) → starts_from 0 f ≡ starts f
all_starts_are f = from_zero (starts f)

-- no event arrives before the first, or departs after the last
earliest : (ride : List Event) → IsRide ride → (i : ℕ) → i < length ride → Event.arr (get_or ride 0 no_event) ≤ℤ Event.arr (get_or ride i no_event)
earliest ride is zero below = omega (arith, ints)
earliest ride is (suc i) below =
    let first = (is.events 0 no_event (omega (arith, below))).waits in
    let onward = is.onward 0 (suc i) no_event (omega arith) below in
    omega (arith, ints, first, onward)

latest : (ride : List Event) → IsRide ride → (i : ℕ) → i < length ride → Event.dep (get_or ride i no_event) ≤ℤ Event.dep (get_or ride (length ride - 1) no_event)
latest ride is i below =
    elim (cases_Bool (nat_lt i (length ride - 1))) [
      | inl t ↦
          let before : i < length ride - 1 = grind (arith, nat_tests, t) in
          let last = (is.events (length ride - 1) no_event (omega (arith, below))).waits in
          let onward = is.onward i (length ride - 1) no_event before (omega (arith, below)) in
          omega (arith, ints, last, onward)
      | inr f ↦
          let same : i ≡ length ride - 1 = grind (arith, nat_tests, f, below) in
          rw same (omega (arith, ints))
    ]

within : (arr dep : ℤ) → pos 0 ≤ℤ arr → arr ≤ℤ dep → dep ≤ℤ pos 359999 → (is_beyond arr || is_beyond dep) ≡ false
within arr dep low waits high = grind (arith, ints, low, waits, high)

early : (arr dep : ℤ) → int_lt arr (pos 0) ≡ true → (is_beyond arr || is_beyond dep) ≡ true
early arr dep low = grind (arith, ints, low)

late : (arr dep : ℤ) → int_lt (pos 359999) dep ≡ true → (is_beyond arr || is_beyond dep) ≡ true
late arr dep high = grind (arith, ints, high)

not_early : (z : ℤ) → int_lt z (pos 0) ≡ false → pos 0 ≤ℤ z
not_early z h = grind (arith, ints, h)

not_late : (z : ℤ) → int_lt (pos 359999) z ≡ false → z ≤ℤ pos 359999
not_late z h = grind (arith, ints, h)

-- an event of a trip that starts at a time
event_starting : (ride : List Event) (start i : ℕ) → i < length ride → get_or (starting_at ride start) i no_event ≡ moved (pos start -ℤ first_departure ride) (get_or ride i no_event)
event_starting ride start i below = get_or-map (moved (pos start -ℤ first_departure ride)) ride i no_event no_event below

abbrev is_moved_beyond : List Event → ℕ → Bool
is_moved_beyond ride start = list_any has_beyond (starting_at ride start)

by_early : (ride : List Event) (start : ℕ) → IsRide ride → begins_early ride start ≡ true → is_moved_beyond ride start ≡ true
by_early ride start is e =
    let long = is.long in
    let n = length-map ride (moved (pos start -ℤ first_departure ride)) in
    list_any_at has_beyond (starting_at ride start) 0 no_event (omega (arith, long, n))
    (ap has_beyond (event_starting ride start 0 (omega (arith, long))) ∙ early (begin_from ride start) (Event.dep (get_or ride 0 no_event) +ℤ (pos start -ℤ first_departure ride)) e)

by_late : (ride : List Event) (start : ℕ) → IsRide ride → ends_late ride start ≡ true → is_moved_beyond ride start ≡ true
by_late ride start is e =
    let long = is.long in
    let n = length-map ride (moved (pos start -ℤ first_departure ride)) in
    list_any_at has_beyond (starting_at ride start) (length ride - 1) no_event (omega (arith, long, n))
    (ap has_beyond (event_starting ride start (length ride - 1) (omega (arith, long))) ∙ late (Event.arr (get_or ride (length ride - 1) no_event) +ℤ (pos start -ℤ first_departure ride)) (end_from ride start) e)

by_neither : (ride : List Event) (first start last : ℕ) → IsRide ride → first ≤ start → start ≤ last → begins_early ride first ≡ false → ends_late ride last ≡ false → is_moved_beyond ride start ≡ false
by_neither ride first start last is low high e l =
    let secs : ℤ = pos start -ℤ first_departure ride in
    list_any_none has_beyond (starting_at ride start) (λ i d below.
    let n = length-map ride (moved secs) in
    let inside : i < length ride = omega (arith, below, n) in
    let at = get_or-map (moved secs) ride i no_event d inside in
    let a = earliest ride is i inside in
    let b = latest ride is i inside in
    let w = (is.events i no_event inside).waits in
    let arr : ℤ = Event.arr (get_or ride i no_event) +ℤ secs in
    let dep : ℤ = Event.dep (get_or ride i no_event) +ℤ secs in
    let e' = not_early (begin_from ride first) e in
    let l' = not_late (end_from ride last) l in
    ap has_beyond at ∙ within arr dep (omega (arith, ints, a, e', low)) (omega (arith, ints, w)) (omega (arith, ints, b, l', high)))

cases_or : (P : Bool → Type 0) (a b : Bool) → (a ≡ true → P true) → (a ≡ false → b ≡ true → P true) → (a ≡ false → b ≡ false → P false) → P (a || b)
cases_or P true b p q r = p refl
cases_or P false true p q r = q refl refl
cases_or P false false p q r = r refl refl

-- a run of starts, of which some move a time beyond the limits
pub run_beyond : (ride : List Event) (f : TripFrequency) (first count : ℕ) → IsRide ride → 0 < count → map (λ k. first + k * f.headway) (range_with_len 0 count) ≡ starts_from 0 f
    → (begins_early ride first || ends_late ride (first + (count - 1) * f.headway)) ≡ moves_beyond ride f
run_beyond ride f first count is some run =
    let g : ℕ → ℕ = λ k. first + k * f.headway in
    let n = length-map-range_with_len g 0 count in
    let these : map g (range_with_len 0 count) ≡ starts f = run ∙ all_starts_are f in
    let zeroth : get_or (map g (range_with_len 0 count)) 0 0 ≡ first = get_or-map-range_with_len g 0 count 0 0 0 some (omega arith) ∙ omega arith in
    let lastly : get_or (map g (range_with_len 0 count)) (count - 1) 0 ≡ g (count - 1) = get_or-map-range_with_len g 0 count (count - 1) (count - 1) 0 (omega (arith, some)) (omega arith) in
    cases_or (λ b. b ≡ moves_beyond ride f) (begins_early ride first) (ends_late ride (g (count - 1)))
    (λ e. sym (ap (list_any (is_moved_beyond ride)) (sym these) ∙ list_any_at (is_moved_beyond ride) (map g (range_with_len 0 count)) 0 0 (omega (arith, n, some)) (ap (is_moved_beyond ride) zeroth ∙ by_early ride first is e)))
    (λ e l. sym (ap (list_any (is_moved_beyond ride)) (sym these) ∙ list_any_at (is_moved_beyond ride) (map g (range_with_len 0 count)) (count - 1) 0 (omega (arith, n, some)) (ap (is_moved_beyond ride) lastly ∙ by_late ride (g (count - 1)) is l)))
    (λ e l. sym (ap (list_any (is_moved_beyond ride)) (sym these) ∙ list_any_none (is_moved_beyond ride) (map g (range_with_len 0 count)) (λ k d below.
    let inside : k < count = omega (arith, below, n) in
    let at = get_or-map-range_with_len g 0 count k k d inside (omega arith) in
    let m = mul-le-mul_right f.headway (let x : k ≤ count - 1 = omega (arith, inside) in x) in
    ap (is_moved_beyond ride) at ∙ by_neither ride first (g k) (g (count - 1)) is (omega arith) (omega (arith, m)) e l)))

-- without starts none does
pub none_beyond : (ride : List Event) (f : TripFrequency) (first count : ℕ) → count ≡ 0 → map (λ k. first + k * f.headway) (range_with_len 0 count) ≡ starts_from 0 f → moves_beyond ride f ≡ false
none_beyond ride f first count none run =
    let these : [] ≡ starts f = (let r = run in rw none at r) ∙ all_starts_are f in
    ap (list_any (is_moved_beyond ride)) (sym these)

-- without events neither
pub no_ride_beyond : (ride : List Event) (f : TripFrequency) → length ride ≡ 0 → moves_beyond ride f ≡ false
no_ride_beyond [] f none = list_any_none (is_moved_beyond []) (starts f) (λ k d below. refl)
no_ride_beyond (e ∷ es) f none = absurd (omega (arith, none))
