-- How many trips are shown, and how many events they have.
use Rattle.std.proofs.Common.{◌≡◌, ◌∙◌, sym, ap, refl, ℕ, suc, ◌+◌, ◌*◌, ◌<◌, ◌≤◌, List, [], ◌∷◌, map, length, min, Bool, arith, inl, inr}
use Rattle.std.specs.Prelude.{All, filter, nat_le, sum_by}
use Rattle.std.specs.List.{flat_map}
use Rattle.std.proofs.Math.Nat.{le-mul_of_pos_right}
use Rattle.std.proofs.lemmas.Bool.{cases_Bool}
use Rattle.std.proofs.lemmas.Bool.Decides.{nat_tests}
use Rattle.std.proofs.lemmas.List.{length-map, length-append}
use Rattle.std.proofs.lemmas.List.Elements.{filter-append, All-nil, All-cons, All-filter, All-head, All-tail}
use Rattle.std.proofs.lemmas.List.Sums.{sum_by-cons}
use Rattle.tb_base.specs.declared.days.ServiceDay.{ServiceDay}
use Rattle.tb_base.specs.declared.days.ServiceDay.TheVariants as day
use Rattle.tb_base.specs.declared.table.Event.{Event}
use Rattle.tb_base.specs.TimetableData.{TripData}
use Rattle.service_trips.specs.declared.frequency.TripFrequency.{TripFrequency}
use Rattle.service_trips.specs.declared.starts.StartSpan.{StartSpan}
use Rattle.service_trips.specs.Starts.{starts, is_in, starts_in}
use Rattle.service_trips.specs.ServiceDay.{moved, trip_starting_at, trips_of, starting_at}
use Rattle.service_trips.specs.TimetableTrips.{is_shown, reckoned, shown}
use Rattle.service_trips.specs.Sizes.{event_count}
use Rattle.service_trips.proofs.Shown.{late_starts}

counted : (span : StartSpan) (fs : List TripFrequency) → length (filter (is_in span) (flat_map starts fs)) ≡ sum_by (λ f. length (starts_in span f)) fs
counted span [] = refl
counted span (f ∷ fs) =
    ap length (filter-append (is_in span) (starts f) (flat_map starts fs))
    ∙ length-append (starts_in span f) (filter (is_in span) (flat_map starts fs))
    ∙ ap (λ n. length (starts_in span f) + n) (counted span fs)
    ∙ sym (sum_by-cons (λ f. length (starts_in span f)) f fs)

-- as many trips are shown as starts are in the span
pub starts_counted : (d : ServiceDay) (id : List ℕ) (ride : List Event) (span : StartSpan) (fs : List TripFrequency) → ((start : ℕ) → is_in span start ≡ is_shown d (starting_at ride start))
    → length (shown d (map (trip_starting_at id ride) (flat_map starts fs))) ≡ sum_by (λ f. length (starts_in span f)) fs
starts_counted d id ride span fs late =
    ap length (sym (late_starts d span (trip_starting_at id ride) (flat_map starts fs) late))
    ∙ length-map (filter (is_in span) (flat_map starts fs)) (λ start. reckoned d (trip_starting_at id ride start))
    ∙ counted span fs

-- the trips have so many events each
abbrev pub HasEvents : ℕ → TripData → Type 0
HasEvents n t = length t.events ≡ n

pub all_counted : (n : ℕ) (trips : List TripData) → All (HasEvents n) trips → event_count trips ≡ length trips * n
all_counted n [] all = omega arith
all_counted n (t ∷ ts) all =
    let here = All-head (HasEvents n) t ts all in
    let rest = all_counted n ts (All-tail (HasEvents n) t ts all) in
    let next : suc (length ts) * n ≡ n + length ts * n = omega arith in
    sum_by-cons (λ t. length (TripData.events t)) t ts ∙ rw next (omega (arith, here, rest))

all_started : (id : List ℕ) (ride : List Event) (xs : List ℕ) → All (HasEvents (length ride)) (map (trip_starting_at id ride) xs)
all_started id ride [] = All-nil (HasEvents (length ride))
all_started id ride (x ∷ xs) = All-cons (HasEvents (length ride)) (trip_starting_at id ride x) (map (trip_starting_at id ride) xs) (length-map ride (moved _)) (all_started id ride xs)

pub all_of_row : (id : List ℕ) (fs : List TripFrequency) (ride : List Event) → All (HasEvents (length ride)) (trips_of id fs ride)
all_of_row id fs [] = All-nil (HasEvents 0)
all_of_row id [] (e ∷ es) = All-cons (HasEvents (suc (length es))) (record { name = id; day = day.Date; events = e ∷ es }) [] refl (All-nil (HasEvents (suc (length es))))
all_of_row id (f ∷ fs) (e ∷ es) = all_started id (e ∷ es) (flat_map starts (f ∷ fs))

all_reckoned : (d : ServiceDay) (n : ℕ) (trips : List TripData) → All (HasEvents n) trips → All (HasEvents n) (map (reckoned d) trips)
all_reckoned d n [] all = All-nil (HasEvents n)
all_reckoned d n (t ∷ ts) all = All-cons (HasEvents n) (reckoned d t) (map (reckoned d) ts) (length-map t.events (moved _) ∙ All-head (HasEvents n) t ts all) (all_reckoned d n ts (All-tail (HasEvents n) t ts all))

all_shown : (d : ServiceDay) (n : ℕ) (trips : List TripData) → All (HasEvents n) trips → All (HasEvents n) (shown d trips)
all_shown d n trips all =
    let p : TripData → Bool = λ t. is_shown d t.events in
    all_reckoned d n (filter p trips) (All-filter p (HasEvents n) trips all)

-- the events of a row's trips that are shown
pub row_events : (d : ServiceDay) (id : List ℕ) (fs : List TripFrequency) (ride : List Event) → event_count (shown d (trips_of id fs ride)) ≡ length (shown d (trips_of id fs ride)) * length ride
row_events d id fs ride = all_counted (length ride) (shown d (trips_of id fs ride)) (all_shown d (length ride) (trips_of id fs ride) (all_of_row id fs ride))

-- a product of a number up to a last one
pub min_times : (a b m : ℕ) → 1 ≤ b → min (min a m * b) m ≡ min (a * b) m
min_times a b m h =
    elim (cases_Bool (nat_le a m)) [
      | inl t ↦
          let below : a ≤ m = grind (arith, nat_tests, t) in
          let same : min a m ≡ a = omega (arith, below) in
          rw same refl
      | inr e ↦
          let above : m < a = grind (arith, nat_tests, e) in
          let same : min a m ≡ m = omega (arith, above) in
          let x = le-mul_of_pos_right m h in
          let y = le-mul_of_pos_right a h in
          rw same (omega (arith, x, y, above))
    ]
