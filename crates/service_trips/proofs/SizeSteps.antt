-- The size of a timetable's trips, part after part.
use Rattle.std.proofs.Common.{◌≡◌, ◌∙◌, sym, ap, refl, subst, ℕ, ◌+◌, ◌-◌, ◌*◌, ◌^◌, ◌<◌, ◌≤◌, List, [], ◌∷◌, ◌++◌, map, take, length, get_or, min, zero-add, Bool, true, false, arith, inl, inr}
use Rattle.std.specs.Prelude.{filter, sum_by, slice_index_or}
use Rattle.std.specs.List.{flat_map, range_with_len}
use Rattle.std.proofs.lemmas.Bool.{cases_Bool}
use Rattle.std.proofs.lemmas.List.{length-append, map-append, take_more, take_all}
use Rattle.std.proofs.lemmas.List.FromFn.{length-map-range_with_len}
use Rattle.std.proofs.lemmas.List.Sums.{sum_by-append}
use Rattle.tb_base.specs.declared.days.ServiceDay.{ServiceDay}
use Rattle.tb_base.specs.declared.days.ServiceDay.TheVariants as day
use Rattle.tb_base.specs.declared.table.Event.{Event}
use Rattle.tb_base.specs.TimetableData.{TripData}
use Rattle.service_trips.specs.declared.frequency.TripFrequency.{TripFrequency}
use Rattle.service_trips.specs.declared.size.Size.{Size}
use Rattle.service_trips.specs.declared.starts.StartSpan.{StartSpan}
use Rattle.service_trips.specs.Starts.{names_trip, frequency_at, is_in, starts_in}
use Rattle.service_trips.specs.ServiceDay.{FeedTrips, id_of, starting_at, trips_of, trips_where, trips_at, service_trips}
use Rattle.service_trips.specs.TimetableTrips.{is_shown, shown}
use Rattle.service_trips.specs.Sizes.{IsSize, event_count}
use Rattle.service_trips.proofs.Counts.{starts_counted, row_events, min_times}
use Rattle.service_trips.proofs.Rows.{first_trips, more_trips}

-- the starts of one row more
pub starts_more : (span : StartSpan) (rows found : List TripFrequency) (places : List ℕ) (i first c count new m : ℕ) → i < length places → found ≡ rows
    → count ≡ min (sum_by (λ f. length (starts_in span f)) (map (frequency_at rows) (take i places))) m
    → map (λ k. first + k * (frequency_at found (get_or places i 0)).headway) (range_with_len 0 c) ≡ starts_in span (frequency_at found (get_or places i 0))
    → new ≡ min (count + c) m → new ≡ min (sum_by (λ f. length (starts_in span f)) (map (frequency_at rows) (take (i + 1) places))) m
starts_more span rows found places i first c count new m below is so_far run added =
    let g : TripFrequency → ℕ = λ f. length (starts_in span f) in
    let here : c ≡ g (frequency_at rows (get_or places i 0)) =
    sym (length-map-range_with_len (λ k. first + k * (frequency_at found (get_or places i 0)).headway) 0 c) ∙ ap length run ∙ ap (λ rows. g (frequency_at rows (get_or places i 0))) is in
    let more : sum_by g (map (frequency_at rows) (take (i + 1) places)) ≡ sum_by g (map (frequency_at rows) (take i places)) + g (frequency_at rows (get_or places i 0)) =
    ap (λ ps. sum_by g (map (frequency_at rows) ps)) (take_more places i 0 below)
    ∙ ap (sum_by g) (map-append (frequency_at rows) (take i places) (get_or places i 0 ∷ []))
    ∙ sum_by-append g (map (frequency_at rows) (take i places)) (frequency_at rows (get_or places i 0) ∷ [])
    ∙ ap (λ n. sum_by g (map (frequency_at rows) (take i places)) + n) (zero-add (g (frequency_at rows (get_or places i 0)))) in
    omega (arith, more, here, so_far, added)

-- all starts of the rows at places
pub starts_all : (span : StartSpan) (rows these : List TripFrequency) (places : List ℕ) (i count m : ℕ) → length places ≤ i → map (frequency_at rows) places ≡ these
    → count ≡ min (sum_by (λ f. length (starts_in span f)) (map (frequency_at rows) (take i places))) m → count ≡ min (sum_by (λ f. length (starts_in span f)) these) m
starts_all span rows these places i count m past is so_far =
    so_far ∙ ap (λ ps. min (sum_by (λ f. length (starts_in span f)) (map (frequency_at rows) ps)) m) (take_all i places past)
    ∙ ap (λ fs. min (sum_by (λ f. length (starts_in span f)) fs) m) is

-- one where its events are shown, and else none
abbrev pub one_if : Bool → ℕ
one_if true = 1
one_if false = 0

single_shown : (d : ServiceDay) (t : TripData) → length (shown d (t ∷ [])) ≡ one_if (is_shown d t.events)
single_shown d t =
    elim (cases_Bool (is_shown d t.events)) [
      | inl y ↦ rw y refl
      | inr n ↦ rw n refl
    ]

-- a row that no row of frequencies.txt names
pub plain_count : (d : ServiceDay) (id : List ℕ) (rows these : List TripFrequency) (places : List ℕ) (ride : List Event) → 0 < length ride → length places ≡ 0 → map (frequency_at rows) places ≡ these
    → length (shown d (trips_of id these ride)) ≡ one_if (is_shown d ride)
plain_count d id rows these places [] some none is = absurd (omega (arith, some))
plain_count d id rows these (p ∷ places) (e ∷ es) some none is = absurd (omega (arith, none))
plain_count d id rows [] [] (e ∷ es) some none is = single_shown d (record { name = id; day = day.Date; events = e ∷ es })
plain_count d id rows (f ∷ fs) [] (e ∷ es) some none is = absurd cc

-- a row that others name
pub named_count : (d : ServiceDay) (id : List ℕ) (rows these : List TripFrequency) (places : List ℕ) (ride : List Event) (span : StartSpan) → 0 < length ride → 0 < length places → map (frequency_at rows) places ≡ these
    → ((start : ℕ) → is_in span start ≡ is_shown d (starting_at ride start)) → length (shown d (trips_of id these ride)) ≡ sum_by (λ f. length (starts_in span f)) these
named_count d id rows these places [] span some more is late = absurd (omega (arith, some))
named_count d id rows these [] (e ∷ es) span some more is late = absurd (omega (arith, more))
named_count d id rows [] (p ∷ places) (e ∷ es) span some more is late = absurd cc
named_count d id rows (f ∷ fs) (p ∷ places) (e ∷ es) span some more is late = starts_counted d id (e ∷ es) span (f ∷ fs) late

-- no trips have no size
pub no_size : (trips : List TripData) (size : Size) → trips ≡ [] → size.trips ≡ 0 → size.events ≡ 0 → IsSize trips size
no_size trips size none t e = rw none (record { trips = omega (arith, t); events = omega (arith, e) })

pub not_running : (d : ServiceDay) (id : List ℕ) (fs : List TripFrequency) (ride : List Event) → shown d (trips_where false id fs ride) ≡ []
not_running d id fs ride = refl

pub no_events : (d : ServiceDay) (runs : Bool) (id : List ℕ) (fs : List TripFrequency) (ride : List Event) → length ride ≡ 0 → shown d (trips_where runs id fs ride) ≡ []
no_events d false id fs ride none = refl
no_events d true id fs [] none = refl
no_events d true id fs (e ∷ es) none = absurd (omega (arith, none))

-- the size of a row's trips, by how many they are
pub row_is : (d : ServiceDay) (id : List ℕ) (fs : List TripFrequency) (ride : List Event) (size : Size) → 0 < length ride → size.trips ≡ min (length (shown d (trips_of id fs ride))) (2 ^ 64 - 1)
    → size.events ≡ min (size.trips * length ride) (2 ^ 64 - 1) → IsSize (shown d (trips_of id fs ride)) size
row_is d id fs ride size some trips events =
    record {
      trips = trips;
      events = events ∙ ap (λ n. min (n * length ride) (2 ^ 64 - 1)) trips ∙ min_times (length (shown d (trips_of id fs ride))) (length ride) (2 ^ 64 - 1) some
          ∙ ap (λ n. min n (2 ^ 64 - 1)) (sym (row_events d id fs ride));
    }

-- two sizes together
pub both_sizes : (xs ys : List TripData) (a b c : Size) → IsSize xs a → IsSize ys b → c.trips ≡ min (a.trips + b.trips) (2 ^ 64 - 1) → c.events ≡ min (a.events + b.events) (2 ^ 64 - 1) → IsSize (xs ++ ys) c
both_sizes xs ys a b c x y trips events =
    let n = length-append xs ys in
    let e : event_count (xs ++ ys) ≡ event_count xs + event_count ys = sum_by-append (λ t. length (TripData.events t)) xs ys in
    let xt = x.trips in
    let yt = y.trips in
    let xe = x.events in
    let ye = y.events in
    record { trips = omega (arith, n, xt, yt, trips); events = omega (arith, e, xe, ye, events) }

-- the size with one row more
pub size_more : (d : ServiceDay) (feed : FeedTrips) (runs : List Bool) (n : ℕ) (ride : List Event) (so_far one size : Size) → ride ≡ slice_index_or feed.rides n []
    → ((xs ys : List TripData) → IsSize xs so_far → IsSize ys one → IsSize (xs ++ ys) size) → IsSize (shown d (flat_map (trips_at feed runs) (range_with_len 0 n))) so_far
    → ((id : List ℕ) → IsSize (shown d (trips_where (slice_index_or runs n false) id (filter (names_trip n) feed.frequencies) ride)) one)
    → IsSize (shown d (flat_map (trips_at feed runs) (range_with_len 0 (n + 1)))) size
unfolding first_trips
size_more d feed runs n ride so_far one size at plus is more =
    let here : IsSize (shown d (trips_at feed runs n)) one = rw at at (more (id_of feed n)) in
    subst (λ trips. IsSize trips size) (sym (more_trips d feed runs n)) (plus (first_trips d feed runs n) (shown d (trips_at feed runs n)) is here)

-- the size of all rows' trips
pub size_all : (d : ServiceDay) (feed : FeedTrips) (runs : List Bool) (n : ℕ) (size : Size) → n ≡ length feed.rows → IsSize (shown d (flat_map (trips_at feed runs) (range_with_len 0 n))) size → IsSize (shown d (service_trips feed runs)) size
size_all d feed runs n size all is = rw all at is
