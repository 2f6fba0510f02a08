-- The trips that rows of frequencies.txt give a trip, one after another.
use Rattle.std.proofs.Common.{◌≡◌, ◌∙◌, sym, ap, subst, ℕ, ◌+◌, ◌*◌, ◌<◌, ◌≤◌, List, [], ◌∷◌, ◌++◌, map, take, length, get_or, append_assoc, append-nil, refl, Bool, true, arith}
use Rattle.std.specs.Prelude.{All, filter, nat_lt}
use Rattle.std.specs.List.{flat_map, range_with_len}
use Rattle.std.proofs.lemmas.Bool.Decides.{nat_tests}
use Rattle.std.proofs.lemmas.List.{map-append, take_more, take_all}
use Rattle.std.proofs.lemmas.Simd.{map-map}
use Rattle.std.proofs.lemmas.List.Elements.{filter_passes, All-filter}
use Rattle.std.proofs.lemmas.List.FromFn.{get_or-map-range_with_len, length-map-range_with_len, map-range_with_len_more}
use Rattle.std.proofs.lemmas.Grind.{flat_map-append}
use Rattle.tb_base.specs.declared.days.ServiceDay.{ServiceDay}
use Rattle.tb_base.specs.declared.table.Event.{Event}
use Rattle.tb_base.specs.TimetableData.{TripData}
use Rattle.service_trips.specs.declared.frequency.TripFrequency.{TripFrequency}
use Rattle.service_trips.specs.declared.starts.StartSpan.{StartSpan}
use Rattle.service_trips.specs.Starts.{starts, is_in, starts_in, frequency_at}
use Rattle.service_trips.specs.ServiceDay.{starting_at, trip_starting_at}
use Rattle.service_trips.specs.TimetableTrips.{is_shown, reckoned, shown}
use Rattle.service_trips.proofs.Shown.{late_starts, shown-append}

-- a start of a run is before the end
pub start_below : (p : ℕ → Bool) (first count k : ℕ) (f : TripFrequency) → map (λ k. first + k * f.headway) (range_with_len 0 count) ≡ filter p (starts f) → k < count → first + k * f.headway < f.end
start_below p first count k f run below =
    let all : All (λ start. nat_lt start f.end ≡ true) (filter p (starts f)) =
    All-filter p (λ start. nat_lt start f.end ≡ true) (starts f) (filter_passes (λ start. nat_lt start f.end) (map (λ k. f.start + k * f.headway) (range_with_len 0 f.end))) in
    let these : All (λ start. nat_lt start f.end ≡ true) (map (λ k. first + k * f.headway) (range_with_len 0 count)) = subst (All (λ start. nat_lt start f.end ≡ true)) (sym run) all in
    let n = length-map-range_with_len (λ k. first + k * f.headway) 0 count in
    let at = get_or-map-range_with_len (λ k. first + k * f.headway) 0 count k k 0 below (omega arith) in
    let here = rw at at (these k 0 (omega (arith, n, below))) in
    grind (arith, nat_tests, here)

-- the trips of all starts that a run has
pub all_starts : (d : ServiceDay) (id : List ℕ) (ride : List Event) (f : TripFrequency) (span : StartSpan) (first count : ℕ)
    → ((start : ℕ) → is_in span start ≡ is_shown d (starting_at ride start))
    → map (λ k. first + k * f.headway) (range_with_len 0 count) ≡ starts_in span f
    → map (λ k. reckoned d (trip_starting_at id ride (first + k * f.headway))) (range_with_len 0 count) ≡ shown d (map (trip_starting_at id ride) (starts f))
all_starts d id ride f span first count late run =
    sym (map-map (λ start. reckoned d (trip_starting_at id ride start)) (λ k. first + k * f.headway) (range_with_len 0 count))
    ∙ ap (map (λ start. reckoned d (trip_starting_at id ride start))) run
    ∙ late_starts d span (trip_starting_at id ride) (starts f) late

-- the trips of the first so many rows
pub trips_of_rows : ServiceDay → List ℕ → List Event → List TripFrequency → List TripData
trips_of_rows d id ride rows = shown d (map (trip_starting_at id ride) (flat_map starts rows))

pub no_rows : (d : ServiceDay) (id : List ℕ) (ride : List Event) → trips_of_rows d id ride [] ≡ []
unfolding trips_of_rows
no_rows d id ride = refl

pub rows-append : (d : ServiceDay) (id : List ℕ) (ride : List Event) (xs ys : List TripFrequency) → trips_of_rows d id ride (xs ++ ys) ≡ trips_of_rows d id ride xs ++ trips_of_rows d id ride ys
unfolding trips_of_rows
rows-append d id ride xs ys =
    let T = trip_starting_at id ride in
    ap (λ all. shown d (map T all)) (flat_map-append starts xs ys)
    ∙ ap (shown d) (map-append T (flat_map starts xs) (flat_map starts ys))
    ∙ shown-append d (map T (flat_map starts xs)) (map T (flat_map starts ys))

-- one trip more
pub one_more : (f : ℕ → TripData) (old done new : List TripData) (k : ℕ) (t : TripData) → done ≡ old ++ map f (range_with_len 0 k) → new ≡ done ++ t ∷ [] → t ≡ f k → new ≡ old ++ map f (range_with_len 0 (k + 1))
one_more f old done new k t so_far added is =
    rw (map-range_with_len_more f 0 k k (omega arith), added, so_far, is) (append_assoc old (map f (range_with_len 0 k)) (f k ∷ []))

-- all starts are done
pub starts_done : (d : ServiceDay) (id : List ℕ) (ride : List Event) (f : TripFrequency) (span : StartSpan) (first count k : ℕ) (old now : List TripData)
    → ((start : ℕ) → is_in span start ≡ is_shown d (starting_at ride start))
    → map (λ k. first + k * f.headway) (range_with_len 0 count) ≡ starts_in span f → k ≡ count
    → now ≡ old ++ map (λ k. reckoned d (trip_starting_at id ride (first + k * f.headway))) (range_with_len 0 k)
    → now ≡ old ++ shown d (map (trip_starting_at id ride) (starts f))
starts_done d id ride f span first count k old now late run all so_far =
    so_far ∙ ap (λ n. old ++ map (λ k. reckoned d (trip_starting_at id ride (first + k * f.headway))) (range_with_len 0 n)) all
    ∙ ap (λ trips. old ++ trips) (all_starts d id ride f span first count late run)

one_row : (d : ServiceDay) (id : List ℕ) (ride : List Event) (f : TripFrequency) → trips_of_rows d id ride (f ∷ []) ≡ shown d (map (trip_starting_at id ride) (starts f))
unfolding trips_of_rows
one_row d id ride f = ap (λ all. shown d (map (trip_starting_at id ride) all)) (append-nil (starts f))

-- one row more
pub row_more : (d : ServiceDay) (id : List ℕ) (ride : List Event) (rows found : List TripFrequency) (places : List ℕ) (i : ℕ) (old done new : List TripData) → i < length places → found ≡ rows
    → done ≡ old ++ trips_of_rows d id ride (map (frequency_at rows) (take i places)) → new ≡ done ++ shown d (map (trip_starting_at id ride) (starts (frequency_at found (get_or places i 0))))
    → new ≡ old ++ trips_of_rows d id ride (map (frequency_at rows) (take (i + 1) places))
row_more d id ride rows found places i old done new below is so_far added =
    let place = get_or places i 0 in
    let more : take (i + 1) places ≡ take i places ++ place ∷ [] = take_more places i 0 below in
    let rows_more : map (frequency_at rows) (take (i + 1) places) ≡ map (frequency_at rows) (take i places) ++ frequency_at rows place ∷ [] =
    ap (map (frequency_at rows)) more ∙ map-append (frequency_at rows) (take i places) (place ∷ []) in
    added ∙ rw (so_far, is) (append_assoc old (trips_of_rows d id ride (map (frequency_at rows) (take i places))) (shown d (map (trip_starting_at id ride) (starts (frequency_at rows place)))))
    ∙ ap (λ all. old ++ all)
    (ap (λ last. trips_of_rows d id ride (map (frequency_at rows) (take i places)) ++ last) (sym (one_row d id ride (frequency_at rows place)))
    ∙ sym (rows-append d id ride (map (frequency_at rows) (take i places)) (frequency_at rows place ∷ []))
    ∙ ap (trips_of_rows d id ride) (sym rows_more))

pub rows_begin : (d : ServiceDay) (id : List ℕ) (ride : List Event) (old : List TripData) → old ≡ old ++ trips_of_rows d id ride []
rows_begin d id ride old = sym (ap (λ none. old ++ none) (no_rows d id ride) ∙ append-nil old)

-- all rows are done
pub rows_done : (d : ServiceDay) (id : List ℕ) (ride : List Event) (rows these : List TripFrequency) (places : List ℕ) (i : ℕ) (old now : List TripData) → length places ≤ i → map (frequency_at rows) places ≡ these
    → now ≡ old ++ trips_of_rows d id ride (map (frequency_at rows) (take i places)) → now ≡ old ++ shown d (map (trip_starting_at id ride) (flat_map starts these))
unfolding trips_of_rows
rows_done d id ride rows these places i old now past is so_far =
    so_far ∙ ap (λ ps. old ++ trips_of_rows d id ride (map (frequency_at rows) ps)) (take_all i places past) ∙ ap (λ fs. old ++ trips_of_rows d id ride fs) is
