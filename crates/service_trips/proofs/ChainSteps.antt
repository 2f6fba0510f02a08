-- Chains of rows, one row on and one row back.
use Rattle.std.proofs.Common.{◌≡◌, ◌≢◌, ◌∙◌, sym, ap, refl, ℕ, suc, ◌+◌, ◌<◌, ◌≤◌, ◌⊎◌, inl, inr, List, [], ◌∷◌, ◌++◌, length, take, set, reverse, get_or, cond, true, false, arith}
use Rattle.std.specs.Prelude.{◌==◌, filter, slice_index, slice_index_or}
use Rattle.std.proofs.lemmas.Bool.Decides.{nat_tests}
use Rattle.std.proofs.lemmas.List.{append-nil, append_assoc, length-set, length_push, get_or-set_same, get_or-set_other, get_or_append_left, get_or_push, get_or_read, get_or_default, reverse-append, take_all}
use Rattle.std.proofs.lemmas.List.Elements.{filter_more}
use Rattle.std.proofs.lemmas.Bool.{cases_eq}
use Rattle.service_trips.specs.declared.stop_time.StopTime.{StopTime}
use Rattle.service_trips.specs.StopTimes.{is_of_trip}
use Rattle.service_trips.specs.Chains.{IsLastRow, AreChains}
use Rattle.tb_base.proofs.NumberFacts.{below_or_at}

-- what a row adds to those of a trip
row_added : (rows : List StopTime) (trip i : ℕ) (r : StopTime) → i < length rows → r ≡ get_or rows i r
    → filter (is_of_trip trip) (take (i + 1) rows) ≡ filter (is_of_trip trip) (take i rows) ++ cond (r.trip_row == trip) (r ∷ []) []
row_added rows trip i r h e = filter_more (is_of_trip trip) rows i r h ∙ ap (λ s. filter (is_of_trip trip) (take i rows) ++ cond (is_of_trip trip s) (s ∷ []) []) (sym e)

other_row : (rows : List StopTime) (trip i : ℕ) (r : StopTime) → i < length rows → r ≡ get_or rows i r → r.trip_row ≢ trip
    → filter (is_of_trip trip) (take (i + 1) rows) ≡ filter (is_of_trip trip) (take i rows)
other_row rows trip i r h e s =
    let f : (r.trip_row == trip) ≡ false = grind (arith, nat_tests, s) in
    row_added rows trip i r h e ∙ ap (λ b. filter (is_of_trip trip) (take i rows) ++ cond b (r ∷ []) []) f ∙ append-nil (filter (is_of_trip trip) (take i rows))

trip_at : (rows : List StopTime) (i : ℕ) (r d : StopTime) → i < length rows → r ≡ get_or rows i r → StopTime.trip_row (get_or rows i d) ≡ r.trip_row
trip_at rows i r d h e = ap (λ s. StopTime.trip_row s) (sym (get_or_read rows i r h e d))

-- a row is the last one of its trip
last_is_here : (rows : List StopTime) (i : ℕ) (r : StopTime) → i < length rows → r ≡ get_or rows i r → IsLastRow rows r.trip_row (i + 1) (i + 1)
last_is_here rows i r h e = record {
  within = omega arith;
  none_after = refl;
  own = λ k d s. let same : k ≡ i = omega (arith, s) in rw same (trip_at rows i r d h e);
}

-- a row of another trip changes nothing
last_is_earlier : (rows : List StopTime) (trip i last : ℕ) (r : StopTime) → i < length rows → r ≡ get_or rows i r → r.trip_row ≢ trip → IsLastRow rows trip i last → IsLastRow rows trip (i + 1) last
last_is_earlier rows trip i last r h e s l = record {
  within = let w = l.within in omega (arith, w);
  none_after = other_row rows trip i r h e s ∙ l.none_after;
  own = l.own;
}

-- one row on
chains_more : (rows : List StopTime) (i trips last_row : ℕ) (last earlier : List ℕ) (r : StopTime) → i < length rows → r ≡ get_or rows i r → r.trip_row < trips → last_row ≡ get_or last r.trip_row 0
    → AreChains rows i trips last earlier → AreChains rows (i + 1) trips (set last r.trip_row (i + 1)) (earlier ++ last_row ∷ [])
chains_more rows i trips last_row last earlier r h e low at c = record {
  trip_count = length-set last r.trip_row (i + 1) ∙ c.trip_count;
  row_count = length_push earlier last_row ∙ ap (λ n. n + 1) c.row_count;
  last = λ trip t. last_more trip (c.last trip t) (cases_eq r.trip_row trip);
  earlier = λ k d t. earlier_more k d (below_or_at k i t);
}
  where
    last_more : (trip : ℕ) → IsLastRow rows trip i (slice_index last trip) → (r.trip_row ≡ trip) ⊎ (r.trip_row ≢ trip) → IsLastRow rows trip (i + 1) (slice_index (set last r.trip_row (i + 1)) trip)
    last_more trip l (inl s) =
        let here : slice_index (set last r.trip_row (i + 1)) trip ≡ i + 1 = rw (sym s) (get_or-set_same last r.trip_row (i + 1) 0 (let n = c.trip_count in omega (arith, n, low))) in
        rw (here, sym s) (last_is_here rows i r h e)
    last_more trip l (inr s) =
        let there : slice_index (set last r.trip_row (i + 1)) trip ≡ slice_index last trip = get_or-set_other last r.trip_row trip (i + 1) 0 (λ same. s (sym same)) in
        rw there (last_is_earlier rows trip i (slice_index last trip) r h e s l)

    earlier_more : (k : ℕ) (d : StopTime) → (k < i) ⊎ (k ≡ i) → IsLastRow rows (StopTime.trip_row (slice_index_or rows k d)) k (slice_index (earlier ++ last_row ∷ []) k)
    earlier_more k d (inl before) =
        let there : slice_index (earlier ++ last_row ∷ []) k ≡ slice_index earlier k = get_or_append_left earlier (last_row ∷ []) 0 k (let n = c.row_count in omega (arith, n, before)) in
        rw there (c.earlier k d before)
    earlier_more k d (inr same) =
        let here : slice_index (earlier ++ last_row ∷ []) k ≡ slice_index last r.trip_row = get_or_push earlier last_row 0 k (c.row_count ∙ sym same) ∙ at in
        let trip : StopTime.trip_row (slice_index_or rows k d) ≡ r.trip_row = rw same (trip_at rows i r d h e) in
        rw (here, trip, same) (c.last r.trip_row low)

-- one row on, as the code reads and writes
pub chains_next : (rows : List StopTime) (i trips last_row : ℕ) (last earlier new_earlier : List ℕ) (d : StopTime) → i < length rows → StopTime.trip_row (get_or rows i d) < trips
    → last_row ≡ get_or last (StopTime.trip_row (get_or rows i d)) last_row → new_earlier ≡ earlier ++ last_row ∷ []
    → AreChains rows i trips last earlier → AreChains rows (i + 1) trips (set last (StopTime.trip_row (get_or rows i d)) (i + 1)) new_earlier
chains_next rows i trips last_row last earlier new_earlier d h low at e c =
    let n = c.trip_count in
    let same = get_or_read last (StopTime.trip_row (get_or rows i d)) last_row (omega (arith, n, low)) at 0 in
    rw e (chains_more rows i trips last_row last earlier (get_or rows i d) h (get_or_default rows i d (get_or rows i d) h) low same c)

-- the chain of a trip begins at its last row
pub back_start : (rows found : List StopTime) (trip last : ℕ) (last_rows : List ℕ) → trip < length last_rows → IsLastRow rows trip (length rows) (slice_index last_rows trip)
    → last ≡ get_or last_rows trip last → found ≡ []
    → (last ≤ length rows) × ((k : ℕ) (d : StopTime) → last ≡ suc k → StopTime.trip_row (slice_index_or rows k d) ≡ trip)
    × (filter (is_of_trip trip) (take last rows) ++ reverse found ≡ filter (is_of_trip trip) rows)
back_start rows found trip last last_rows h l e n =
    let same : slice_index last_rows trip ≡ last = sym (get_or_read last_rows trip last h e 0) in
    let at = rw same at l in (
      at.within,
      at.own,
      rw n (append-nil (filter (is_of_trip trip) (take last rows)) ∙ sym at.none_after ∙ ap (filter (is_of_trip trip)) (take_all (length rows) rows (omega arith))),
    )
