-- The rows of frequencies.txt that name a trip.
use Rattle.std.proofs.Common.{◌≡◌, ◌∙◌, ap, subst, ℕ, ◌<◌, List, [], map, length, get_or, arith}
use Rattle.std.specs.Prelude.{All, filter, slice_index, ◌==◌}
use Rattle.std.specs.List.{range_with_len}
use Rattle.std.proofs.lemmas.List.{length-map, get_or-map}
use Rattle.std.proofs.lemmas.List.Elements.{All-filter}
use Rattle.std.proofs.lemmas.List.FromFn.{get_or-range_with_len, length-range_with_len}
use Rattle.tb_base.specs.KeyPlaces.{places_of}
use Rattle.tb_base.proofs.ByPlaces.{rows_by_places}
use Rattle.service_trips.specs.declared.frequency.TripFrequency.{TripFrequency}
use Rattle.service_trips.specs.Starts.{Frequencies, AreIndexed, names_trip, frequency_at}

-- the number of a row's trip
abbrev key : TripFrequency → ℕ
key f = f.trip_row

places_rows : (rows : List TripFrequency) (trip : ℕ) → map (frequency_at rows) (places_of (map key rows) trip) ≡ filter (names_trip trip) rows
places_rows rows trip =
    rows_by_places (names_trip trip) rows (map key rows) trip (record { row = 0; trip_row = 0; start = 0; end = 0; headway = 0 }) (length-map rows key) (λ i h. ap (λ k. k == trip) (get_or-map key rows i _ 0 h))

below : (n : ℕ) → All (λ p. p < n) (range_with_len 0 n)
below n i d within = omega (arith, get_or-range_with_len 0 n i d, length-range_with_len 0 n)

places_within : (rows : List TripFrequency) (trip : ℕ) → All (λ p. p < length rows) (places_of (map key rows) trip)
places_within rows trip =
    subst (λ n. All (λ p. p < n) (places_of (map key rows) trip)) (length-map rows key)
    (All-filter (λ i. slice_index (map key rows) i == trip) (λ p. p < length (map key rows)) (range_with_len 0 (length (map key rows))) (below (length (map key rows))))

pub trip_rows : (rows : List TripFrequency) (by_trip : List (List ℕ)) (table : Frequencies) (trip : ℕ) (places : List ℕ) → AreIndexed rows by_trip → record { trips = length by_trip; rows = rows } ≡ table
    → trip < table.trips → places ≡ get_or by_trip trip [] → map (frequency_at table.rows) places ≡ filter (names_trip trip) table.rows
trip_rows rows by_trip table trip places indexed is below at =
    rw (← is, at, indexed.places trip (rw (← is) at below)) (places_rows rows trip)

pub trip_places : (rows : List TripFrequency) (by_trip : List (List ℕ)) (table : Frequencies) (trip : ℕ) (places : List ℕ) → AreIndexed rows by_trip → record { trips = length by_trip; rows = rows } ≡ table
    → trip < table.trips → places ≡ get_or by_trip trip [] → All (λ p. p < length table.rows) places
trip_places rows by_trip table trip places indexed is below at =
    rw (← is, at, indexed.places trip (rw (← is) at below)) (places_within rows trip)

-- each key is below the number of trips
pub keys_below : (rows : List TripFrequency) (keys : List ℕ) (trips : ℕ) → keys ≡ map key rows → All (λ f. TripFrequency.trip_row f < trips) rows → (i : ℕ) → i < length keys → slice_index keys i < trips
keys_below rows keys trips are below i within =
    let inside : i < length rows = omega (arith, within, ap length are, length-map rows key) in
    let d : TripFrequency = record { row = 0; trip_row = 0; start = 0; end = 0; headway = 0 } in
    let at : slice_index keys i ≡ key (get_or rows i d) = ap (λ ks. slice_index ks i) are ∙ get_or-map key rows i d 0 inside in
    rw at (below i d inside)
