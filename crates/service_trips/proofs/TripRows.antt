-- What the rows of a trip have from those of its file.
use Rattle.std.proofs.Common.{◌≡◌, ◌≢◌, ◌∙◌, sym, ap, refl, ℕ, suc, ◌<◌, ◌≤◌, List, [], ◌∷◌, length, get_or, inl, inr, arith}
use Rattle.std.specs.Prelude.{All, AllPairs, filter, nat_lt}
use Rattle.std.proofs.lemmas.Bool.{cases_Bool}
use Rattle.std.proofs.lemmas.Bool.Decides.{nat_tests}
use Rattle.std.proofs.lemmas.List.Elements.{All-filter, All-contains, filter_passes}
use Rattle.std.proofs.lemmas.List.Kept.{AllPairs-filter}
use Rattle.tb_base.proofs.Ordered.{Contains-from_Member}
use Rattle.service_trips.specs.declared.stop_time.StopTime.{StopTime}
use Rattle.service_trips.specs.StopTimes.{is_of_trip, placed, in_sequence, stop_times}
use Rattle.service_trips.proofs.InSequence.{member_at, in_sequence_old}

-- what holds of each row holds of each row of a trip
pub All-stop_times : (P : StopTime → Type 0) (rows : List StopTime) (trip : ℕ) → All P rows → All P (stop_times rows trip)
All-stop_times P rows trip h k d below =
    let found = filter (is_of_trip trip) rows in
    All-contains P found (get_or (in_sequence found) k d) (All-filter (is_of_trip trip) P rows h)
    (Contains-from_Member _ found (in_sequence_old _ found (member_at (in_sequence found) k d below)))

length-placed : (r : StopTime) (rows : List StopTime) → length (placed r rows) ≡ suc (length rows)
length-placed r [] = refl
length-placed r (s ∷ rest) =
    elim (cases_Bool (nat_lt s.sequence r.sequence)) [
      | inl t ↦ rw t (ap suc (length-placed r rest))
      | inr f ↦ rw f refl
    ]

length-in_sequence : (rows : List StopTime) → length (in_sequence rows) ≡ length rows
length-in_sequence [] = refl
length-in_sequence (r ∷ rest) = length-placed r (in_sequence rest) ∙ ap suc (length-in_sequence rest)

length-filter-le : (trip : ℕ) (rows : List StopTime) → length (filter (is_of_trip trip) rows) ≤ length rows
length-filter-le trip [] = omega arith
length-filter-le trip (r ∷ rest) =
    let more = length-filter-le trip rest in
    elim (cases_Bool (is_of_trip trip r)) [
      | inl t ↦ rw t (omega (arith, more))
      | inr f ↦ rw f (omega (arith, more))
    ]

-- a trip has at most as many rows as its file
pub length-stop_times-le : (rows : List StopTime) (trip : ℕ) → length (stop_times rows trip) ≤ length rows
length-stop_times-le rows trip = rw length-in_sequence (length-filter-le trip rows)

of_trip : (rows : List StopTime) (trip k : ℕ) (d : StopTime) → k < length (filter (is_of_trip trip) rows) → StopTime.trip_row (get_or (filter (is_of_trip trip) rows) k d) ≡ trip
of_trip rows trip k d h = let t = filter_passes (is_of_trip trip) rows k d h in grind (arith, nat_tests, t)

-- the rows of a trip have different sequence numbers, where two rows of one trip have
pub apart_in_trip : (rows : List StopTime) (trip : ℕ) → AllPairs (λ r s. StopTime.trip_row r ≡ StopTime.trip_row s → StopTime.sequence r ≢ StopTime.sequence s) rows
    → AllPairs (λ r s. StopTime.sequence r ≢ StopTime.sequence s) (filter (is_of_trip trip) rows)
apart_in_trip rows trip h i j d before below =
    AllPairs-filter (λ r s. StopTime.trip_row r ≡ StopTime.trip_row s → StopTime.sequence r ≢ StopTime.sequence s) (is_of_trip trip) rows h i j d before below
    (of_trip rows trip i d (omega arith) ∙ sym (of_trip rows trip j d below))
