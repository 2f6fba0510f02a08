-- Rows of different sequence numbers that were sorted by them.
use Rattle.std.proofs.Common.{◌≡◌, ◌≢◌, ℕ, ◌+◌, ◌<◌, ◌≤◌, List, [], ◌∷◌, length, map, get_or, false, eqb, arith}
use Rattle.std.specs.Prelude.{AllPairs}
use Rattle.std.specs.List.{AllAdjacentBelow}
use Rattle.std.specs.List.Sorted.{IsPermutation, IsNonDecreasingBy, IsNonDecreasing, IsStrictlyIncreasing}
use Rattle.std.proofs.lemmas.List.{length-map, get_or-map}
use Rattle.std.proofs.lemmas.List.Kept.{AllPairs-from_increasing}
use Rattle.std.proofs.lemmas.List.Sorted.{IsPermutation-map, Contains-permutation, IsPermutation-sym}
use Rattle.std.proofs.lemmas.Map.Keys.{IsDistinct-from_apart, IsDistinct-IsPermutation, IsStrictlyIncreasing-from_distinct}
use Rattle.std.proofs.lemmas.Bool.Decides.{nat_tests}
use Rattle.tb_base.proofs.Ordered.{Member-from_Contains, Contains-from_Member}
use Rattle.service_trips.specs.declared.stop_time.StopTime.{StopTime}
use Rattle.service_trips.specs.StopTimes.{in_sequence}
use Rattle.service_trips.proofs.InSequence.{in_sequence_is}

flips : (x y : ℕ) → eqb x y ≡ eqb y x
flips x y = grind (arith, nat_tests)

abbrev numbers : List StopTime → List ℕ
numbers rows = map (λ r. StopTime.sequence r) rows

number_at : (rows : List StopTime) (k e : ℕ) (d : StopTime) → k < length rows → get_or (numbers rows) k e ≡ StopTime.sequence (get_or rows k d)
number_at rows k e d h = get_or-map (λ r. StopTime.sequence r) rows k d e h

some_row : (rows : List StopTime) → 0 < length rows → StopTime
some_row [] h = absurd (omega (arith, h))
some_row (x ∷ xs) h = x

-- numbers that rise along the rows
pairs_from_numbers : (rows : List StopTime) → IsStrictlyIncreasing (numbers rows) → AllPairs (λ r s. StopTime.sequence r < StopTime.sequence s) rows
pairs_from_numbers rows h i j d before below =
    let low = number_at rows i 0 d (omega arith) in
    let high = number_at rows j 0 d below in
    let up = AllPairs-from_increasing (numbers rows) h i j 0 before (rw length-map below) in
    omega (arith, low, high, up)

-- where each row's number is less than the next one's
pub pairs_from_neighbours : (rows : List StopTime) (n : ℕ) → length rows ≤ n → AllAdjacentBelow (λ r s. StopTime.sequence r < StopTime.sequence s) rows n → AllPairs (λ r s. StopTime.sequence r < StopTime.sequence s) rows
pairs_from_neighbours [] n h up = λ i j d before below. absurd (omega (arith, below))
pairs_from_neighbours (x ∷ xs) n h up = pairs_from_numbers (x ∷ xs) (λ k below. step k (rw length-map at below))
  where
    step : (k : ℕ) → k + 1 < length (x ∷ xs) → get_or (numbers (x ∷ xs)) k 0 < get_or (numbers (x ∷ xs)) (k + 1) 0
    step k below =
        let low = number_at (x ∷ xs) k 0 x (omega arith) in
        let high = number_at (x ∷ xs) (k + 1) 0 x below in
        let next = up k x (omega (arith, h, below)) in
        rw (low, high) next

-- rows that stand in order already
pub sequence_from_pairs : (rows : List StopTime) → AllPairs (λ r s. StopTime.sequence r < StopTime.sequence s) rows → rows ≡ in_sequence rows
sequence_from_pairs rows h =
    in_sequence_is rows rows (λ i j d before below e. let lt = h i j d before below in omega (arith, lt, e)) h (λ x m. m) (λ x m. m)

-- rows that were sorted
pub sequence_from_sort : (rows ordered : List StopTime) → AllPairs (λ r s. StopTime.sequence r ≢ StopTime.sequence s) rows → IsPermutation rows ordered → IsNonDecreasingBy (λ r. StopTime.sequence r) ordered
    → ordered ≡ in_sequence rows
sequence_from_sort rows ordered h p up =
    in_sequence_is rows ordered h (pairs_from_numbers ordered increasing)
    (λ x m. Member-from_Contains x rows (Contains-permutation ordered rows x (IsPermutation-sym rows ordered p) (Contains-from_Member x ordered m)))
    (λ x m. Member-from_Contains x ordered (Contains-permutation rows ordered x p (Contains-from_Member x rows m)))
  where
    apart : (i j d : ℕ) → i < j → j < length (numbers rows) → eqb (get_or (numbers rows) i d) (get_or (numbers rows) j d) ≡ false
    apart i j d before below =
        let within : j < length rows = rw length-map at below in
        let x = some_row rows (omega arith) in
        let low = number_at rows i d x (omega arith) in
        let high = number_at rows j d x within in
        let differ = h i j x before within in
        rw (low, high) (grind (arith, nat_tests, differ))

    rises : IsNonDecreasing (numbers ordered)
    rises i j d before below =
        let within : j < length ordered = rw length-map at below in
        let x = some_row ordered (omega arith) in
        let low = number_at ordered i d x (omega arith) in
        let high = number_at ordered j d x within in
        let up' = up i j x before within in
        omega (arith, low, high, up')

    increasing : IsStrictlyIncreasing (numbers ordered)
    increasing =
        IsStrictlyIncreasing-from_distinct (numbers ordered) rises
        (IsDistinct-IsPermutation eqb flips (numbers rows) (numbers ordered) (IsPermutation-map (λ r. StopTime.sequence r) rows ordered p) (IsDistinct-from_apart eqb (numbers rows) apart))
