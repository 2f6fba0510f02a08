-- One trip more that may be broken.
use Rattle.std.proofs.Common.{◌≡◌, ◌∙◌, sym, ap, ℕ, zero, suc, ◌+◌, List, [], ◌∷◌, ◌++◌, flat_map, Some, None, Option, arith, add-one, append-nil, append_assoc}
use Rattle.std.specs.List.{range_with_len}
use Rattle.gtfs_rows.specs.declared.fault.FeedFault.{FeedFault}
use Rattle.service_trips.specs.declared.broken.TripFault.{TripFault}
use Rattle.service_trips.specs.declared.stop_time.StopTime.{StopTime}
use Rattle.service_trips.specs.Faults.{first_wrong}
use Rattle.service_trips.specs.StopTimes.{stop_times}
use Rattle.service_trips.specs.TimeFaults.{wrong_trip_times}
use Rattle.service_trips.specs.Broken.{broken_by, broken_trip, broken_trips}

flat_more : {A : Type 0} (f : ℕ → List A) (a n k : ℕ) → a + n ≡ k → flat_map f (range_with_len a (suc n)) ≡ flat_map f (range_with_len a n) ++ f k
flat_more f a zero k e = let same : a ≡ k = omega (arith, e) in append-nil (f a) ∙ ap f same
flat_more f a (suc n) k e = ap (λ l. f a ++ l) (flat_more f (a + 1) n k (omega (arith, e))) ∙ sym (append_assoc (f a) (flat_map f (range_with_len (a + 1) n)) (f k))

trip_more : (rows : List StopTime) (n : ℕ) → broken_trips rows (n + 1) ≡ broken_trips rows n ++ broken_trip rows n
trip_more rows n = rw add-one (flat_more (broken_trip rows) 0 n n (omega arith))

-- a trip with which nothing is wrong
pub right_trip : (rows ordered : List StopTime) (n : ℕ) (found : List TripFault) → ordered ≡ stop_times rows n → None ≡ first_wrong (wrong_trip_times ordered) → found ≡ broken_trips rows n → found ≡ broken_trips rows (n + 1)
right_trip rows ordered n found e right before =
    let none : broken_trip rows n ≡ [] = ap (broken_by n) (sym (right ∙ ap (λ o. first_wrong (wrong_trip_times o)) e)) in
    before ∙ sym (trip_more rows n ∙ ap (λ l. broken_trips rows n ++ l) none ∙ append-nil (broken_trips rows n))

-- a trip with which something is wrong
pub wrong_trip : (rows ordered : List StopTime) (n : ℕ) (f : FeedFault) (found new : List TripFault) → ordered ≡ stop_times rows n → Some f ≡ first_wrong (wrong_trip_times ordered) → found ≡ broken_trips rows n
    → new ≡ found ++ record { trip = n; fault = f } ∷ [] → new ≡ broken_trips rows (n + 1)
wrong_trip rows ordered n f found new e wrong before pushed =
    let one : broken_trip rows n ≡ record { trip = n; fault = f } ∷ [] = ap (broken_by n) (sym (wrong ∙ ap (λ o. first_wrong (wrong_trip_times o)) e)) in
    pushed ∙ ap (λ l. l ++ record { trip = n; fault = f } ∷ []) before ∙ sym (trip_more rows n ∙ ap (λ l. broken_trips rows n ++ l) one)
