-- The events of a trip, row by row after the timed row before.
use Rattle.std.proofs.Common.{◌≡◌, ◌∙◌, ap, refl, ℕ, zero, suc, ◌+◌, List, [], ◌∷◌, length, map, drop, get_or, arith, Option, None}
use Rattle.std.proofs.lemmas.List.{drop-map}
use Rattle.tb_base.specs.declared.table.Event.{Event}
use Rattle.service_trips.specs.declared.stop_time.StopTime.{StopTime}
use Rattle.service_trips.specs.declared.times.Timepoint.{Timepoint}
use Rattle.service_trips.specs.Times.{times_of_row, timed_or, first_timed, nearest_before, between, own_or, times_at}
use Rattle.service_trips.specs.Rides.{event_of, events_from, events_in}

-- the events of rows, of which the first stands at a place, after a timed row
abbrev pub walk : Option Timepoint → ℕ → List StopTime → List Event
walk before k [] = []
walk before k (r ∷ rest) =
    event_of r (own_or (times_of_row r) (between before (first_timed (k + 1) (map times_of_row rest)) k))
    ∷ walk (timed_or k (times_of_row r) before) (k + 1) rest

drop_head : {X : Type 0} (xs : List X) (k : ℕ) (x : X) (ys : List X) (d : X) → drop k xs ≡ x ∷ ys → (get_or xs k d ≡ x) × (drop (k + 1) xs ≡ ys)
drop_head [] zero x ys d e = absurd cc
drop_head [] (suc k) x ys d e = absurd cc
drop_head (z ∷ xs) zero x ys d e = (cc, cc)
drop_head (z ∷ xs) (suc k) x ys d e = let more = drop_head xs k x ys d e in let next : suc k + 1 ≡ suc (k + 1) = omega arith in (more.0, rw next more.1)

walk_from : (rows : List StopTime) (k : ℕ) (rest : List StopTime) → drop k rows ≡ rest → events_from (map times_of_row rows) k rest ≡ walk (nearest_before (map times_of_row rows) k) k rest
walk_from rows k [] e = refl
walk_from rows k (r ∷ rest) e =
    let times = map times_of_row rows in
    let here : drop k times ≡ times_of_row r ∷ map times_of_row rest = drop-map times_of_row k rows ∙ ap (map times_of_row) e in
    let own = (drop_head times k (times_of_row r) (map times_of_row rest) None here).0 in
    let after = (drop_head times k (times_of_row r) (map times_of_row rest) None here).1 in
    let later = (drop_head rows k r rest r e).1 in
    let next = walk_from rows (k + 1) rest later in
    let one : k + 1 ≡ suc k = omega arith in
    let before : nearest_before times (k + 1) ≡ timed_or k (times_of_row r) (nearest_before times k) = ap (nearest_before times) one ∙ ap (λ o. timed_or k o (nearest_before times k)) own in
    let at : times_at times k ≡ own_or (times_of_row r) (between (nearest_before times k) (first_timed (k + 1) (map times_of_row rest)) k) = rw (own, after) refl in
    ap (λ t. event_of r t ∷ events_from times (k + 1) rest) at
    ∙ ap (λ es. event_of r (own_or (times_of_row r) (between (nearest_before times k) (first_timed (k + 1) (map times_of_row rest)) k)) ∷ es) (next ∙ ap (λ b. walk b (k + 1) rest) before)

-- the events of a trip
pub walk_is : (rows : List StopTime) → events_in rows ≡ walk None 0 rows
walk_is rows = walk_from rows 0 rows refl

pub length-walk : (before : Option Timepoint) (k : ℕ) (rows : List StopTime) → length (walk before k rows) ≡ length rows
length-walk before k [] = refl
length-walk before k (r ∷ rest) = ap suc (length-walk (timed_or k (times_of_row r) before) (k + 1) rest)
