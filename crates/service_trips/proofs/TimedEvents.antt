-- The events of timed rows, one row on.
use Rattle.std.proofs.Common.{◌≡◌, ◌∙◌, sym, ap, ℕ, ◌+◌, ◌<◌, List, [], ◌∷◌, ◌++◌, length, map, drop, get_or, Option, Some}
use Rattle.std.proofs.lemmas.List.{append_assoc, drop_more}
use Rattle.tb_base.specs.declared.table.Event.{Event}
use Rattle.service_trips.specs.declared.stop_time.StopTime.{StopTime}
use Rattle.service_trips.specs.declared.times.Times.{Times}
use Rattle.service_trips.specs.Times.{times_of_row, times_at, own_or, between, nearest_before, nearest_after}
use Rattle.service_trips.specs.Rides.{event_of, events_from, events_in}
use Rattle.service_trips.proofs.Timed.{times_here}

timed_event : (rows : List StopTime) (k : ℕ) (r : StopTime) (t : Times) → k < length rows → r ≡ get_or rows k r → Some t ≡ times_of_row r
    → events_from (map times_of_row rows) k (drop k rows) ≡ event_of r t ∷ events_from (map times_of_row rows) (k + 1) (drop (k + 1) rows)
timed_event rows k r t h e own =
    let times = map times_of_row rows in
    let rest = events_from times (k + 1) (drop (k + 1) rows) in
    let others = between (nearest_before times k) (nearest_after times k) k in
    let here : times_at times k ≡ t = ap (λ (o : Option Times). own_or o others) (times_here rows k r h e ∙ sym own) in
    ap (λ (left : List StopTime). events_from times k left) (drop_more rows k r h)
    ∙ ap (λ (x : StopTime). event_of x (times_at times k) ∷ rest) (sym e)
    ∙ ap (λ (u : Times). event_of r u ∷ rest) here

pub timed_next : (rows : List StopTime) (k : ℕ) (r : StopTime) (t : Times) (done more : List Event) (x : Event) → k < length rows → r ≡ get_or rows k r → Some t ≡ times_of_row r → x ≡ event_of r t → more ≡ done ++ x ∷ []
    → events_in rows ≡ done ++ events_from (map times_of_row rows) k (drop k rows) → events_in rows ≡ more ++ events_from (map times_of_row rows) (k + 1) (drop (k + 1) rows)
timed_next rows k r t done more x h e own is pushed before =
    let rest = events_from (map times_of_row rows) (k + 1) (drop (k + 1) rows) in
    let assoc : (done ++ x ∷ []) ++ rest ≡ done ++ (x ∷ rest) = simp append_assoc in
    before
    ∙ ap (λ (xs : List Event). done ++ xs) (timed_event rows k r t h e own ∙ ap (λ (y : Event). y ∷ rest) (sym is))
    ∙ sym assoc
    ∙ ap (λ (xs : List Event). xs ++ rest) (sym pushed)
