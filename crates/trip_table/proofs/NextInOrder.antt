-- One stop time more whose trip has had only lesser numbers.
use Rattle.std.proofs.Common.{◌≡◌, ◌≢◌, ◌∙◌, sym, ap, refl, ℕ, ◌+◌, ◌<◌, ◌≤◌, List, [], ◌∷◌, ◌++◌, length, take, drop, get_or, set, false, None, inl, inr, arith}
use Rattle.std.specs.Prelude.{All, ◌==◌, nat_le}
use Rattle.std.specs.List.{list_any}
use Rattle.std.proofs.lemmas.Bool.{cases_Bool, eqb-true, eqb-false, ne_eqb, leb-false}
use Rattle.std.proofs.lemmas.List.{take_more, get_or-set_same, get_or-set_other}
use Rattle.std.proofs.lemmas.List.Elements.{All-head, All-tail, All-same, All-weaker, All-push}
use Rattle.gtfs_rows.proofs.NextRow.{next_row}
use Rattle.gtfs_rows.specs.Faults.{unless_wrong, wrong_after}
use Rattle.gtfs_rows.specs.StopsFile.{StopData}
use Rattle.gtfs_rows.specs.TripsFile.{TripData}
use Rattle.trip_table.specs.References.{repeats, wrong_time, wrong_names}
use Rattle.service_trips.specs.declared.stop_time.StopTime.{StopTime}

-- the row's number is below the least that the next row of its trip may have
abbrev pub IsBelow : List ℕ → StopTime → Type 0
IsBelow least r = r.sequence < get_or least r.trip_row 0

-- where a walk over stop times stands: what it knows of the rows so far, and the row at hand, whose ids are good
pub record IsNext (stops : List StopData) (trips : List TripData) (least : List ℕ) (rows : List StopTime) (i : ℕ) (r : StopTime) : Type 0 where
  pub below : All (IsBelow least) (take i rows)
  pub within : i < length rows
  pub here : r ≡ get_or rows i r
  pub good : None ≡ wrong_names stops trips r
  pub above : get_or least r.trip_row 0 ≤ r.sequence

-- a row with the same number would be of the same trip, whose numbers are less
apart : (least : List ℕ) (r e : StopTime) → IsBelow least e → get_or least r.trip_row 0 ≤ r.sequence → repeats r e ≡ false
apart least r e below above =
    elim (cases_Bool (r.trip_row == e.trip_row)) [
      | inl t ↦
          let same : r.trip_row ≡ e.trip_row = eqb-true r.trip_row e.trip_row t in
          let low : e.sequence < get_or least r.trip_row 0 = rw same below in
          let differ : r.sequence ≢ e.sequence = λ s. absurd (omega (arith, s, low, above)) in
          rw (t, ne_eqb r.sequence e.sequence differ) refl
      | inr f ↦ rw f refl
    ]

fresh : (least : List ℕ) (r : StopTime) (earlier : List StopTime) → All (IsBelow least) earlier → get_or least r.trip_row 0 ≤ r.sequence → list_any (repeats r) earlier ≡ false
fresh least r [] below above = refl
fresh least r (e ∷ es) below above =
    rw (apart least r e (All-head (IsBelow least) e es below) above) (fresh least r es (All-tail (IsBelow least) e es below) above)

pub passes : (stops : List StopData) (trips : List TripData) (least : List ℕ) (rows : List StopTime) (i : ℕ) (r : StopTime) → IsNext stops trips least rows i r
    → unless_wrong (wrong_after (wrong_time stops trips rows) (take i rows) (drop i rows)) rows ≡ unless_wrong (wrong_after (wrong_time stops trips rows) (take (i + 1) rows) (drop (i + 1) rows)) rows
passes stops trips least rows i r h =
    let no = fresh least r (take i rows) h.below h.above in
    rw (next_row (wrong_time stops trips rows) rows i r h.within h.here, ← h.good, no) refl

-- the row's trip is there
pub is_there : (stops : List StopData) (trips : List TripData) (r : StopTime) → None ≡ wrong_names stops trips r → r.trip_row < length trips
is_there stops trips r good =
    elim (cases_Bool (nat_le (length trips) r.trip_row)) [
      | inl t ↦ absurd (let h = rw t at good in cc)
      | inr f ↦ leb-false (length trips) r.trip_row f
    ]

-- the row's trip may have more than its number from now on
raised : List ℕ → StopTime → List ℕ
raised least r = set least r.trip_row (r.sequence + 1)

still : (least : List ℕ) (r e : StopTime) → r.trip_row < length least → get_or least r.trip_row 0 ≤ r.sequence → IsBelow least e → IsBelow (raised least r) e
unfolding raised
still least r e within above below =
    elim (cases_Bool (e.trip_row == r.trip_row)) [
      | inl t ↦
          let same : e.trip_row ≡ r.trip_row = eqb-true e.trip_row r.trip_row t in
          let low : e.sequence < get_or least r.trip_row 0 = rw (← same) below in
          let is : get_or (set least r.trip_row (r.sequence + 1)) e.trip_row 0 ≡ r.sequence + 1 = rw same (get_or-set_same least r.trip_row (r.sequence + 1) 0 within) in
          omega (arith, is, low, above)
      | inr f ↦
          let is : get_or (set least r.trip_row (r.sequence + 1)) e.trip_row 0 ≡ get_or least e.trip_row 0 = get_or-set_other least r.trip_row e.trip_row (r.sequence + 1) 0 (eqb-false e.trip_row r.trip_row f) in
          omega (arith, is, below)
    ]

own : (least : List ℕ) (r : StopTime) → r.trip_row < length least → IsBelow (raised least r) r
unfolding raised
own least r within = let is = get_or-set_same least r.trip_row (r.sequence + 1) 0 within in omega (arith, is)

pub below_more : (stops : List StopData) (trips : List TripData) (least : List ℕ) (rows : List StopTime) (i : ℕ) (r : StopTime) → IsNext stops trips least rows i r → r.trip_row < length least
    → All (IsBelow (set least r.trip_row (r.sequence + 1))) (take (i + 1) rows)
unfolding raised
below_more stops trips least rows i r h within =
    let P : StopTime → Type 0 = IsBelow (set least r.trip_row (r.sequence + 1)) in
    let e : take (i + 1) rows ≡ take i rows ++ r ∷ [] = take_more rows i r h.within ∙ ap (λ y. take i rows ++ y ∷ []) (sym h.here) in
    All-same P (take (i + 1) rows) (take i rows ++ r ∷ []) e
    (All-push P (take i rows) r (All-weaker (IsBelow least) P (λ x b. still least r x within h.above b) (take i rows) h.below) (own least r within))
