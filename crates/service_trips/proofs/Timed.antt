-- Timed rows, one step along the rows.
use Rattle.std.proofs.Common.{◌≡◌, ◌∙◌, sym, ap, ℕ, zero, suc, ◌+◌, ◌<◌, ◌≤◌, ℤ, List, [], ◌∷◌, length, map, drop, get_or, arith, Option, Some, None}
use Rattle.std.specs.Prelude.{All, IfSome}
use Rattle.std.proofs.lemmas.List.Elements.{All-head, All-tail, All-drop}
use Rattle.std.proofs.lemmas.List.{drop_more, drop-map, get_or-map, length-map}
use Rattle.service_trips.specs.declared.stop_time.StopTime.{StopTime}
use Rattle.service_trips.specs.declared.times.Times.{Times}
use Rattle.service_trips.specs.declared.times.Timepoint.{Timepoint}
use Rattle.gtfs_rows.specs.Numbers.{IsFileTime}
use Rattle.service_trips.specs.Times.{HasFileTimes, AreFileTimes, times_by, times_of_row, timed_or, first_timed, nearest_before, nearest_after}

-- what the times of the rows give at a place
pub times_here : (rows : List StopTime) (k : ℕ) (r : StopTime) → k < length rows → r ≡ get_or rows k r → get_or (map times_of_row rows) k None ≡ times_of_row r
times_here rows k r h e = get_or-map times_of_row rows k r None h ∙ sym (ap times_of_row e)

pub first_here : (rows : List StopTime) (k : ℕ) (r : StopTime) → k < length rows → r ≡ get_or rows k r
    → first_timed k (drop k (map times_of_row rows)) ≡ timed_or k (times_of_row r) (first_timed (k + 1) (drop (k + 1) (map times_of_row rows)))
first_here rows k r h e =
    let within : k < length (map times_of_row rows) = rw length-map h in
    ap (first_timed k) (drop_more (map times_of_row rows) k None within)
    ∙ ap (λ t. timed_or k t (first_timed (k + 1) (drop (k + 1) (map times_of_row rows)))) (times_here rows k r h e)

-- a timed row is the first one from its place on
pub first_is_here : (rows : List StopTime) (k : ℕ) (r : StopTime) (t : Times) → k < length rows → r ≡ get_or rows k r → Some t ≡ times_of_row r
    → Some (record { at = k; times = t }) ≡ first_timed k (drop k (map times_of_row rows))
first_is_here rows k r t h e i = sym (first_here rows k r h e ∙ ap (λ o. timed_or k o (first_timed (k + 1) (drop (k + 1) (map times_of_row rows)))) (sym i))

-- of a row that is not timed, the first one from its place on stands after it
pub first_is_later : (rows : List StopTime) (k : ℕ) (r : StopTime) → k < length rows → r ≡ get_or rows k r → None ≡ times_of_row r
    → first_timed k (drop k (map times_of_row rows)) ≡ first_timed (k + 1) (drop (k + 1) (map times_of_row rows))
first_is_later rows k r h e i = first_here rows k r h e ∙ ap (λ o. timed_or k o (first_timed (k + 1) (drop (k + 1) (map times_of_row rows)))) (sym i)

-- a row's own times are within the limits of a file
pub times_within : (arr dep : Option ℤ) → IfSome arr IsFileTime → IfSome dep IsFileTime → IfSome (times_by arr dep) AreFileTimes
times_within None None a d = tt
times_within None (Some dep) a d = record { arr = d; dep = d }
times_within (Some arr) None a d = record { arr = a; dep = a }
times_within (Some arr) (Some dep) a d = record { arr = a; dep = d }

-- each time is within the limits of a file
abbrev pub AllTimed : List (Option Times) → Type 0
AllTimed [] = Unit {0}
AllTimed (t ∷ rest) = IfSome t AreFileTimes × AllTimed rest

pub all_timed : (rows : List StopTime) → All HasFileTimes rows → AllTimed (map times_of_row rows)
all_timed [] h = tt
all_timed (r ∷ rest) h = (times_within r.arr r.dep (All-head HasFileTimes r rest h).arr (All-head HasFileTimes r rest h).dep, all_timed rest (All-tail HasFileTimes r rest h))

timed_at : (times : List (Option Times)) (k : ℕ) → AllTimed times → IfSome (get_or times k None) AreFileTimes
timed_at [] k h = tt
timed_at (t ∷ rest) zero h = h.0
timed_at (t ∷ rest) (suc k) h = timed_at rest k h.1

before_by : (times : List (Option Times)) (k : ℕ) → AllTimed times → IfSome (nearest_before times k) (λ i. (i.at < k) × AreFileTimes i.times)
before_by times zero h = tt
before_by times (suc k) h = here (get_or times k None) (timed_at times k h) (nearest_before times k) (before_by times k h)
  where
    here : (t : Option Times) → IfSome t AreFileTimes → (i : Option Timepoint) → IfSome i (λ i. (i.at < k) × AreFileTimes i.times) → IfSome (timed_or k t i) (λ i. (i.at < suc k) × AreFileTimes i.times)
    here None t None i = tt
    here None t (Some i) (low, within) = (omega (arith, low), within)
    here (Some t) within i h = (omega arith, within)

pub after_by : (times : List (Option Times)) (k : ℕ) → AllTimed times → IfSome (first_timed k times) (λ j. (k ≤ j.at) × AreFileTimes j.times)
after_by [] k h = tt
after_by (None ∷ rest) k h = later (first_timed (k + 1) rest) (after_by rest (k + 1) h.1)
  where
    later : (j : Option Timepoint) → IfSome j (λ j. (k + 1 ≤ j.at) × AreFileTimes j.times) → IfSome j (λ j. (k ≤ j.at) × AreFileTimes j.times)
    later None j = tt
    later (Some j) (low, within) = (omega (arith, low), within)
after_by (Some t ∷ rest) k h = (omega arith, h.0)

-- the nearest timed row before a place stands before it, with times within the limits of a file
pub before_within : (rows : List StopTime) (k : ℕ) (before : Option Timepoint) → All HasFileTimes rows → before ≡ nearest_before (map times_of_row rows) k → IfSome before (λ i. (i.at < k) × AreFileTimes i.times)
before_within rows k before h e = rw e (before_by (map times_of_row rows) k (all_timed rows h))

-- and the nearest one after it stands after it
pub after_within : (rows : List StopTime) (k : ℕ) (after : Option Timepoint) → All HasFileTimes rows → after ≡ nearest_after (map times_of_row rows) k → IfSome after (λ j. (k < j.at) × AreFileTimes j.times)
after_within rows k after h e =
    let times = drop-map times_of_row (k + 1) rows in
    later after (rw (e, times) (after_by (map times_of_row (drop (k + 1) rows)) (k + 1) (all_timed (drop (k + 1) rows) (All-drop HasFileTimes (k + 1) rows h))))
  where
    later : (j : Option Timepoint) → IfSome j (λ j. (k + 1 ≤ j.at) × AreFileTimes j.times) → IfSome j (λ j. (k < j.at) × AreFileTimes j.times)
    later None j = tt
    later (Some j) (low, within) = (omega (arith, low), within)
