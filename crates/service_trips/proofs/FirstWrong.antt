-- The first thing that is wrong, part by part.
use Rattle.std.proofs.Common.{◌≡◌, ◌∙◌, sym, ap, refl, ℕ, suc, ◌+◌, ◌<◌, ◌≤◌, List, [], ◌∷◌, ◌++◌, length, drop, get_or, arith, Option, Some, None, ℤ}
use Rattle.std.specs.Prelude.{Ok, Err}
use Rattle.std.specs.Option.{option_or}
use Rattle.gtfs_rows.specs.Faults.{unless_wrong}
use Rattle.std.proofs.lemmas.List.{drop_more}
use Rattle.gtfs_rows.specs.declared.fault.FeedFault.{FeedFault}
use Rattle.service_trips.specs.declared.stop_time.StopTime.{StopTime}
use Rattle.service_trips.specs.Faults.{first_wrong}
use Rattle.service_trips.specs.TimeFaults.{wrong_end, wrong_times, departed_by, wrong_along, last_row, wrong_trip_times}
use Rattle.service_trips.specs.Times.{times_of_row}

option_or_assoc : (a b c : Option FeedFault) → option_or a (option_or b c) ≡ option_or (option_or a b) c
option_or_assoc None b c = refl
option_or_assoc (Some f) b c = refl

pub first_wrong-append : (xs ys : List (Option FeedFault)) → first_wrong (xs ++ ys) ≡ option_or (first_wrong xs) (first_wrong ys)
first_wrong-append [] ys = refl
first_wrong-append (x ∷ xs) ys = ap (option_or x) (first_wrong-append xs ys) ∙ option_or_assoc x (first_wrong xs) (first_wrong ys)

-- where something is wrong, the first such thing is the answer
pub unless_wrong-some : {A : Type 0} (wrong : List (Option FeedFault)) (f : FeedFault) (x : A) → first_wrong wrong ≡ Some f → unless_wrong wrong x ≡ Err f
unless_wrong-some [] f x h = cc
unless_wrong-some (None ∷ rest) f x h = unless_wrong-some rest f x h
unless_wrong-some (Some g ∷ rest) f x h = cc

-- and where nothing is, the value
pub unless_wrong-none : {A : Type 0} (wrong : List (Option FeedFault)) (x : A) → first_wrong wrong ≡ None → unless_wrong wrong x ≡ Ok x
unless_wrong-none [] x h = refl
unless_wrong-none (None ∷ rest) x h = unless_wrong-none rest x h
unless_wrong-none (Some g ∷ rest) x h = cc

-- and the other way round
pub first_wrong-none : {A : Type 0} (wrong : List (Option FeedFault)) (x y : A) → unless_wrong wrong x ≡ Ok y → first_wrong wrong ≡ None
first_wrong-none [] x y h = refl
first_wrong-none (None ∷ rest) x y h = first_wrong-none rest x y h
first_wrong-none (Some g ∷ rest) x y h = cc

-- along the rows, one row on
along_more : (departed : Option ℤ) (rows : List StopTime) (k : ℕ) (r : StopTime) → k < length rows → r ≡ get_or rows k r
    → first_wrong (wrong_along departed (drop k rows))
    ≡ option_or (first_wrong (wrong_times departed r (times_of_row r))) (first_wrong (wrong_along (departed_by departed (times_of_row r)) (drop (k + 1) rows)))
along_more departed rows k r h e =
    let here : drop k rows ≡ r ∷ drop (k + 1) rows = drop_more rows k r h ∙ ap (λ x. x ∷ drop (k + 1) rows) (sym e) in
    ap (λ rest. first_wrong (wrong_along departed rest)) here
    ∙ first_wrong-append (wrong_times departed r (times_of_row r)) (wrong_along (departed_by departed (times_of_row r)) (drop (k + 1) rows))

-- the fault of a row, behind rows without one
pub along_found : (departed : Option ℤ) (rows : List StopTime) (k : ℕ) (r : StopTime) (f : FeedFault) → k < length rows → r ≡ get_or rows k r
    → Some f ≡ first_wrong (wrong_times departed r (times_of_row r)) → Some f ≡ first_wrong (wrong_along departed (drop k rows))
along_found departed rows k r f h e i = sym (along_more departed rows k r h e ∙ ap (λ o. option_or o (first_wrong (wrong_along (departed_by departed (times_of_row r)) (drop (k + 1) rows)))) (sym i))

last_row_at : (s : StopTime) (rest : List StopTime) (d : StopTime) → last_row s rest ≡ get_or (s ∷ rest) (length rest) d
last_row_at s [] d = refl
last_row_at s (r ∷ rest) d = last_row_at r rest d

-- what is wrong with a trip of at least two rows: its first row, its last one, or its times in between
trip_parts : (rows : List StopTime) (n : ℕ) (first last : StopTime) → 2 ≤ length rows → n + 1 ≡ length rows → first ≡ get_or rows 0 first → last ≡ get_or rows n last
    → first_wrong (wrong_trip_times rows) ≡ option_or (wrong_end first) (option_or (wrong_end last) (first_wrong (wrong_along None rows)))
trip_parts [] n first last h k e g = absurd (omega (arith, h))
trip_parts (r ∷ []) n first last h k e g = absurd (omega (arith, h))
trip_parts (r ∷ s ∷ rest) n first last h k e g =
    let at : n ≡ suc (length rest) = omega (arith, k) in
    let ends : last_row s rest ≡ last = last_row_at s rest last ∙ sym (g ∙ ap (λ i. get_or (r ∷ s ∷ rest) i last) at) in
    let starts : first ≡ r = e in
    rw (ends, starts) refl

-- the last row is the first thing that is wrong
pub last_found : (rows : List StopTime) (n : ℕ) (first last : StopTime) (f : FeedFault) → 2 ≤ length rows → n + 1 ≡ length rows → first ≡ get_or rows 0 first → last ≡ get_or rows n last
    → None ≡ wrong_end first → Some f ≡ wrong_end last → Some f ≡ first_wrong (wrong_trip_times rows)
last_found rows n first last f h k e g i j =
    sym (trip_parts rows n first last h k e g
    ∙ ap (λ o. option_or o (option_or (wrong_end last) (first_wrong (wrong_along None rows)))) (sym i)
    ∙ ap (λ o. option_or o (first_wrong (wrong_along None rows))) (sym j))

-- where both ends are right, only times along the rows can be wrong
pub along_left : (rows : List StopTime) (n : ℕ) (first last : StopTime) → 2 ≤ length rows → n + 1 ≡ length rows → first ≡ get_or rows 0 first → last ≡ get_or rows n last
    → None ≡ wrong_end first → None ≡ wrong_end last → first_wrong (wrong_along None rows) ≡ first_wrong (wrong_trip_times rows)
along_left rows n first last h k e g i j =
    sym (trip_parts rows n first last h k e g
    ∙ ap (λ o. option_or o (option_or (wrong_end last) (first_wrong (wrong_along None rows)))) (sym i)
    ∙ ap (λ o. option_or o (first_wrong (wrong_along None rows))) (sym j))
