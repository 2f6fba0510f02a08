-- A line from a trip on is one run of all trips, line after line.
use Rattle.std.proofs.Common.{◌≡◌, ◌∙◌, sym, ap, subst, ℕ, zero, suc, ◌+◌, ◌-◌, ◌<◌, ◌≤◌, inl, inr, List, [], ◌∷◌, ◌++◌, length, get_or, map, take, drop, Some, arith, append_assoc, length-append, length-drop, length-take}
use Rattle.std.specs.Prelude.{flat_map, slice_get}
use Rattle.std.specs.List.{range_with_len}
use Rattle.std.proofs.lemmas.List.{get_or_append_left, take-append-drop}
use Rattle.std.proofs.lemmas.List.FromFn.{get_or-map-range_with_len}
use Rattle.std.proofs.Math.Seq.{get_or-append_seam}
use Rattle.std.proofs.lemmas.Option.{slice_get_within}
use Rattle.line_split.specs.Layout.{IsRunFrom, order_start}
use Rattle.line_split.specs.LinesOf.{StandsAt}
use Rattle.line_split.proofs.DepartureLemmas.{flat_map-at, middle, middle_within}
use Rattle.tb_base.proofs.NumberFacts.{below_or_last, zero_more}

-- a trip stands on one of the lines
pub stands_inside : (lines : List (List ℕ)) (l k t : ℕ) → slice_get (get_or lines l []) k ≡ Some t → l < length lines
stands_inside [] l k t e = cc
stands_inside (x ∷ xs) zero k t e = omega arith
stands_inside (x ∷ xs) (suc l) k t e = omega (arith, stands_inside xs l k t e)

-- where a line begins
pub start_read : (lines : List (List ℕ)) (starts : List ℕ) (l i : ℕ) → starts ≡ map (order_start lines) (range_with_len 0 (length lines)) → i ≡ l → l < length lines → get_or starts i 0 ≡ order_start lines l
start_read lines starts l i e same inside =
    ap (λ k. get_or starts k 0) same ∙ ap (λ xs. get_or xs l 0) e ∙ get_or-map-range_with_len (order_start lines) 0 (length lines) l l 0 inside (zero_more l)

-- the run of a trip that stands on a line at a place
pub run_from : (lines : List (List ℕ)) (in_order : List ℕ) (t : ℕ) (place run : ℕ × ℕ) → StandsAt lines t place → in_order ≡ flat_map (λ line. line) lines →
    run.0 ≡ order_start lines place.0 + place.1 → run.1 ≡ order_start lines place.0 + length (get_or lines place.0 []) → IsRunFrom lines in_order t run
run_from lines in_order t place run stands e from to =
    let l : ℕ = place.0 in
    let k : ℕ = place.1 in
    let line : List ℕ = get_or lines l [] in
    let before : List ℕ = flat_map (λ xs. xs) (take l lines) in
    let others : List ℕ = flat_map (λ xs. xs) (drop (l + 1) lines) in
    let inside : k < length line = slice_get_within line k t stands in
    let first : length (take k line) ≡ k = omega (arith, length-take k line, inside) in
    let rest : length (drop k line) ≡ length line - k = length-drop k line in
    let all : in_order ≡ before ++ (take k line ++ (drop k line ++ others)) =
    e ∙ flat_map-at (λ xs. xs) lines l [] (stands_inside lines l k t stands) ∙ ap (λ xs. before ++ (xs ++ others)) (sym (take-append-drop k line))
    ∙ ap (λ xs. before ++ xs) (append_assoc (take k line) (drop k line) others) in
    let at : run.0 ≡ length before + length (take k line) = omega (arith, from, first) in
    let long : run.1 - run.0 ≡ length (drop k line) = omega (arith, from, to, rest, inside) in
    let within : run.0 + (run.1 - run.0) ≤ length in_order = rw all (middle_within before (take k line) (drop k line) others run.0 (run.1 - run.0) at long) in
    let ascends : run.0 ≤ run.1 = omega (arith, from, to, inside) in
    record {
      ascends = ascends;
      within = omega (arith, within, ascends);
      rest = record { place = place; stands = stands; rest = rw all (middle before (take k line) (drop k line) others run.0 (run.1 - run.0) at long) };
    }

-- a line ends where all trips do, or before
pub line_fits : (lines : List (List ℕ)) (l : ℕ) → l < length lines → order_start lines l + length (get_or lines l []) ≤ length (flat_map (λ line. line) lines)
line_fits lines l inside =
    let line : List ℕ = get_or lines l [] in
    let before : List ℕ = flat_map (λ xs. xs) (take l lines) in
    let others : List ℕ = flat_map (λ xs. xs) (drop (l + 1) lines) in
    omega (arith, ap length (flat_map-at (λ xs. xs) lines l [] inside), length-append before (line ++ others), length-append line others)

-- the runs of the first n trips, and of one more
pub run_more : (lines : List (List ℕ)) (in_order : List ℕ) (n : ℕ) (old new : List (ℕ × ℕ)) (run : ℕ × ℕ) → length old ≡ n → ((t : ℕ) → t < n → IsRunFrom lines in_order t (get_or old t (0, 0))) → new ≡ old ++ run ∷ [] →
    IsRunFrom lines in_order n run → (t : ℕ) → t < n + 1 → IsRunFrom lines in_order t (get_or new t (0, 0))
run_more lines in_order n old new run long are e one t below = elim (below_or_last t n (omega (arith, below))) [
  | inl h ↦ subst (λ r. IsRunFrom lines in_order t r) (sym (ap (λ rs. get_or rs t (0, 0)) e ∙ get_or_append_left old (run ∷ []) (0, 0) t (omega (arith, h, long)))) (are t h)
  | inr h ↦ subst (λ r. IsRunFrom lines in_order t r) (sym (ap (λ rs. get_or rs t (0, 0)) e ∙ ap (λ k. get_or (old ++ run ∷ []) k (0, 0)) (h ∙ sym long) ∙ get_or-append_seam old run [] (0, 0))) (subst (λ u. IsRunFrom lines in_order u run) (sym h) one)
]
