-- Each piece at its place.
use Rattle.std.proofs.Common.{◌≡◌, ◌∙◌, ℕ, ◌+◌, ◌<◌, ◌≤◌, Option, None, Some, List, [], ◌∷◌, ◌++◌, All, length, map, ap, sym, refl, arith, get_or, set, sum_by, subst, ne_eqb, length-set}
use Rattle.std.proofs.lemmas.List.{length-map, map-append, get_or-set_other, get_or-map}
use Rattle.std.proofs.lemmas.List.Sums.{sum_by-append, sum_by-cons, get_or-le-sum_by}
use Rattle.std.proofs.lemmas.List.Elements.{All-nil, All-map, All-append}
use Rattle.std.proofs.lemmas.Grind.{get_or-set_at}
use Rattle.std.proofs.lemmas.Bool.Decides.{nat_tests}
use native.Mathlib.Decide.{ℕ_discrete}
use Rattle.reduce_workers.specs.Reductions.{ReducedData}
use Rattle.reduce_workers.specs.Claim.{times, same, once_below}
use Rattle.reduce_workers.specs.Seats.{SeatData, EachOnce, drawn_of}
use Rattle.reduce_workers.specs.Work.{IsPieceOf, number, piece_of, pieces_of}
use Rattle.reduce_workers.proofs.Keeps.{same_self}
use Rattle.reduce_workers.proofs.Loops.{all_front, all_last}

-- these pieces are left of all, and the others stand at their places
pub record Placed (count : ℕ) (all left : List (ℕ × ReducedData)) (slots : List (Option ReducedData)) : Type 0 where
  pub long : length slots ≡ count
  pub within : All (λ p. number p < count) left
  pub placed : (f : ℕ → ReducedData) → All (IsPieceOf f) all → All (IsPieceOf f) left × ((n : ℕ) → times n (map number left) < times n (map number all) → get_or slots n None ≡ Some (f n))

at_place : (slots : List (Option ReducedData)) (f : ℕ → ReducedData) (m n : ℕ) (r : ReducedData) (a b : ℕ) → m < length slots → r ≡ f m → (a < b → get_or slots n None ≡ Some (f n)) → a < b + same n m → Dec (n ≡ m)
    → get_or (set slots m (Some r)) n None ≡ Some (f n)
at_place slots f m n r a b lt is before more (yes e) = get_or-set_at slots m n (Some r) None e lt ∙ ap Some is ∙ ap (λ k. Some (f k)) (sym e)
at_place slots f m n r a b lt is before more (no ne) =
    let none : same n m ≡ 0 = rw (ne_eqb n m ne) refl in
    get_or-set_other slots m n (Some r) None ne ∙ before (omega arith)

pub placed_more : (count : ℕ) (all before left : List (ℕ × ReducedData)) (slots : List (Option ReducedData)) (m : ℕ) (r : ReducedData) → Placed count all before slots → before ≡ left ++ (m, r) ∷ []
    → Placed count all left (set slots m (Some r))
placed_more count all before left slots m r i split =
    let long = i.long in
    let inside : All (λ p. number p < count) (left ++ (m, r) ∷ []) = subst (All (λ p. number p < count)) split i.within in
    let mine : m < count = all_last (λ p. number p < count) left (m, r) inside in
    record {
      long = let e = length-set slots m (Some r) in omega arith;
      within = all_front (λ p. number p < count) left ((m, r) ∷ []) inside;
      placed = λ f follow.
          let so_far = i.placed f follow in
          let whole : All (IsPieceOf f) (left ++ (m, r) ∷ []) = subst (All (IsPieceOf f)) split so_far.0 in (
            all_front (IsPieceOf f) left ((m, r) ∷ []) whole,
            λ n fewer.
                let sums : times n (map number before) ≡ times n (map number left) + same n m = times_left n before left m r split in
                at_place slots f m n r (times n (map number before)) (times n (map number all)) (omega arith) (all_last (IsPieceOf f) left (m, r) whole) (so_far.1 n) (omega arith) (ℕ_discrete n m),
          );
    }
  where
    times_left : (n : ℕ) (before left : List (ℕ × ReducedData)) (m : ℕ) (r : ReducedData) → before ≡ left ++ (m, r) ∷ [] → times n (map number before) ≡ times n (map number left) + same n m
    times_left n before left m r split =
        let lists : map number before ≡ map number left ++ m ∷ [] = ap (map number) split ∙ map-append number left ((m, r) ∷ []) in
        let one = sum_by-cons (same n) m [] in
        let sums : times n (map number before) ≡ times n (map number left) + times n (m ∷ []) = ap (times n) lists ∙ sum_by-append (same n) (map number left) (m ∷ []) in
        omega arith

numbers : (f : ℕ → ReducedData) (xs : List ℕ) → map number (map (piece_of f) xs) ≡ xs
numbers f [] = refl
numbers f (x ∷ xs) = ap (λ ys. x ∷ ys) (numbers f xs)

-- a number stands as often among the pieces as in the seats' lists
pub times_pieces : (f : ℕ → ReducedData) (x : ℕ) (seats : List SeatData) → times x (map number (pieces_of f seats)) ≡ sum_by (times x) (map drawn_of seats)
times_pieces f x [] = refl
times_pieces f x (s ∷ ss) =
    let rest = times_pieces f x ss in
    let lists : map number (pieces_of f (s ∷ ss)) ≡ drawn_of s ++ map number (pieces_of f ss)
    = map-append number (map (piece_of f) (drawn_of s)) (pieces_of f ss) ∙ ap (λ ys. ys ++ map number (pieces_of f ss)) (numbers f (drawn_of s)) in
    let sums : times x (map number (pieces_of f (s ∷ ss))) ≡ times x (drawn_of s) + times x (map number (pieces_of f ss)) = ap (times x) lists ∙ sum_by-append (same x) (drawn_of s) (map number (pieces_of f ss)) in
    omega (arith, sum_by-cons (times x) (drawn_of s) (map drawn_of ss))

pub all_pieces : (f : ℕ → ReducedData) (seats : List SeatData) → All (IsPieceOf f) (pieces_of f seats)
all_pieces f [] = All-nil (IsPieceOf f)
all_pieces f (s ∷ ss) =
    All-append (IsPieceOf f) (map (piece_of f) (drawn_of s)) (pieces_of f ss) (All-map (IsPieceOf f) (piece_of f) (drawn_of s) (λ i d lt. refl)) (all_pieces f ss)

below_of : (n p : ℕ) → 1 ≤ once_below n p → n < p
below_of n p h = grind (arith, nat_tests)

one_of : (n p : ℕ) → n < p → once_below n p ≡ 1
one_of n p h = grind (arith, nat_tests)

-- what stands among the pieces is below their count
pub pieces_within : (count : ℕ) (all : List (ℕ × ReducedData)) → ((x : ℕ) → times x (map number all) ≡ once_below x count) → All (λ p. number p < count) all
pieces_within count all once k d lt =
    let n : ℕ = number (get_or all k d) in
    let len : length (map number all) ≡ length all = length-map all number in
    let at : get_or (map number all) k 0 ≡ n = get_or-map number all k d 0 (omega arith) in
    let part : same n (get_or (map number all) k 0) ≤ times n (map number all) = get_or-le-sum_by (same n) (map number all) k 0 (omega arith) in
    let here : same n (get_or (map number all) k 0) ≡ 1 = ap (same n) at ∙ same_self n in
    let c = once n in
    below_of n count (omega arith)

-- each place has its piece
pub place_filled : (count : ℕ) (all : List (ℕ × ReducedData)) (slots : List (Option ReducedData)) (f : ℕ → ReducedData) → ((x : ℕ) → times x (map number all) ≡ once_below x count)
    → ((n : ℕ) → 0 < times n (map number all) → get_or slots n None ≡ Some (f n)) → (n : ℕ) → n < count → get_or slots n None ≡ Some (f n)
place_filled count all slots f once placed n lt = (let c = once n in let one = one_of n count lt in placed n (omega arith))

-- a claim's seats drew each number below the count once
pub drawn_once : (f : ℕ → ReducedData) (all : List (ℕ × ReducedData)) (seats : List SeatData) (lists : List (List ℕ)) (p count : ℕ) → all ≡ pieces_of f seats → lists ≡ map drawn_of seats → EachOnce p lists → p ≡ count
    → (x : ℕ) → times x (map number all) ≡ once_below x count
drawn_once f all seats lists p count brought drawn once same x =
    ap (λ a. times x (map number a)) brought ∙ times_pieces f x seats ∙ ap (sum_by (times x)) (sym drawn) ∙ once x ∙ ap (once_below x) same
