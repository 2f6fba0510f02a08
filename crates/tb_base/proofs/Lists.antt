-- Facts on lists and options that std has under no name.
use Rattle.std.proofs.Common.{◌≡◌, ◌∙◌, sym, ap, refl, ℕ, zero, suc, ◌+◌, ◌<◌, ◌≤◌, ◌||◌, cond, not, subst, List, [], ◌∷◌, ◌++◌, length, get_or, set, map, Bool, arith, Option, Some, None}
use Rattle.std.specs.Prelude.{filter, flat_map, position, IsSome, option_map, AllPairs}
use Rattle.std.specs.List.{list_any, prefix_len, range_with_len}
use Rattle.std.proofs.lemmas.List.{get_or-map, length-map, map-set, map-append, length-append, get_or_append_left}
use Rattle.std.proofs.lemmas.List.Sums.{length-filter, count_by-le-length}
use Rattle.tb_base.specs.Transfers.{numbers_below}
use Rattle.tb_base.proofs.Ordered.{AllPairs-tail}

-- of a list that is in order both parts are
pub AllPairs-left : {X : Type 0} (R : X → X → Type 0) (xs ys : List X) → AllPairs R (xs ++ ys) → AllPairs R xs
AllPairs-left R xs ys h i j d before below =
    let here : get_or (xs ++ ys) i d ≡ get_or xs i d = get_or_append_left xs ys d i (omega arith) in
    let there : get_or (xs ++ ys) j d ≡ get_or xs j d = get_or_append_left xs ys d j below in
    let long : length (xs ++ ys) ≡ length xs + length ys = length-append xs ys in
    rw (here, there) at (h i j d before (omega arith))

pub AllPairs-right : {X : Type 0} (R : X → X → Type 0) (xs ys : List X) → AllPairs R (xs ++ ys) → AllPairs R ys
AllPairs-right R [] ys h = h
AllPairs-right R (x ∷ xs) ys h = AllPairs-right R xs ys (AllPairs-tail R x (xs ++ ys) h)

-- searches among what a function gives
pub prefix_len-map : {X Y : Type 0} (p : Y → Bool) (f : X → Y) (xs : List X) → prefix_len p (map f xs) ≡ prefix_len (λ x. p (f x)) xs
prefix_len-map p f [] = refl
prefix_len-map p f (x ∷ xs) = ap (λ n. cond (p (f x)) (1 + n) 0) (prefix_len-map p f xs)

pub position-map : {X Y : Type 0} (p : Y → Bool) (f : X → Y) (xs : List X) → position p (map f xs) ≡ position (λ x. p (f x)) xs
position-map p f xs = rw (prefix_len-map (λ y. not (p y)) f xs, length-map xs f) refl

pub list_any-over_map : {X Y : Type 0} (p : Y → Bool) (f : X → Y) (xs : List X) → list_any p (map f xs) ≡ list_any (λ x. p (f x)) xs
list_any-over_map p f [] = refl
list_any-over_map p f (x ∷ xs) = ap (λ b. p (f x) || b) (list_any-over_map p f xs)

pub map-flat_map : {A B C : Type 0} (g : B → C) (f : A → List B) (xs : List A) → map g (flat_map f xs) ≡ flat_map (λ x. map g (f x)) xs
map-flat_map g f [] = refl
map-flat_map g f (x ∷ xs) = map-append g (f x) (flat_map f xs) ∙ ap (λ ys. map g (f x) ++ ys) (map-flat_map g f xs)

pub length-filter_le : {X : Type 0} (test : X → Bool) (xs : List X) → length (filter test xs) ≤ length xs
length-filter_le test xs = omega (arith, length-filter test xs, count_by-le-length test xs)

-- one row of rows with one element more
pub row_added : {A V : Type 0} (f : V → List A) (rows : List V) (i : ℕ) (row new : V) (x : A) → i < length rows → row ≡ get_or rows i row → f new ≡ f row ++ x ∷ []
    → map f (set rows i new) ≡ set (map f rows) i (get_or (map f rows) i [] ++ x ∷ [])
row_added f rows i row new x h r e =
    let at : get_or (map f rows) i [] ≡ f row = get_or-map f rows i row [] h ∙ ap f (sym r) in
    rw at (map-set f rows i new ∙ ap (set (map f rows) i) e)

-- the numbers below a number
pub range_more : (a n : ℕ) → range_with_len a (suc n) ≡ range_with_len a n ++ (a + n) ∷ []
range_more a zero = let e : a ≡ a + 0 = omega arith in ap (λ (k : ℕ). k ∷ []) e
range_more a (suc n) =
    let e : a + 1 + n ≡ a + suc n = omega arith in
    ap (λ (ks : List ℕ). a ∷ ks) (range_more (a + 1) n ∙ ap (λ (k : ℕ). range_with_len (a + 1) n ++ k ∷ []) e)

pub numbers_below-range : (n : ℕ) → numbers_below n ≡ range_with_len 0 n
numbers_below-range zero = refl
numbers_below-range (suc n) = let z : n ≡ 0 + n = omega arith in (λ i. numbers_below-range n i ++ z i ∷ []) ∙ sym (range_more 0 n)

pub length-numbers_below : (n : ℕ) → length (numbers_below n) ≡ n
length-numbers_below zero = refl
length-numbers_below (suc n) = omega (arith, length-append (numbers_below n) (n ∷ []), length-numbers_below n)

-- options that hold something
pub IsSome-some : {X : Type 0} (o : Option X) → IsSome o → (x : X) × (o ≡ Some x)
IsSome-some None h = cc
IsSome-some (Some x) h = (x, refl)

pub some-IsSome : {X : Type 0} (o : Option X) (x : X) → o ≡ Some x → IsSome o
some-IsSome o x is = subst (λ y. IsSome y) (sym is) refl

pub option_map-back : {X Y : Type 0} (f : X → Y) (o : Option X) (y : Y) → option_map f o ≡ Some y → (x : X) × (o ≡ Some x) × (f x ≡ y)
option_map-back f None y h = cc
option_map-back f (Some x) y h = (x, refl, cc)
