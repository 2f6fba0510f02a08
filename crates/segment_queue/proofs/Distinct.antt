-- Members of lists of numbers, and lists whose elements differ.
use Rattle.std.proofs.Common.{◌≡◌, ◌≢◌, ℕ, ◌⊎◌, inl, inr, List, [], ◌∷◌, ◌++◌, ◌==◌, ◌||◌, Bool, true, false, refl, sym, ap, subst, arith}
use Rattle.std.specs.Prelude.{All, AllPairs, Contains}
use Rattle.std.specs.List.{list_any}
use Rattle.std.proofs.lemmas.Bool.{cases_Bool}
use Rattle.std.proofs.lemmas.Bool.Decides.{nat_tests}
use Rattle.std.proofs.lemmas.List.Elements.{All-weaker, All-contains, All-contains_itself}
use Rattle.std.proofs.lemmas.List.Kept.{AllPairs-cons}
use Rattle.tb_base.proofs.Ordered.{Member, Member-from_Contains, Contains-from_Member, AllPairs-head, AllPairs-tail}
use Rattle.tb_base.proofs.Members.{Member-left, Member-right}

abbrev pub has : ℕ → List ℕ → Bool
has t xs = list_any (λ x. x == t) xs

pub same_or_other : (a b : ℕ) → ((a ≡ b) × ((a == b) ≡ true)) ⊎ ((a ≢ b) × ((a == b) ≡ false))
same_or_other a b = by_test (a == b) refl
  where
    by_test : (r : Bool) → r ≡ (a == b) → ((a ≡ b) × ((a == b) ≡ true)) ⊎ ((a ≢ b) × ((a == b) ≡ false))
    by_test true e = inl (let f : a ≡ b = grind (arith, nat_tests, e) in f, sym e)
    by_test false e = inr (λ f. let g : (a == b) ≡ true = grind (arith, nat_tests, f) in cc, sym e)

pub has_member : (t : ℕ) (xs : List ℕ) → Member t xs → has t xs ≡ true
has_member t [] h = absurd h
has_member t (x ∷ xs) (inl e) = ap (λ b. b || has t xs) (let f : (x == t) ≡ true = grind (arith, nat_tests, e) in f)
has_member t (x ∷ xs) (inr h) = by_test (x == t) (has_member t xs h)
  where
    by_test : (b : Bool) → has t xs ≡ true → (b || has t xs) ≡ true
    by_test true e = refl
    by_test false e = e

pub member_of : (t : ℕ) (xs : List ℕ) → has t xs ≡ true → Member t xs
member_of t [] h = cc
member_of t (x ∷ xs) h = by_test (λ k. member_of t xs k) (same_or_other x t) h
  where
    by_test : (has t xs ≡ true → Member t xs) → ((x ≡ t) × ((x == t) ≡ true)) ⊎ ((x ≢ t) × ((x == t) ≡ false)) → ((x == t) || has t xs) ≡ true → Member t (x ∷ xs)
    by_test more (inl e) h = inl e.0
    by_test more (inr e) h = inr (more (subst (λ b. (b || has t xs) ≡ true) e.1 h))

-- t is one of the numbers, or it is not
pub member_or_not : (t : ℕ) (xs : List ℕ) → (Member t xs × (has t xs ≡ true)) ⊎ ((Member t xs → ⊥) × (has t xs ≡ false))
member_or_not t xs = by_test (cases_Bool (has t xs))
  where
    by_test : (has t xs ≡ true) ⊎ (has t xs ≡ false) → (Member t xs × (has t xs ≡ true)) ⊎ ((Member t xs → ⊥) × (has t xs ≡ false))
    by_test (inl e) = inl (member_of t xs e, e)
    by_test (inr e) = inr (λ h. let k : has t xs ≡ true = has_member t xs h in cc, e)

-- in the order of pairs, the head comes before each member of the tail
pub before_member : {X : Type 0} (R : X → X → Type 0) (x : X) (xs : List X) (y : X) → AllPairs R (x ∷ xs) → Member y xs → R x y
before_member R x xs y pairs h = AllPairs-head R x xs pairs y (Contains-from_Member y xs h)

-- pairs by the head and the tail
pub pairs_from_head : {X : Type 0} (R : X → X → Type 0) (x : X) (xs : List X) → ((y : X) → Member y xs → R x y) → AllPairs R xs → AllPairs R (x ∷ xs)
pairs_from_head {X} R x xs first rest = AllPairs-cons R x xs (All-weaker (Contains xs) (R x) (λ y c. first y (Member-from_Contains y xs c)) xs (All-contains_itself xs)) rest

pub pairs_left : {X : Type 0} (R : X → X → Type 0) (xs ys : List X) → AllPairs R (xs ++ ys) → AllPairs R xs
pairs_left R [] ys pairs = λ i j d before below. absurd (omega (arith, below))
pairs_left R (x ∷ xs) ys pairs =
    pairs_from_head R x xs (λ y h. before_member R x (xs ++ ys) y pairs (Member-left y xs ys h)) (pairs_left R xs ys (AllPairs-tail R x (xs ++ ys) pairs))

pub pairs_right : {X : Type 0} (R : X → X → Type 0) (xs ys : List X) → AllPairs R (xs ++ ys) → AllPairs R ys
pairs_right R [] ys pairs = pairs
pairs_right R (x ∷ xs) ys pairs = pairs_right R xs ys (AllPairs-tail R x (xs ++ ys) pairs)

abbrev pub AreDistinct : List ℕ → Type 0
AreDistinct xs = AllPairs (λ t u. t ≢ u) xs

-- in a list whose elements differ, none is in two parts
pub in_one_part : (u : ℕ) (xs ys : List ℕ) → AreDistinct (xs ++ ys) → Member u xs → Member u ys → ⊥
in_one_part u [] ys distinct h k = h
in_one_part u (x ∷ xs) ys distinct (inl e) k = before_member (λ t u. t ≢ u) x (xs ++ ys) u distinct (Member-right u xs ys k) e
in_one_part u (x ∷ xs) ys distinct (inr h) k = in_one_part u xs ys (AllPairs-tail (λ t u. t ≢ u) x (xs ++ ys) distinct) h k

-- pairs that hold of elements hold of other relations that follow from them there
pub pairs_weaker : {X : Type 0} (R S : X → X → Type 0) (xs : List X) → ((x y : X) → Member x xs → Member y xs → R x y → S x y) → AllPairs R xs → AllPairs S xs
pairs_weaker R S [] f pairs = λ i j d before below. absurd (omega (arith, below))
pairs_weaker R S (x ∷ xs) f pairs =
    pairs_from_head S x xs (λ y h. f x y (inl refl) (inr h) (before_member R x xs y pairs h))
    (pairs_weaker R S xs (λ y z h k r. f y z (inr h) (inr k) r) (AllPairs-tail R x xs pairs))

-- what holds of each member holds of each element
pub all_by_member : {X : Type 0} (P : X → Type 0) (xs : List X) → ((x : X) → Member x xs → P x) → All P xs
all_by_member {X} P xs f = All-weaker (Contains xs) P (λ y c. f y (Member-from_Contains y xs c)) xs (All-contains_itself xs)

pub of_member : {X : Type 0} (P : X → Type 0) (xs : List X) (x : X) → All P xs → Member x xs → P x
of_member P xs x all h = All-contains P xs x all (Contains-from_Member x xs h)
