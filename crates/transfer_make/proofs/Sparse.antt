-- A walk over all stops is one over those that the change leads to.
use Rattle.std.proofs.Common.{◌≡◌, ◌∙◌, sym, ap, subst, refl, ℕ, zero, suc, ◌+◌, ◌<◌, ◌≤◌, ◌⊎◌, inl, inr, Bool, true, false, cond, ◌==◌, List, [], ◌∷◌, ◌++◌, length, map, get_or, take, drop, find, Some, None, arith}
use Rattle.std.specs.Prelude.{All, AllPairs, flat_map, nat_lt}
use Rattle.std.specs.List.Sorted.{IsPartitionedBy}
use Rattle.std.specs.List.{range_with_len, AllWithin}
use Rattle.std.proofs.lemmas.List.{take-append-drop, map-append}
use Rattle.std.proofs.lemmas.List.Elements.{All-head, All-tail}
use Rattle.std.proofs.lemmas.Bool.{eqb-true, eq-eqb, ltb-true, lt-ltb, ltb-false}
use Rattle.tb_base.specs.declared.table.Path.{Path}
use Rattle.tb_base.proofs.Ordered.{Member, Contains-from_Member, AllPairs-head, AllPairs-tail}
use Rattle.tb_base.proofs.Members.{Member-left, Member-right, Member-append}
use Rattle.tb_base.proofs.NumberFacts.{lt-eqb}

-- numbers from a on and below b, in ascending order
abbrev pub Between : ℕ → ℕ → List ℕ → Type 0
Between a b [] = Unit {0}
Between a b (x ∷ xs) = (a ≤ x) × (x < b) × Between (x + 1) b xs

not_below : (a b : ℕ) (xs : List ℕ) → Between a b xs → (q : ℕ) → q < a → Member q xs → ⊥
not_below a b [] h q below m = m
not_below a b (x ∷ xs) h q below (inl e) = omega (arith, h.0, e, below)
not_below a b (x ∷ xs) h q below (inr m) = not_below (x + 1) b xs h.2 q (omega (arith, h.0, below)) m

-- where a function gives nothing but for some numbers, those are enough
pub flat_map-sparse : {X : Type 0} (f : ℕ → List X) (n a b : ℕ) (xs : List ℕ) → a + n ≡ b → Between a b xs → ((q : ℕ) → a ≤ q → q < b → (Member q xs → ⊥) → f q ≡ []) → flat_map f (range_with_len a n) ≡ flat_map f xs
flat_map-sparse f zero a b [] e h none = refl
flat_map-sparse f zero a b (x ∷ xs) e h none = absurd (omega (arith, h.0, h.1, e))
flat_map-sparse f (suc n) a b [] e h none =
    ap (λ ys. ys ++ flat_map f (range_with_len (a + 1) n)) (none a (omega arith) (omega (arith, e)) (λ m. m))
    ∙ flat_map-sparse f n (a + 1) b [] (omega (arith, e)) h (λ q low high out. none q (omega (arith, low)) high out)
flat_map-sparse {X} f (suc n) a b (x ∷ xs) e h none =
    by_case (λ up. flat_map-sparse f n (a + 1) b xs (omega (arith, e)) up) (flat_map-sparse f n (a + 1) b (x ∷ xs) (omega (arith, e))) (same_or_above a x h.0)
  where
    same_or_above : (a x : ℕ) → a ≤ x → (x ≡ a) ⊎ (a < x)
    same_or_above a x h = grind arith

    by_case : (Between (a + 1) b xs → ((q : ℕ) → a + 1 ≤ q → q < b → (Member q xs → ⊥) → f q ≡ []) → flat_map f (range_with_len (a + 1) n) ≡ flat_map f xs)
        → (Between (a + 1) b (x ∷ xs) → ((q : ℕ) → a + 1 ≤ q → q < b → (Member q (x ∷ xs) → ⊥) → f q ≡ []) → flat_map f (range_with_len (a + 1) n) ≡ flat_map f (x ∷ xs))
        → (x ≡ a) ⊎ (a < x) → f a ++ flat_map f (range_with_len (a + 1) n) ≡ f x ++ flat_map f xs
    by_case same above (inl is) =
        ap (λ y. f y ++ flat_map f (range_with_len (a + 1) n)) (sym is)
        ∙ ap (λ ys. f x ++ ys) (same (subst (λ y. Between (y + 1) b xs) is h.2)
        (λ q low high out. none q (omega (arith, low)) high (λ m. elim m [ inl s ↦ omega (arith, s, is, low) | inr k ↦ out k ])))
    by_case same above (inr below) =
        ap (λ ys. ys ++ flat_map f (range_with_len (a + 1) n)) (none a (omega arith) (omega (arith, e)) (λ m. elim m [ inl s ↦ omega (arith, s, below) | inr k ↦ not_below (x + 1) b xs h.2 a (omega (arith, below)) k ]))
        ∙ above (omega (arith, below), h.1, h.2) (λ q low high out. none q (omega (arith, low)) high out)

-- ---- the stops that a change from p leads to

abbrev Ascend : List Path → Type 0
Ascend fs = AllPairs (λ (f g : Path). f.to < g.to) fs

abbrev pub targets : List Path → List ℕ
targets fs = map (λ (f : Path). f.to) fs

targets_between : (a b : ℕ) (fs : List Path) → Ascend fs → All (λ f. a ≤ f.to) fs → All (λ f. f.to < b) fs → Between a b (targets fs)
targets_between a b [] up low high = tt
targets_between a b (f ∷ fs) up low high = (
  All-head (λ (f : Path). a ≤ f.to) f fs low,
  All-head (λ (f : Path). f.to < b) f fs high,
  targets_between (f.to + 1) b fs (AllPairs-tail (λ (f g : Path). f.to < g.to) f fs up)
      (λ k d below. let l : f.to < (get_or fs k d).to = up 0 (suc k) d (omega arith) (omega (arith, below)) in omega (arith, l)) (All-tail (λ (f : Path). f.to < b) f fs high),
)

-- the own stop among the targets of the footpaths
pub stops_between : (a b p n : ℕ) (fs : List Path) → Ascend fs → All (λ f. a ≤ f.to) fs → All (λ f. f.to < b) fs → a ≤ p → p < b → AllWithin (λ f. f.to < p) fs 0 n → AllWithin (λ f. p < f.to) fs n (length fs) →
    Between a b (targets (take n fs) ++ p ∷ targets (drop n fs))
stops_between a b p zero fs up low high from inside before behind =
    (from, inside, targets_between (p + 1) b fs up (λ k d below. let l : p < (get_or fs k d).to = behind k d (omega arith) below in omega (arith, l)) high)
stops_between a b p (suc n) [] up low high from inside before behind = (from, inside, tt)
stops_between a b p (suc n) (f ∷ fs) up low high from inside before behind = (
  All-head (λ (f : Path). a ≤ f.to) f fs low,
  All-head (λ (f : Path). f.to < b) f fs high,
  stops_between (f.to + 1) b p n fs (AllPairs-tail (λ (f g : Path). f.to < g.to) f fs up)
      (λ k d below. let l : f.to < (get_or fs k d).to = up 0 (suc k) d (omega arith) (omega (arith, below)) in omega (arith, l)) (All-tail (λ (f : Path). f.to < b) f fs high)
      (let l : f.to < p = before 0 f (omega arith) (omega arith) in omega (arith, l)) inside
      (λ k d low below. before (suc k) d (omega arith) (omega (arith, below))) (λ k d low below. behind (suc k) d (omega (arith, low)) (omega (arith, below))),
)

find-other : (q : ℕ) (fs : List Path) → (Member q (targets fs) → ⊥) → find (λ f. f.to == q) fs ≡ None
find-other q [] out = refl
find-other q (f ∷ fs) out = by_test (find-other q fs (λ m. out (inr m))) (f.to == q) refl
  where
    by_test : find (λ f. f.to == q) fs ≡ None → (b : Bool) → b ≡ (f.to == q) → cond b (Some f) (find (λ f. f.to == q) fs) ≡ None
    by_test rest true e = absurd (out (inl (eqb-true f.to q (sym e))))
    by_test rest false e = rest

pub find-own : (fs : List Path) (g : Path) → Ascend fs → Member g fs → find (λ f. f.to == g.to) fs ≡ Some g
find-own [] g up m = absurd m
find-own (f ∷ fs) g up (inl e) = let t : (f.to == g.to) ≡ true = eq-eqb f.to g.to (ap (λ (h : Path). h.to) e) in ap (λ b. cond b (Some f) (find (λ h. h.to == g.to) fs)) t ∙ ap (λ h. Some h) e
find-own (f ∷ fs) g up (inr m) =
    let t : (f.to == g.to) ≡ false = lt-eqb f.to g.to (AllPairs-head (λ (f g : Path). f.to < g.to) f fs up g (Contains-from_Member g fs m)) in
    ap (λ b. cond b (Some f) (find (λ h. h.to == g.to) fs)) t ∙ find-own fs g (AllPairs-tail (λ (f g : Path). f.to < g.to) f fs up) m

-- a stop that is none of these has no footpath
pub find-none : (n q p : ℕ) (fs : List Path) → (Member q (targets (take n fs) ++ p ∷ targets (drop n fs)) → ⊥) → find (λ f. f.to == q) fs ≡ None
find-none n q p fs out = find-other q fs (λ m. out (placed (Member-append q (targets (take n fs)) (targets (drop n fs)) (subst (λ xs. Member q xs) parts m))))
  where
    parts : targets fs ≡ targets (take n fs) ++ targets (drop n fs)
    parts = ap targets (sym (take-append-drop n fs)) ∙ map-append (λ (f : Path). f.to) (take n fs) (drop n fs)

    placed : Member q (targets (take n fs)) ⊎ Member q (targets (drop n fs)) → Member q (targets (take n fs) ++ p ∷ targets (drop n fs))
    placed (inl k) = Member-left q (targets (take n fs)) (p ∷ targets (drop n fs)) k
    placed (inr k) = Member-right q (targets (take n fs)) (p ∷ targets (drop n fs)) (inr k)

pub Member-from_at : (q p : ℕ) (xs ys : List ℕ) → p ≡ q → Member q (xs ++ p ∷ ys)
Member-from_at q p xs ys e = Member-right q xs (p ∷ ys) (inl e)

-- ---- footpaths to lesser and to greater numbers

pub partitioned : (fs : List Path) (p : ℕ) → AllPairs (λ (f g : Path). f.to < g.to) fs → IsPartitionedBy (λ f. nat_lt f.to p) fs
partitioned fs p up i j d h k t = by_case (same_or_before i j h)
  where
    same_or_before : (i j : ℕ) → i ≤ j → (i < j) ⊎ (j ≡ i)
    same_or_before i j h = grind arith

    by_case : (i < j) ⊎ (j ≡ i) → nat_lt (get_or fs i d).to p ≡ true
    by_case (inl before) = lt-ltb (get_or fs i d).to p (let a : (get_or fs i d).to < (get_or fs j d).to = up i j d before k in let b : (get_or fs j d).to < p = ltb-true (get_or fs j d).to p t in omega (arith, a, b))
    by_case (inr e) = subst (λ n. nat_lt (get_or fs n d).to p ≡ true) e t

pub all_below : (fs : List Path) (p n : ℕ) → AllWithin (λ f. nat_lt f.to p ≡ true) fs 0 n → AllWithin (λ f. f.to < p) fs 0 n
all_below fs p n h k d low high = ltb-true (get_or fs k d).to p (h k d low high)

pub all_from : (fs : List Path) (p n : ℕ) → AllWithin (λ f. nat_lt f.to p ≡ false) fs n (length fs) → AllWithin (λ f. p ≤ f.to) fs n (length fs)
all_from fs p n h k d low high = ltb-false (get_or fs k d).to p (h k d low high)
