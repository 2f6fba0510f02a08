-- Times that join others.
use Rattle.std.proofs.Common.{◌≡◌, ◌∙◌, ℕ, ◌+◌, ◌<◌, ◌⊎◌, inl, inr, List, [], ◌∷◌, ◌++◌, length, get_or, subst, sym, arith, ℤ, ◌<ℤ◌, Less}
use Rattle.std.specs.Prelude.{All, AllPairs, Contains}
use Rattle.std.specs.List.{AllByRecursion}
use Rattle.std.specs.List.Sorted.{IsStrictlySortedBy}
use Rattle.std.specs.Ordering.{int_cmp}
use Rattle.std.proofs.lemmas.Int.{ints}
use Rattle.std.proofs.lemmas.Bool.Decides.{nat_tests}
use Rattle.std.proofs.lemmas.List.{get_or_default}
use Rattle.std.proofs.lemmas.List.Elements.{All-cons, All-nil, Contains-append_left, Contains-get_or, Contains-push, Contains-push_cases}
use Rattle.std.proofs.lemmas.List.Kept.{AllPairs-cons}
use Rattle.tb_base.proofs.NumberFacts.{below_or_at}
use Rattle.query_gate.specs.Leaving.{HaveJoined}

pub joined_none : (P : ℤ → Type 0) (times : List ℤ) → ((n : ℤ) → P n → ⊥) → HaveJoined P times times
joined_none P times none = record { kept = λ n c. c; further = λ n c. inl c; complete = λ n p. absurd (none n p) }

pub joined_same : (P Q : ℤ → Type 0) (old new : List ℤ) → ((n : ℤ) → P n → Q n) → ((n : ℤ) → Q n → P n) → HaveJoined P old new → HaveJoined Q old new
joined_same P Q old new f g h = record {
  kept = h.kept;
  further = λ n c. elim (h.further n c) [ inl k ↦ inl k | inr p ↦ inr (f n p) ];
  complete = λ n q. h.complete n (g n q);
}

pub joined_both : (P Q : ℤ → Type 0) (old times new : List ℤ) → HaveJoined P old times → HaveJoined Q times new → HaveJoined (λ n. P n ⊎ Q n) old new
joined_both P Q old times new h k = record {
  kept = λ n c. k.kept n (h.kept n c);
  further = λ n c. elim (k.further n c) [ inl x ↦ elim (h.further n x) [ inl y ↦ inl y | inr p ↦ inr (inl p) ] | inr q ↦ inr (inr q) ];
  complete = λ n r. elim r [ inl p ↦ k.kept n (h.complete n p) | inr q ↦ k.complete n q ];
}

pub joined_push : (P : ℤ → Type 0) (old times : List ℤ) (time : ℤ) → HaveJoined P old times → HaveJoined (λ n. P n ⊎ (time ≡ n)) old (times ++ time ∷ [])
joined_push P old times time h = joined_both P (λ n. time ≡ n) old times (times ++ time ∷ []) h (record {
  kept = λ n c. Contains-append_left times (time ∷ []) n c;
  further = λ n c. Contains-push_cases times time n c;
  complete = λ n e. subst (Contains (times ++ time ∷ [])) e (Contains-push times time);
})

-- those of a number more
pub joined_more : (P : ℕ → ℤ → Type 0) (i : ℕ) (old times new : List ℤ) → HaveJoined (λ n. (k : ℕ) × (k < i) × P k n) old times → HaveJoined (P i) times new → HaveJoined (λ n. (k : ℕ) × (k < i + 1) × P k n) old new
joined_more P i old times new h k =
    joined_same (λ n. ((k : ℕ) × (k < i) × P k n) ⊎ P i n) (λ n. (k : ℕ) × (k < i + 1) × P k n) old new
    (λ n r. elim r [ inl p ↦ (p.0, omega (arith, p.1), p.2) | inr p ↦ (i, omega arith, p) ])
    (λ n p. elim (below_or_at p.0 i p.1) [ inl b ↦ inl (p.0, b, p.2) | inr e ↦ inr (subst (λ j. P j n) e p.2) ])
    (joined_both (λ n. (k : ℕ) × (k < i) × P k n) (P i) old times new h k)

-- those of all elements of a list
pub joined_all : {X : Type 0} (P : X → ℤ → Type 0) (xs : List X) (d : X) (i : ℕ) (old new : List ℤ) → i ≡ length xs → HaveJoined (λ n. (k : ℕ) × (k < i) × P (get_or xs k d) n) old new → HaveJoined (λ n. (x : X) × Contains xs x × P x n) old new
joined_all {X} P xs d i old new all h =
    joined_same (λ n. (k : ℕ) × (k < i) × P (get_or xs k d) n) (λ n. (x : X) × Contains xs x × P x n) old new
    (λ n p. (let inside : p.0 < length xs = subst (λ m. p.0 < m) all p.1 in (get_or xs p.0 d, Contains-get_or xs p.0 d inside, p.2)))
    (λ n p. (p.1.0, subst (λ m. p.1.0 < m) (sym all) p.1.1, subst (λ x. P x n) (sym (here p.0 p.1)) p.2))
    h
  where
    here : (x : X) (c : Contains xs x) → get_or xs c.0 d ≡ x
    here x c = get_or_default xs c.0 d x c.1 ∙ c.2

-- what is strictly sorted rises
pub rises : (times : List ℤ) → IsStrictlySortedBy int_cmp times → AllPairs (λ m n. m <ℤ n) times
unfolding IsStrictlySortedBy
rises [] h = λ i j d before below. absurd (omega (arith, below))
rises (x ∷ xs) h = AllPairs-cons (λ m n. m <ℤ n) x xs (above xs h.0) (rises xs h.1)
  where
    less : (y : ℤ) → int_cmp x y ≡ Less → x <ℤ y
    less y e = grind (arith, ints, nat_tests)

    above : (ys : List ℤ) → AllByRecursion (λ y. int_cmp x y ≡ Less) ys → All (λ y. x <ℤ y) ys
    above [] h = All-nil (λ y. x <ℤ y)
    above (y ∷ ys) h = All-cons (λ y. x <ℤ y) y ys (less y h.0) (above ys h.1)
