-- Numbers that follow one another, and those of them that pass a test.
use Rattle.std.proofs.Common.{◌≡◌, ap, refl, ℕ, zero, suc, ◌+◌, ◌<◌, ◌≤◌, List, [], ◌∷◌, map, Bool, true, false, ◌&&◌, inl, inr, arith}
use Rattle.std.specs.Prelude.{◌==◌, filter, nat_lt}
use Rattle.std.specs.List.{range_with_len}
use Rattle.std.proofs.lemmas.Bool.{cases_Bool}
use Rattle.std.proofs.lemmas.Bool.Decides.{nat_tests}

pub none_of_run : (p : ℕ → Bool) (i n : ℕ) → ((k : ℕ) → i ≤ k → p k ≡ false) → filter p (range_with_len i n) ≡ []
none_of_run p i zero fails = refl
none_of_run p i (suc n) fails = rw (fails i (omega arith)) (none_of_run p (i + 1) n (λ k h. fails k (omega (arith, h))))

-- of a run of numbers, those from a on before a + c pass
pub filter_run : (p : ℕ → Bool) (a c i n : ℕ) → i ≤ a → a + c ≤ i + n → ((k : ℕ) → a ≤ k → k < a + c → p k ≡ true) → ((k : ℕ) → i ≤ k → k < a → p k ≡ false) → ((k : ℕ) → a + c ≤ k → p k ≡ false)
    → filter p (range_with_len i n) ≡ range_with_len a c
filter_run p a c i zero low high holds early late =
    let none : c ≡ 0 = omega (arith, low, high) in
    rw none refl
filter_run p a zero i (suc n) low high holds early late =
    none_of_run p i (suc n) (λ k h. elim (cases_Bool (nat_lt k a)) [
      | inl t ↦ early k h (grind (arith, nat_tests, t))
      | inr f ↦ late k (grind (arith, nat_tests, f))
    ])
filter_run p a (suc c) i (suc n) low high holds early late =
    elim (cases_Bool (i == a)) [
      | inl t ↦
          let here : i ≡ a = grind (arith, nat_tests, t) in
          rw (holds i (omega (arith, low)) (omega (arith, here)), here)
          (ap (λ rest. a ∷ rest) (filter_run p (a + 1) c (a + 1) n (omega arith) (omega (arith, high, here)) (λ k h h'. holds k (omega (arith, h)) (omega (arith, h'))) (λ k h h'. absurd (omega (arith, h, h'))) (λ k h. late k (omega (arith, h)))))
      | inr f ↦
          let before : i < a = grind (arith, nat_tests, f, low) in
          rw (early i (omega arith) before) (filter_run p a (suc c) (i + 1) n (omega (arith, before)) (omega (arith, high)) holds (λ k h h'. early k (omega (arith, h)) h') late)
    ]

-- two runs of the same length, where their numbers give the same
pub map_runs : (f g : ℕ → ℕ) (a b n : ℕ) → ((k : ℕ) → f (a + k) ≡ g (b + k)) → map f (range_with_len a n) ≡ map g (range_with_len b n)
map_runs f g a b zero same = refl
map_runs f g a b (suc n) same =
    let first : f a ≡ g b = let s = same 0 in let x : a + 0 ≡ a = omega arith in let y : b + 0 ≡ b = omega arith in rw (x, y) at s in
    let rest = map_runs f g (a + 1) (b + 1) n (λ k. let s = same (suc k) in let x : a + suc k ≡ a + 1 + k = omega arith in let y : b + suc k ≡ b + 1 + k = omega arith in rw (x, y) at s) in
    cc

-- two tests one after the other, of what numbers give
pub filters_map : {X : Type 0} (p q : ℕ → Bool) (g : X → ℕ) (xs : List X) → filter p (filter q (map g xs)) ≡ map g (filter (λ x. q (g x) && p (g x)) xs)
filters_map p q g [] = refl
filters_map p q g (x ∷ xs) =
    elim (cases_Bool (q (g x))) [
      | inr f ↦ rw f (filters_map p q g xs)
      | inl t ↦ rw t (elim (cases_Bool (p (g x))) [
        | inr f ↦ rw f (filters_map p q g xs)
        | inl u ↦ rw u (ap (λ rest. g x ∷ rest) (filters_map p q g xs))
      ])
    ]
