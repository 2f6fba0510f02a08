-- The first bad number, where each is good or bad.
use Rattle.std.proofs.Common.{◌≡◌, subst, ℕ, zero, suc, ◌<◌, ◌≤◌, ◌⊎◌, inl, inr, arith}
use Rattle.std.proofs.lemmas.Bool.{cases_lt}

module _ (Good Bad : ℕ → Type 0) (decided : (i : ℕ) → Good i ⊎ Bad i) where
  -- a bad number before which all are good
  abbrev First : Type 0
  First = (i : ℕ) × Bad i × ((j : ℕ) → j < i → Good j)

  by_last : (n : ℕ) → ((i : ℕ) → i < n → Good i) → Good n ⊎ Bad n → ((i : ℕ) → i < suc n → Good i) ⊎ First
  by_last n all (inl good) = inl (λ i below. by_order i below (cases_lt i n))
    where
      by_order : (i : ℕ) → i < suc n → (i < n) ⊎ (n ≤ i) → Good i
      by_order i below (inl less) = all i less
      by_order i below (inr more) = let same : n ≡ i = omega (arith, below, more) in subst Good same good
  by_last n all (inr bad) = inr (n, bad, all)

  one_more : (n : ℕ) → ((i : ℕ) → i < n → Good i) ⊎ First → ((i : ℕ) → i < suc n → Good i) ⊎ First
  one_more n (inl all) = by_last n all (decided n)
  one_more n (inr first) = inr first

  -- the numbers below a bound are good, or there is a first bad one
  first_below : (n : ℕ) → ((i : ℕ) → i < n → Good i) ⊎ First
  first_below zero = inl (λ i below. absurd (omega (arith, below)))
  first_below (suc n) = one_more n (first_below n)

  -- all numbers are good, or there is a first bad one, where those from a bound on are good
  pub first_bad : (n : ℕ) → ((i : ℕ) → n ≤ i → Good i) → ((i : ℕ) → Good i) ⊎ ((i : ℕ) × Bad i × ((j : ℕ) → j < i → Good j))
  first_bad n past = by_first (first_below n)
    where
      by_order : ((i : ℕ) → i < n → Good i) → (i : ℕ) → (i < n) ⊎ (n ≤ i) → Good i
      by_order all i (inl less) = all i less
      by_order all i (inr more) = past i more

      by_first : ((i : ℕ) → i < n → Good i) ⊎ First → ((i : ℕ) → Good i) ⊎ First
      by_first (inl all) = inl (λ i. by_order all i (cases_lt i n))
      by_first (inr first) = inr first
