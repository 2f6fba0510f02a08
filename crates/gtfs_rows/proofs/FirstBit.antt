-- A number without its lowest 1.
use Rattle.std.proofs.Common.{◌≡◌, ◌≢◌, ◌∙◌, sym, ap, ℕ, zero, suc, ◌-◌, ◌/◌, ◌^◌, ◌<◌, arith, w64}
use native.Mathlib.Decide.{dec_lt}
use Rattle.std.specs.Int.{bit_at, trailing_zeros}
use Rattle.std.specs.Int.Bits.{bit_and}
use Rattle.std.proofs.lemmas.Nat.Bits.{bit_at_lowest, bit_at-suc, bit_at_and, bit_at-trailing_zeros}

half_odd : (n : ℕ) → bit_at n 0 ≡ 1 → (n - 1) / 2 ≡ n / 2
half_odd n set = omega (arith, bit_at_lowest n, set)

half_even : (n : ℕ) → bit_at n 0 ≡ 0 → (n - 1) / 2 ≡ n / 2 - 1
half_even n unset = omega (arith, bit_at_lowest n, unset)

-- one less has no bit where the lowest 1 is, and the same bits above it
lesser_at : (k n : ℕ) → bit_at n k ≡ 1 → ((i : ℕ) → i < k → bit_at n i ≡ 0) → bit_at (n - 1) k ≡ 0
lesser_at zero n set low = omega (arith, bit_at_lowest (n - 1), bit_at_lowest n, set)
lesser_at (suc k) n set low =
    bit_at-suc (n - 1) k ∙ ap (λ x. bit_at x k) (half_even n (low 0 (omega arith)))
    ∙ lesser_at k (n / 2) (sym (bit_at-suc n k) ∙ set) (λ i l. sym (bit_at-suc n i) ∙ low (suc i) (omega (arith, l)))

lesser_above : (k n : ℕ) → bit_at n k ≡ 1 → ((i : ℕ) → i < k → bit_at n i ≡ 0) → (i : ℕ) → k < i → bit_at (n - 1) i ≡ bit_at n i
lesser_above k n set low zero l = absurd (omega (arith, l))
lesser_above zero n set low (suc i) l =
    bit_at-suc (n - 1) i ∙ ap (λ x. bit_at x i) (half_odd n set) ∙ sym (bit_at-suc n i)
lesser_above (suc k) n set low (suc i) l =
    bit_at-suc (n - 1) i ∙ ap (λ x. bit_at x i) (half_even n (low 0 (omega arith)))
    ∙ lesser_above k (n / 2) (sym (bit_at-suc n k) ∙ set) (λ j m. sym (bit_at-suc n j) ∙ low (suc j) (omega (arith, m))) i (omega (arith, l))
    ∙ sym (bit_at-suc n i)

module _ (n : ℕ) (some : n ≢ 0) (fits : n < 2 ^ 64) where
  abbrev t : ℕ
  t = trailing_zeros w64 n

  first : (t < 64) × (bit_at n t ≡ 1) × ((i : ℕ) → i < t → bit_at n i ≡ 0)
  first = bit_at-trailing_zeros w64 n (omega (arith, some)) fits

  pub first_set : bit_at n t ≡ 1
  first_set = first.1

  pub first_cleared : bit_at (bit_and n (n - 1)) t ≡ 0
  first_cleared = let zero_there = lesser_at t n first.1 first.2 in omega (arith, bit_at_and n (n - 1) t, zero_there)

  pub others_kept : (k : ℕ) → k ≢ t → bit_at (bit_and n (n - 1)) k ≡ bit_at n k
  others_kept k other =
      elim (dec_lt k t) [
        | yes lt ↦ let unset = first.2 k lt in omega (arith, bit_at_and n (n - 1) k, unset)
        | no past ↦ let same = lesser_above t n first.1 first.2 k (omega (arith, past, other)) in omega (arith, bit_at_and n (n - 1) k, same)
      ]
