-- Marks at bytes that are no more than a comma, sixteen bytes at a time.
use Rattle.std.proofs.Common.{◌≡◌, ◌≢◌, ◌∙◌, sym, ap, subst, refl, ℕ, ◌+◌, ◌-◌, ◌%◌, ◌^◌, ◌<◌, ◌≤◌, List, length, get_or, map, replicate, Bool, true, false, cond, leb, arith, w8, w64}
use native.Mathlib.Decide.{dec_lt}
use Rattle.std.specs.Int.{bit_at, trailing_zeros}
use Rattle.std.specs.Simd.Lanes.{zip2, chunk, mask_l, top}
use Rattle.std.proofs.lemmas.Bool.{leb-false}
use Rattle.std.proofs.lemmas.List.{get_or-map, get_or_past, length-map}
use Rattle.std.proofs.lemmas.Nat.Bits.{bit_at-trailing_zeros, bit_at-zero}
use Rattle.std.proofs.lemmas.Simd.{bit_mask_l, bitmask_splat, get_or-chunk, length-chunk}
use Rattle.gtfs_rows.specs.Windows.{AreMarks}

-- one bit a byte, set where it is no more than a comma
abbrev pub marks : List ℕ → ℕ → ℕ
marks text at = mask_l (map (top 7) (zip2 (λ a b. cond (leb a b) 255 0) (chunk at 16 text) (replicate 16 44))) % 2 ^ 64

tells : (x : ℕ) (b : Bool) → leb x 44 ≡ b → cond {A = ℕ} b 1 0 ≡ 0 → 44 < x
tells x true e h = absurd (omega (arith, h))
tells x false e h = leb-false x 44 e

module _ (text : List ℕ) (at : ℕ) (inside : at + 16 ≤ length text) where
  low_bits : (k : ℕ) → bit_at (marks text at) k ≡ cond (get_or (map (λ x. leb x 44) (chunk at 16 text)) k false) 1 0
  low_bits k =
      ap (λ m. bit_at m k) (bitmask_splat w8 leb (chunk at 16 text) 16 44 (length-chunk at 16 text inside) (omega arith))
      ∙ bit_mask_l (map (λ x. leb x 44) (chunk at 16 text)) k

  unmarked_high : (k : ℕ) → k < 16 → bit_at (marks text at) k ≡ 0 → 44 < get_or text (at + k) 0
  unmarked_high k low unset =
      let v = chunk at 16 text in
      let long = length-chunk at 16 text inside in
      let bit : bit_at (marks text at) k ≡ cond (leb (get_or text (at + k) 0) 44) 1 0 =
      low_bits k
      ∙ ap (λ b. cond {A = ℕ} b 1 0) (get_or-map (λ x. leb x 44) v k 0 false (omega (arith, long, low)) ∙ ap (λ x. leb x 44) (get_or-chunk at 16 text k 0 low)) in
      tells (get_or text (at + k) 0) (leb (get_or text (at + k) 0) 44) refl (sym bit ∙ unset)

  unmarked_behind : (k : ℕ) → 16 ≤ k → bit_at (marks text at) k ≡ 0
  unmarked_behind k high =
      let v = chunk at 16 text in
      let long = length-chunk at 16 text inside in
      let all : length (map (λ x. leb x 44) v) ≡ length v = length-map v (λ x. leb x 44) in
      low_bits k ∙ ap (λ b. cond {A = ℕ} b 1 0) (get_or_past (map (λ x. leb x 44) v) k false (omega (arith, all, long, high)))

  pub all_marked : AreMarks text at at (marks text at)
  all_marked = record {
    high = λ k low on unset. unmarked_high k low unset;
    none_before = λ k low before. absurd (omega (arith, before));
    none_behind = λ k high low. unmarked_behind k high;
    fits = omega arith;
  }

-- the first of some marks
module _ (text : List ℕ) (at next m : ℕ) (marked : AreMarks text at next m) (some : m ≢ 0) where
  abbrev t : ℕ
  t = trailing_zeros w64 m

  found : (t < 64) × (bit_at m t ≡ 1) × ((i : ℕ) → i < t → bit_at m i ≡ 0)
  found = bit_at-trailing_zeros w64 m (omega (arith, some)) marked.fits

  pub first_set : bit_at m t ≡ 1
  first_set = found.1

  pub first_inside : t < 16
  first_inside =
      elim (dec_lt t 16) [
        | yes lt ↦ lt
        | no past ↦ absurd (let zero = marked.none_behind t (omega (arith, past)) found.0 in let one = found.1 in omega (arith, zero, one))
      ]

  pub first_on : next ≤ at + t
  first_on =
      elim (dec_lt (at + t) next) [
        | yes lt ↦ absurd (let zero = marked.none_before t found.0 lt in let one = found.1 in omega (arith, zero, one))
        | no past ↦ omega (arith, past)
      ]

  pub high_before : at ≤ next → (k : ℕ) → next ≤ k → k < at + t → 44 < get_or text k 0
  high_before from k low below =
      let e : at + (k - at) ≡ k = omega (arith, from, low) in
      let near : k - at < t = omega (arith, from, low, below) in
      let inside = first_inside in
      subst (λ i. 44 < get_or text i 0) e (marked.high (k - at) (omega (arith, near, inside)) (omega (arith, e, low)) (found.2 (k - at) near))

  -- what is left without it
  pub others_marked : (n : ℕ) → n < m → bit_at n t ≡ 0 → ((k : ℕ) → k < 64 → k ≢ t → bit_at n k ≡ bit_at m k) → AreMarks text at (at + t + 1) n
  others_marked n fewer this others =
      let inside = first_inside in
      let on = first_on in
      let below = marked.fits in
      record {
        high = λ k low past unset. marked.high k low (omega (arith, past, on)) (sym (others k (omega (arith, low)) (λ e. absurd (omega (arith, e, past)))) ∙ unset);
        none_before = λ k low before.
            elim (dec_lt k t) [
              | yes lt ↦ others k low (λ e. absurd (omega (arith, e, lt))) ∙ found.2 k lt
              | no past ↦ let e : t ≡ k = omega (arith, before, past) in subst (λ i. bit_at n i ≡ 0) e this
            ];
        fits = omega (arith, fewer, below);
        none_behind = λ k high low. others k low (λ e. absurd (omega (arith, e, high, inside))) ∙ marked.none_behind k high low;
      }

pub none_left : (text : List ℕ) (at next : ℕ) → AreMarks text at next 0 → at ≤ next → (k : ℕ) → next ≤ k → k < at + 16 → 44 < get_or text k 0
none_left text at next marked from k low below =
    let e : at + (k - at) ≡ k = omega (arith, from, low) in
    subst (λ i. 44 < get_or text i 0) e (marked.high (k - at) (omega (arith, from, low, below)) (omega (arith, e, low)) (bit_at-zero (k - at)))

pub fewer_marks : (m n k : ℕ) → n ≤ m → bit_at n k ≡ 0 → bit_at m k ≡ 1 → n < m
fewer_marks m n k most zero one =
    elim (dec_lt n m) [
      | yes lt ↦ lt
      | no past ↦ absurd (let e : n ≡ m = omega (arith, most, past) in let same : bit_at n k ≡ bit_at m k = ap (λ x. bit_at x k) e in omega (arith, same, zero, one))
    ]
