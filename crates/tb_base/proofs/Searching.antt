-- A search in a list that ascends by a number finds what `find` finds.
use Rattle.std.proofs.Common.{◌≡◌, ◌≢◌, ℕ, zero, suc, ◌<◌, ◌≤◌, ◌==◌, ⊎_elim, true, false, cond, List, [], ◌∷◌, length, get_or, Some, None, find, arith, ap, ◌∙◌}
use Rattle.std.specs.Prelude.{AllPairs}
use Rattle.std.specs.List.Sorted.{IsNonDecreasingBy, IsPartitionPoint}
use Rattle.std.specs.Ordering.{nat_cmp, ordering_index}
use Rattle.std.specs.declared.cmp.Ordering.TheVariants.{Less, Equal, Greater}
use Rattle.std.proofs.lemmas.Bool.{cases_lt}
use Rattle.std.proofs.lemmas.Bool.Decides.{nat_tests}
use Rattle.tb_base.proofs.Ordered.{AllPairs-tail}

same_number : (m n : ℕ) → nat_cmp m n ≡ Equal → m ≡ n
same_number m n h = grind (arith, nat_tests, h)

lesser_number : (m n : ℕ) → nat_cmp m n ≡ Less → m ≢ n
lesser_number m n h = grind (arith, nat_tests, h)

greater_number : (m n : ℕ) → nat_cmp m n ≡ Greater → m ≢ n
greater_number m n h = grind (arith, nat_tests, h)

higher : (m n q : ℕ) → m ≤ n → ordering_index (nat_cmp m q) ≤ ordering_index (nat_cmp n q)
higher m n q le = grind (arith, nat_tests, le)

module _ {X : Type 0} (number : X → ℕ) where
  pub found_at : (q : ℕ) (xs : List X) (i : ℕ) (d : X) → AllPairs (λ x y. number x < number y) xs → i < length xs → nat_cmp (number (get_or xs i d)) q ≡ Equal → find (λ x. number x == q) xs ≡ Some (get_or xs i d)
  found_at q [] i d up inside is = absurd (omega arith)
  found_at q (x ∷ xs) zero d up inside is =
      let same : number x ≡ q = same_number (number x) q is in
      let passes : (number x == q) ≡ true = grind (arith, same) in
      ap (λ b. cond b (Some x) (find (λ y. number y == q) xs)) passes
  found_at q (x ∷ xs) (suc i) d up inside is =
      let same : number (get_or xs i d) ≡ q = same_number (number (get_or xs i d)) q is in
      let below : number x < number (get_or xs i d) = up 0 (suc i) d (omega arith) (omega arith) in
      let fails : (number x == q) ≡ false = grind (arith, nat_tests, same, below) in
      ap (λ b. cond b (Some x) (find (λ y. number y == q) xs)) fails ∙ found_at q xs i d (AllPairs-tail (λ y z. number y < number z) x xs up) (omega arith) is

  absent : (q : ℕ) (xs : List X) → ((k : ℕ) (d : X) → k < length xs → number (get_or xs k d) ≢ q) → find (λ x. number x == q) xs ≡ None
  absent q [] other = cc
  absent q (x ∷ xs) other =
      let apart : number x ≢ q = other 0 x (omega arith) in
      let fails : (number x == q) ≡ false = grind (arith, nat_tests, apart) in
      ap (λ b. cond b (Some x) (find (λ y. number y == q) xs)) fails ∙ absent q xs (λ k d h. other (suc k) d (omega arith))

  rising : (q : ℕ) (xs : List X) → AllPairs (λ x y. number x < number y) xs → IsNonDecreasingBy (λ x. ordering_index (nat_cmp (number x) q)) xs
  rising q xs up i j d le inside =
      higher (number (get_or xs i d)) (number (get_or xs j d)) q (⊎_elim (λ (l : i < j). let r : number (get_or xs i d) < number (get_or xs j d) = up i j d l inside in omega arith) (λ (l : j ≤ i). let e : i ≡ j = omega arith in same_place e) (cases_lt i j))
    where
      same_place : i ≡ j → number (get_or xs i d) ≤ number (get_or xs j d)
      same_place e = (let s : number (get_or xs i d) ≡ number (get_or xs j d) = ap (λ k. number (get_or xs k d)) e in omega arith)

  pub not_found : (q : ℕ) (xs : List X) (i : ℕ) → AllPairs (λ x y. number x < number y) xs
      → (IsNonDecreasingBy (λ x. ordering_index (nat_cmp (number x) q)) xs → IsPartitionPoint (λ x. nat_cmp (number x) q ≡ Less) (λ x. nat_cmp (number x) q ≡ Greater) xs i)
      → find (λ x. number x == q) xs ≡ None
  not_found q xs i up parted =
      let parts = parted (rising q xs up) in
      absent q xs (λ k d h. ⊎_elim (λ (l : k < i). lesser_number _ q (parts.0 k d (omega arith) l)) (λ (l : i ≤ k). greater_number _ q (parts.1 k d l h)) (cases_lt k i))
