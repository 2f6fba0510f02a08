-- Rows in order of their sequence numbers.
use Rattle.std.proofs.Common.{◌≡◌, ◌≢◌, refl, ◌⊎◌, inl, inr, ℕ, zero, suc, ◌<◌, ◌≤◌, List, [], ◌∷◌, length, get_or, Bool, true, false, subst, sym, arith}
use Rattle.std.specs.Prelude.{AllPairs, nat_lt, if◌then◌else◌, ⊤}
use Rattle.std.proofs.lemmas.Bool.{cases_Bool}
use Rattle.std.proofs.lemmas.Bool.Decides.{nat_tests}
use Rattle.tb_base.proofs.Ordered.{Member, Contains-from_Member, AllPairs-head, AllPairs-tail, same_members}
use Rattle.service_trips.specs.declared.stop_time.StopTime.{StopTime}
use Rattle.service_trips.specs.StopTimes.{placed, in_sequence}

-- each row's number is less than those of the rows after it
abbrev Ascends : List StopTime → Type 0
Ascends [] = ⊤
Ascends (r ∷ rest) = ((s : StopTime) → Member s rest → r.sequence < s.sequence) × Ascends rest

-- no two rows have one number
abbrev Differ : List StopTime → Type 0
Differ [] = ⊤
Differ (r ∷ rest) = ((s : StopTime) → Member s rest → s.sequence ≢ r.sequence) × Differ rest

placed_old : (r x : StopTime) (xs : List StopTime) → Member x (placed r xs) → (r ≡ x) ⊎ Member x xs
placed_old r x [] h = h
placed_old r x (s ∷ rest) h =
    elim (cases_Bool (nat_lt s.sequence r.sequence)) [
      | inl t ↦
          let k : Member x (s ∷ placed r rest) = rw t at h in
          elim k [
            | inl e ↦ inr (inl e)
            | inr m ↦ elim (placed_old r x rest m) [ inl e ↦ inl e | inr n ↦ inr (inr n) ]
          ]
      | inr f ↦ let k : Member x (r ∷ s ∷ rest) = rw f at h in k
    ]

placed_new : (r x : StopTime) (xs : List StopTime) → (r ≡ x) ⊎ Member x xs → Member x (placed r xs)
placed_new r x [] h = h
placed_new r x (s ∷ rest) h =
    elim (cases_Bool (nat_lt s.sequence r.sequence)) [
      | inl t ↦
          let k : Member x (s ∷ placed r rest) =
          elim h [
            | inl e ↦ inr (placed_new r x rest (inl e))
            | inr m ↦ elim m [ inl e ↦ inl e | inr n ↦ inr (placed_new r x rest (inr n)) ]
          ] in rw t k
      | inr f ↦ rw f h
    ]

placed_ascends : (r : StopTime) (xs : List StopTime) → ((s : StopTime) → Member s xs → s.sequence ≢ r.sequence) → Ascends xs → Ascends (placed r xs)
placed_ascends r [] d h = (λ s m. absurd m, tt)
placed_ascends r (s ∷ rest) d h =
    elim (cases_Bool (nat_lt s.sequence r.sequence)) [
      | inl t ↦
          let lt : s.sequence < r.sequence = grind (arith, nat_tests, t) in
          let k : Ascends (s ∷ placed r rest) = (
            λ x m. elim (placed_old r x rest m) [
              | inl e ↦ let P : StopTime → Type 0 = λ y. s.sequence < y.sequence in subst P e lt
              | inr n ↦ h.0 x n
            ],
            placed_ascends r rest (λ x m. d x (inr m)) h.1,
          ) in rw t k
      | inr f ↦
          let ge : r.sequence ≤ s.sequence = grind (arith, nat_tests, f) in
          let ne = d s (inl refl) in
          let lt : r.sequence < s.sequence = omega (arith, ge, ne) in
          let k : Ascends (r ∷ s ∷ rest) = (
            λ x m. elim m [
              | inl e ↦ let P : StopTime → Type 0 = λ y. r.sequence < y.sequence in subst P e lt
              | inr n ↦ let b = h.0 x n in omega (arith, lt, b)
            ],
            h,
          ) in rw f k
    ]

pub in_sequence_old : (x : StopTime) (rows : List StopTime) → Member x (in_sequence rows) → Member x rows
in_sequence_old x [] h = h
in_sequence_old x (r ∷ rest) h = elim (placed_old r x (in_sequence rest) h) [ inl e ↦ inl e | inr m ↦ inr (in_sequence_old x rest m) ]

in_sequence_new : (x : StopTime) (rows : List StopTime) → Member x rows → Member x (in_sequence rows)
in_sequence_new x [] h = h
in_sequence_new x (r ∷ rest) h = placed_new r x (in_sequence rest) (elim h [ inl e ↦ inl e | inr m ↦ inr (in_sequence_new x rest m) ])

in_sequence_ascends : (rows : List StopTime) → Differ rows → Ascends (in_sequence rows)
in_sequence_ascends [] d = tt
in_sequence_ascends (r ∷ rest) d = placed_ascends r (in_sequence rest) (λ s m. d.0 s (in_sequence_old s rest m)) (in_sequence_ascends rest d.1)

pub member_at : (xs : List StopTime) (j : ℕ) (d : StopTime) → j < length xs → Member (get_or xs j d) xs
member_at [] j d h = absurd (omega arith)
member_at (x ∷ xs) zero d h = inl refl
member_at (x ∷ xs) (suc j) d h = inr (member_at xs j d (omega arith))

pairs : (xs : List StopTime) → Ascends xs → AllPairs (λ r s. StopTime.sequence r < StopTime.sequence s) xs
pairs [] a i j d h k = absurd (omega arith)
pairs (x ∷ xs) a zero zero d h k = absurd (omega arith)
pairs (x ∷ xs) a zero (suc j) d h k = a.0 (get_or xs j d) (member_at xs j d (omega arith))
pairs (x ∷ xs) a (suc i) zero d h k = absurd (omega arith)
pairs (x ∷ xs) a (suc i) (suc j) d h k = pairs xs a.1 i j d (omega arith) (omega arith)

differ_from_pairs : (rows : List StopTime) → AllPairs (λ r s. StopTime.sequence r ≢ StopTime.sequence s) rows → Differ rows
differ_from_pairs [] h = tt
differ_from_pairs (r ∷ rest) h = (
  λ s m e. AllPairs-head (λ r s. StopTime.sequence r ≢ StopTime.sequence s) r rest h s (Contains-from_Member s rest m) (sym e),
  differ_from_pairs rest (AllPairs-tail (λ r s. StopTime.sequence r ≢ StopTime.sequence s) r rest h),
)

-- rows of different numbers, put in order, are the one list in that order with the same members
pub in_sequence_is : (rows ordered : List StopTime) → AllPairs (λ r s. StopTime.sequence r ≢ StopTime.sequence s) rows → AllPairs (λ r s. StopTime.sequence r < StopTime.sequence s) ordered
    → ((x : StopTime) → Member x ordered → Member x rows) → ((x : StopTime) → Member x rows → Member x ordered) → ordered ≡ in_sequence rows
in_sequence_is rows ordered h up f g =
    let d = differ_from_pairs rows h in
    same_members (λ r s. StopTime.sequence r < StopTime.sequence s) (λ x y p q. omega (arith, p, q)) ordered (in_sequence rows) up (pairs (in_sequence rows) (in_sequence_ascends rows d))
    (λ x m. in_sequence_new x rows (f x m)) (λ x m. g x (in_sequence_old x rows m))
