-- Names that differ are found where they stand.
use Rattle.std.proofs.Common.{◌≡◌, ◌∙◌, sym, refl, subst, ℕ, zero, suc, ◌<◌, List, [], ◌∷◌, ◌++◌, ◌||◌, length, map, get_or, Some, Bool, true, false, inl, inr, arith}
use Rattle.std.specs.Prelude.{position, slice_get, nat_lt, bytes_eq, Result, Ok, Err, IfOk, OnErr, if◌then◌else◌}
use Rattle.std.specs.List.{list_any}
use Rattle.std.proofs.lemmas.Bool.{cases_Bool, false≢true}
use Rattle.std.proofs.lemmas.List.{map-append}
use Rattle.std.proofs.lemmas.Bool.Decides.{nat_tests}
use Rattle.std.proofs.lemmas.List.Sums.{position_or_len_is}
use Rattle.std.proofs.lemmas.List.Quantifiers.{all_pairs_push}
use Rattle.std.proofs.lemmas.Option.{get_or_from_slice_get, slice_get_within}
use Rattle.std.proofs.lemmas.Slice.Eq.{bytes_eq-Decides}
use Rattle.tb_base.proofs.Lists.{list_any-over_map}
use Rattle.tb_base.specs.Distinct.{AreDistinct}

split : (a b : Bool) → (a || b) ≡ false → (a ≡ false) × (b ≡ false)
split true b e = absurd (false≢true (sym e))
split false b e = (refl, e)

none_there : {X : Type 0} (p : X → Bool) (xs : List X) → list_any p xs ≡ false → (k : ℕ) (d : X) → k < length xs → p (get_or xs k d) ≡ false
none_there p [] none k d lt = absurd (omega arith)
none_there p (x ∷ xs) none zero d lt = (split (p x) (list_any p xs) none).0
none_there p (x ∷ xs) none (suc k) d lt = none_there p xs (split (p x) (list_any p xs) none).1 k d (omega arith)

-- one name more, which isn't there
more_distinct : (names : List (List ℕ)) (id : List ℕ) → AreDistinct names → list_any (bytes_eq id) names ≡ false → AreDistinct (names ++ id ∷ [])
more_distinct names id h none = all_pairs_push (λ earlier name. bytes_eq name earlier ≡ false) names id h (λ k d lt. none_there (bytes_eq id) names none k d lt)

-- the names after an insertion, seen by what holds them
kept : {V : Type 0} (items : V → List ℕ) (old : List V) (id : V) → AreDistinct (map items old) → AreDistinct (map items (if list_any (λ k. bytes_eq (items id) (items k)) old then old else old ++ id ∷ []))
kept items old id h =
    elim (cases_Bool (list_any (λ k. bytes_eq (items id) (items k)) old)) [
      | inl t ↦ rw t h
      | inr f ↦ rw (f, map-append items old (id ∷ [])) (more_distinct (map items old) (items id) h (list_any-over_map (bytes_eq (items id)) items old ∙ f))
    ]

pub after_insert : {V R E : Type 0} (items : V → List ℕ) (r : Result R E) (old new : List V) (id : V) → AreDistinct (map items old) → IfOk r (λ _. new ≡ (if list_any (λ k. bytes_eq (items id) (items k)) old then old else old ++ id ∷ [])) → OnErr r (new ≡ old)
    → AreDistinct (map items new)
after_insert items (Ok p) old new id h keys err = rw keys (kept items old id h)
after_insert items (Err e) old new id h keys err = rw err h

-- a name that stands at a place is found there
pub found_at : (names : List (List ℕ)) (place : ℕ) (id name : List ℕ) → AreDistinct names → slice_get names place ≡ Some name → bytes_eq id name ≡ true → Some place ≡ position (bytes_eq id) names
found_at names place id name h at same =
    let within : place < length names = slice_get_within names place name at in
    let here : get_or names place [] ≡ name = get_or_from_slice_get names place name [] at in
    let is : id ≡ name = (bytes_eq-Decides id name).0 same in
    let e = position_or_len_is (bytes_eq id) names place [] (omega arith) (λ k lt. subst (λ (n : List ℕ). bytes_eq n (get_or names k []) ≡ false) (here ∙ sym is) (h k place [] lt within)) (λ _. rw here same) in
    let t : nat_lt place (length names) ≡ true = grind (arith, nat_tests, within) in
    rw (e, t) refl
