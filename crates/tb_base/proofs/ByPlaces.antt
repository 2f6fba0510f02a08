-- Rows by their places are the rows that pass a test.
use Rattle.std.proofs.Common.{◌≡◌, ◌∙◌, sym, ap, refl, ℕ, zero, suc, ◌+◌, ◌<◌, ◌≤◌, List, [], ◌∷◌, length, map, take, get_or, Bool, inl, inr, arith}
use Rattle.std.specs.Prelude.{◌==◌, filter, slice_index}
use Rattle.std.proofs.lemmas.Bool.{cases_Bool}
use Rattle.std.proofs.lemmas.List.{take_more, take_all, map-append}
use Rattle.std.proofs.lemmas.List.Elements.{filter-append}
use Rattle.tb_base.specs.KeyPlaces.{places_before, places_of}
use Rattle.tb_base.proofs.OnePlace.{before_more}

one_place : {A : Type 0} (test : A → Bool) (xs : List A) (keys : List ℕ) (k i : ℕ) (d : A) → (slice_index keys i == k) ≡ test (get_or xs i d)
    → map (λ j. get_or xs j d) (filter (λ j. slice_index keys j == k) (i ∷ [])) ≡ filter test (get_or xs i d ∷ [])
one_place test xs keys k i d e =
    elim (cases_Bool (test (get_or xs i d))) [
      | inl t ↦ rw (e, t) refl
      | inr f ↦ rw (e, f) refl
    ]

by_places : {A : Type 0} (test : A → Bool) (xs : List A) (keys : List ℕ) (k n : ℕ) (d : A) → n ≤ length xs → ((i : ℕ) → i < length xs → (slice_index keys i == k) ≡ test (get_or xs i d))
    → map (λ j. get_or xs j d) (places_before keys n k) ≡ filter test (take n xs)
by_places test xs keys k zero d h e = refl
by_places test xs keys k (suc n) d h e =
    let one : n + 1 ≡ suc n = omega arith in
    let more = rw one at (before_more keys n k) in
    let front = rw one at (take_more xs n d (omega arith)) in
    rw (more, front) (
    map-append (λ j. get_or xs j d) (places_before keys n k) (filter (λ j. slice_index keys j == k) (n ∷ []))
    ∙ rw (by_places test xs keys k n d (omega arith) e, one_place test xs keys k n d (e n (omega arith))) refl
    ∙ sym (filter-append test (take n xs) (get_or xs n d ∷ [])))

-- the rows at the places with a key are those that pass the key's test
pub rows_by_places : {A : Type 0} (test : A → Bool) (xs : List A) (keys : List ℕ) (k : ℕ) (d : A) → length keys ≡ length xs → ((i : ℕ) → i < length xs → (slice_index keys i == k) ≡ test (get_or xs i d))
    → map (λ j. get_or xs j d) (places_of keys k) ≡ filter test xs
rows_by_places test xs keys k d l e = rw l (by_places test xs keys k (length xs) d (omega arith) e ∙ ap (filter test) (take_all (length xs) xs (omega arith)))
