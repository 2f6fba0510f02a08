-- One place more.
use Rattle.std.proofs.Common.{◌≡◌, ◌≢◌, ◌∙◌, sym, ap, refl, ℕ, zero, suc, ◌+◌, ◌<◌, List, [], ◌∷◌, ◌++◌, length, get_or, set, true, false, inl, inr, arith}
use Rattle.std.specs.Prelude.{◌==◌, filter, slice_index}
use Rattle.std.specs.List.{range_with_len}
use Rattle.std.proofs.lemmas.Bool.{cases_Bool}
use Rattle.std.proofs.lemmas.Bool.Decides.{nat_tests}
use Rattle.std.proofs.lemmas.List.{get_or-set_same, get_or-set_other, append-nil}
use Rattle.std.proofs.lemmas.List.Elements.{filter-append}
use Rattle.tb_base.proofs.Lists.{range_more}
use Rattle.tb_base.specs.KeyPlaces.{places_before}

pub before_more : (keys : List ℕ) (i key : ℕ) → places_before keys (i + 1) key ≡ places_before keys i key ++ filter (λ j. slice_index keys j == key) (i ∷ [])
before_more keys i key =
    let e : i + 1 ≡ suc i = omega arith in
    let z : 0 + i ≡ i = omega arith in
    ap (λ (n : ℕ). places_before keys n key) e
    ∙ ap (filter (λ j. slice_index keys j == key)) (range_more 0 i ∙ ap (λ (k : ℕ). range_with_len 0 i ++ k ∷ []) z)
    ∙ filter-append (λ j. slice_index keys j == key) (range_with_len 0 i) (i ∷ [])

pub place_added : (keys : List ℕ) (old new : List (List ℕ)) (i key count : ℕ) → slice_index keys i < count → length old ≡ count
    → new ≡ set old (slice_index keys i) (get_or old (slice_index keys i) [] ++ i ∷ []) → ((k : ℕ) → k < count → get_or old k [] ≡ places_before keys i k) → key < count
    → get_or new key [] ≡ places_before keys (i + 1) key
place_added keys old new i key count low many e h k =
    elim (cases_Bool (slice_index keys i == key)) [
      | inl t ↦
          let same : slice_index keys i ≡ key = grind (arith, nat_tests, t) in
          let here : get_or new key [] ≡ get_or old key [] ++ i ∷ [] = rw (e, same) (get_or-set_same old key (get_or old key [] ++ i ∷ []) [] (omega arith)) in
          rw (here, h key k, before_more keys i key, t) refl
      | inr f ↦
          let other : key ≢ slice_index keys i = λ s. absurd (let t : (slice_index keys i == key) ≡ true = grind (arith, nat_tests, s) in let c : false ≡ true = sym f ∙ t in cc) in
          let here : get_or new key [] ≡ get_or old key [] = rw e (get_or-set_other old (slice_index keys i) key _ [] other) in
          rw (here, h key k, before_more keys i key, f) (sym (append-nil (places_before keys i key)))
    ]
