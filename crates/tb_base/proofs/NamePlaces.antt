-- Names that differ, and whether one is among others.
use Rattle.std.proofs.Common.{◌≡◌, ◌≢◌, ◌∙◌, sym, ap, refl, ℕ, zero, suc, ◌+◌, ◌<◌, List, [], ◌∷◌, ◌++◌, length, get_or, map, false, cond, inl, inr, arith, take}
use Rattle.std.specs.Prelude.{bytes_eq, AllPairs}
use Rattle.std.specs.List.{list_any}
use Rattle.std.proofs.lemmas.Bool.{cases_Bool}
use Rattle.std.proofs.lemmas.List.{length-map, get_or-map, map-append, map_more}
use Rattle.tb_base.proofs.Ordered.{AllPairs-tail}
use Rattle.tb_base.proofs.Lists.{list_any-over_map}
use Rattle.std.proofs.lemmas.Slice.Eq.{bytes_eq-Decides}

other_name : (m n : List ℕ) → m ≢ n → bytes_eq m n ≡ false
other_name m n apart =
    elim (cases_Bool (bytes_eq m n)) [
      | inl t ↦ absurd (apart ((bytes_eq-Decides m n).0 t))
      | inr f ↦ f
    ]

-- of names that differ, one isn't among those before it
module _ {X : Type 0} (name : X → List ℕ) where
  pub is_new : (xs : List X) (i : ℕ) (x : X) → AllPairs (λ m n. m ≢ n) (map name xs) → i < length xs → x ≡ get_or xs i x → list_any (bytes_eq (name x)) (map name (take i xs)) ≡ false
  is_new [] i x differ inside at = absurd (omega arith)
  is_new (y ∷ ys) zero x differ inside at = refl
  is_new (y ∷ ys) (suc i) x differ inside at =
      let below : i < length ys = omega arith in
      let there : get_or (map name ys) i [] ≡ name x = get_or-map name ys i x [] below ∙ ap name (sym at) in
      let more : suc i < length (map name (y ∷ ys)) = (let long : length (map name ys) ≡ length ys = length-map ys name in omega arith) in
      let apart : name x ≢ name y = (λ e. differ 0 (suc i) [] (omega arith) more (sym e ∙ sym there)) in
      rw (other_name (name x) (name y) apart) (is_new ys i x (AllPairs-tail (λ m n. m ≢ n) (name y) (map name ys) differ) below at)

  -- the names so far, with one more
  pub name_added : (xs : List X) (i : ℕ) (x : X) (old new : List (List ℕ)) (id : List ℕ) → i < length xs → x ≡ get_or xs i x → id ≡ name x → old ≡ map name (take i xs) → new ≡ old ++ id ∷ [] → new ≡ map name (take (i + 1) xs)
  name_added xs i x old new id inside at is so_far e =
      e ∙ (ap (λ ns. ns ++ id ∷ []) so_far ∙ (ap (λ (n : List ℕ). map name (take i xs) ++ n ∷ []) (is ∙ ap name at) ∙ sym (map_more name xs i x inside)))
