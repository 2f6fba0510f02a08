-- Lines that pass a test, one line more; and rows that are sorted.
use Rattle.std.proofs.Common.{◌≡◌, ◌∙◌, sym, ap, ℕ, ◌+◌, ◌<◌, Bool, true, false, cond, List, [], ◌∷◌, ◌++◌, filter, length, map, get_or, take, arith}
use Rattle.std.specs.List.{concat}
use Rattle.std.specs.List.Sorted.{IsSortedBy}
use Rattle.std.proofs.lemmas.List.{append_assoc, append-nil, get_or-map, length-map}
use Rattle.std.proofs.lemmas.List.Elements.{filter_more}

module _ (q : List ℕ → Bool) (lines : List (List ℕ)) (l : ℕ) (line : List ℕ) (inside : l < length lines) (is : line ≡ get_or lines l []) where
  pub passes_more : q line ≡ true → filter q (take (l + 1) lines) ≡ filter q (take l lines) ++ line ∷ []
  passes_more e =
      filter_more q lines l [] inside ∙ ap (λ (x : List ℕ). filter q (take l lines) ++ cond (q x) (x ∷ []) []) (sym is)
      ∙ ap (λ b. filter q (take l lines) ++ cond b (line ∷ []) []) e

  pub fails_more : q line ≡ false → filter q (take (l + 1) lines) ≡ filter q (take l lines)
  fails_more e =
      filter_more q lines l [] inside ∙ ap (λ (x : List ℕ). filter q (take l lines) ++ cond (q x) (x ∷ []) []) (sym is)
      ∙ ap (λ b. filter q (take l lines) ++ cond b (line ∷ []) []) e ∙ append-nil (filter q (take l lines))

concat_more : (lines : List (List ℕ)) (line : List ℕ) → concat (lines ++ line ∷ []) ≡ concat lines ++ line
concat_more [] line = append-nil line
concat_more (l ∷ ls) line = ap (λ (ts : List ℕ). l ++ ts) (concat_more ls line) ∙ sym (append_assoc l (concat ls) line)

pub trips_more : (q : List ℕ → Bool) (lines : List (List ℕ)) (l : ℕ) (line : List ℕ) → l < length lines → line ≡ get_or lines l [] → q line ≡ true → concat (filter q (take (l + 1) lines)) ≡ concat (filter q (take l lines)) ++ line
trips_more q lines l line inside is e = ap concat (passes_more q lines l line inside is e) ∙ concat_more (filter q (take l lines)) line

pub sorted_map : {X Y : Type 0} (R : Y → Y → Bool) (f : X → Y) (xs : List X) → IsSortedBy (λ x y. R (f x) (f y)) xs → IsSortedBy R (map f xs)
sorted_map R f [] up k d low below = absurd (omega (arith, below))
sorted_map R f (x ∷ xs) up k d low below =
    let next : k + 1 < length (x ∷ xs) = omega (arith, below, length-map (x ∷ xs) f) in
    let here : k < length (x ∷ xs) = omega (arith, next) in
    (λ i. R (get_or-map f (x ∷ xs) (k + 1) x d next i) (get_or-map f (x ∷ xs) k x d here i)) ∙ up k x low next
