-- What is told of items grows by one item.
use Rattle.std.proofs.Common.{◌≡◌, ℕ, suc, ◌+◌, ◌≤◌, List, [], ◌∷◌, ◌++◌, length, Option, Some, None, refl, sym, ap, subst, append_assoc, arith}
use Rattle.std.proofs.lemmas.List.{append-nil, length-append}
use Rattle.edition_store.specs.Editions.{EditionData}
use Rattle.edition_build.specs.Plans.{AreSoFar, AreTold, ItemData, day_after}

module _ {O : Type 0} (Tells : Option EditionData → ℕ → ItemData → O → List EditionData → Type 0) where
  -- one more item
  pub so_far_more : (items : List ItemData) (os : List O) (es : List EditionData) (day : EditionData) (item : ItemData) (o : O) (added : List EditionData) (next : EditionData) →
      AreSoFar Tells items os es day → Tells (Some day) (length es) item o added → day_after (Some day) item.source added ≡ Some next →
      AreSoFar Tells (items ++ item ∷ []) (os ++ o ∷ []) (es ++ added) next
  so_far_more items os es day item o added next h t is = λ more ps fs k.
      let behind : AreTold Tells (day_after (Some day) item.source added) (length es + length added) more ps fs =
      subst (λ d. AreTold Tells d (length es + length added) more ps fs) (sym is) (subst (λ n. AreTold Tells (Some next) n more ps fs) (length-append es added) k) in
      let all = h (item ∷ more) (o ∷ ps) (added ++ fs) (added, fs, refl, t, behind) in
      subst (λ l. AreTold Tells None 0 l ((os ++ o ∷ []) ++ ps) ((es ++ added) ++ fs)) (sym (append_assoc items (item ∷ []) more))
      (subst (λ l. AreTold Tells None 0 (items ++ item ∷ more) l ((es ++ added) ++ fs)) (sym (append_assoc os (o ∷ []) ps))
      (subst (λ l. AreTold Tells None 0 (items ++ item ∷ more) (os ++ o ∷ ps) l) (sym (append_assoc es added fs)) all))

  -- no more items
  pub so_far_all : (items : List ItemData) (os : List O) (es : List EditionData) (day : EditionData) → AreSoFar Tells items os es day → AreTold Tells None 0 items os es
  so_far_all items os es day h =
      subst (λ l. AreTold Tells None 0 l os es) (append-nil items)
      (subst (λ l. AreTold Tells None 0 (items ++ []) l es) (append-nil os)
      (subst (λ l. AreTold Tells None 0 (items ++ []) (os ++ []) l) (append-nil es) (h [] [] [] refl)))

  -- the first item, which is published
  pub so_far_first : (item : ItemData) (o : O) (e : EditionData) → Tells None 0 item o (e ∷ []) → day_after None item.source (e ∷ []) ≡ Some e → AreSoFar Tells (item ∷ []) (o ∷ []) (e ∷ []) e
  so_far_first item o e t is = λ more ps fs k. (e ∷ [], fs, refl, t, subst (λ d. AreTold Tells d 1 more ps fs) (sym is) k)

  -- one thing is told of each item
  pub told_count : (day : Option EditionData) (n : ℕ) (items : List ItemData) (os : List O) (es : List EditionData) → AreTold Tells day n items os es → length os ≡ length items
  told_count day n [] [] es h = refl
  told_count day n [] (o ∷ os) es h = absurd h
  told_count day n (item ∷ items) [] es h = absurd h
  told_count day n (item ∷ items) (o ∷ os) es h = ap suc (told_count (day_after day item.source h.0) (n + length h.0) items os h.1 h.4)

  -- where an item adds one edition at most, there are no more of them than items
  pub told_few : ((day : Option EditionData) (n : ℕ) (item : ItemData) (o : O) (es : List EditionData) → Tells day n item o es → length es ≤ 1) →
      (day : Option EditionData) (n : ℕ) (items : List ItemData) (os : List O) (es : List EditionData) → AreTold Tells day n items os es → length es ≤ length items
  told_few few day n [] [] es h = omega (arith, ap (λ (l : List EditionData). length l) h)
  told_few few day n [] (o ∷ os) es h = absurd h
  told_few few day n (item ∷ items) [] es h = absurd h
  told_few few day n (item ∷ items) (o ∷ os) es h =
      let one = few day n item o h.0 h.3 in
      let rest = told_few few (day_after day item.source h.0) (n + length h.0) items os h.1 h.4 in
      let both = length-append h.0 h.1 in
      let all = ap (λ (l : List EditionData). length l) h.2 in
      omega (arith, one, rest, both, all)
