-- Each kind of step keeps the rule.
use Rattle.std.proofs.Common.{◌≡◌, ℕ, zero, suc, ◌≢◌, ◌⊎◌, List, [], ◌∷◌, ◌++◌, false, set, refl, subst, inl, inr, ⊎_elim}
use Rattle.std.proofs.lemmas.Bool.{false≢true}
use Rattle.crossbeam_utils.specs.Register.{Admits, TurnsAt}
use Rattle.atomic_table.proofs.Lists.{at_set, at_snoc}
use Rattle.history.specs.Lists.{Shown, Extends}
use Rattle.history.proofs.Lists.{extends_self, extends_trans}
use Rattle.edition_store.specs.Rules.{IsFirst, SawLast, IsKept}

module _ {A : Type 0} where
  abbrev pub nothing : Shown A
  nothing = record { list = []; closed = false }

  -- the published list extends each list that was seen
  abbrev pub AllBehind : Shown A → List (Shown A) → Type 0
  AllBehind z views = (seat : ℕ) (v : Shown A) → SawLast views seat v → Extends z v

  pub all_behind : (z : Shown A) (views : List (Shown A)) → IsKept z views → AllBehind z views
  all_behind z views h j v e = (h.begins j v e, h.ends j v e)

  kept_of : (z : Shown A) (views : List (Shown A)) → IsFirst z ⊎ ((seat : ℕ) × SawLast views seat z) → AllBehind z views → IsKept z views
  kept_of z views p h = record { published = p; begins = λ j v e. (h j v e).0; ends = λ j v e. (h j v e).1 }

  extends_nothing : (x : Shown A) → Extends x nothing
  extends_nothing x = (refl, λ c. absurd (false≢true c))

  at_more : (l : List (Shown A)) (a b : Shown A) (j : ℕ) → SawLast l j b → SawLast (l ++ a ∷ []) j b
  at_more [] a b j e = absurd cc
  at_more (x ∷ xs) a b zero e = e
  at_more (x ∷ xs) a b (suc j) e = at_more xs a b j e

  at_same : (l : List (Shown A)) (j : ℕ) (a b : Shown A) → SawLast l j b → SawLast (set l j a) j a
  at_same [] j a b e = absurd cc
  at_same (x ∷ xs) zero a b e = refl
  at_same (x ∷ xs) (suc j) a b e = at_same xs j a b e

  behind_set : (z : Shown A) (views : List (Shown A)) (seat : ℕ) (v : Shown A) → AllBehind z views → Extends z v → AllBehind z (set views seat v)
  behind_set z views seat v h a j u e = ⊎_elim (λ (t : (j ≡ seat) × (v ≡ u)). subst (λ (w : Shown A). Extends z w) t.1 a) (λ (t : (j ≢ seat) × SawLast views j u). h j u t.1) (at_set views seat j v u e)

  behind_snoc : (z : Shown A) (views : List (Shown A)) (v : Shown A) → AllBehind z views → Extends z v → AllBehind z (views ++ v ∷ [])
  behind_snoc z views v h a j u e = ⊎_elim (λ (t : SawLast views j u). h j u t) (λ (t : v ≡ u). subst (λ (w : Shown A). Extends z w) t a) (at_snoc views v u j e)

  -- a new reader has seen nothing
  pub makes : Admits IsKept nothing
  makes x views h = kept_of x (views ++ nothing ∷ [])
      (⊎_elim (λ (f : IsFirst x). inl f) (λ (s : (seat : ℕ) × SawLast views seat x). inr (s.0, at_more views nothing x s.0 s.1)) h.published)
      (behind_snoc x views nothing (all_behind x views h) (extends_nothing x))

  pub starts : (x : Shown A) → IsFirst x → IsKept x (nothing ∷ [])
  starts x f = kept_of x (nothing ∷ []) (inl f) (behind_snoc x [] nothing (λ j u e. absurd cc) (extends_nothing x))

  -- the published list becomes y, which a side sees
  pub turns : (seat : ℕ) (v x y : Shown A) → Extends y x → TurnsAt IsKept seat v x y (λ v x y w. Extends y v × (w ≡ y))
  turns seat v x y up views h at = let old = all_behind x views h in
      let later : AllBehind y views = λ j u e. extends_trans u x y up (old j u e) in
      (y, kept_of y (set views seat y) (inr (seat, at_same views seat y v at)) (behind_set y views seat y later (extends_self y)), (later seat v at, refl))

  pub enters : (seat : ℕ) (v x : Shown A) → TurnsAt IsKept seat v x x (λ v x y w. Extends y v × (w ≡ y))
  enters seat v x = turns seat v x x (extends_self x)
