-- Every run keeps that the list extends all that was told and all that is known.
use Rattle.std.proofs.Common.{◌≡◌, ℕ, List, [], ◌∷◌, ◌++◌, Bool, true, false, eqb, refl, sym, ap, subst, ⊎_elim}
use Rattle.std.specs.Prelude.{if◌then◌else◌}
use Rattle.history.specs.Lists.{Shown, Extends}
use Rattle.edition_store.specs.Lists.{IsIn}
use Rattle.edition_store.specs.Steps.{Step, Publish, Finish, Pin, Learn, Editions, starting, turned, informed, after, May, ends, Runs, list_after, PinsFollow, PinsStay}
use Rattle.history.proofs.Lists.{starts_self, starts_more, extends_self, extends_trans, extends_open}
use Rattle.edition_store.proofs.Lists.{extends_longer}

module _ {A : Type 0} where
  pub record Sound (s : Editions A) : Type 0 where
    pub knows : (j : ℕ) → Extends s.now (s.known j)
    pub tells : (x : Shown A) → IsIn x s.told → Extends s.now x

  pub starts_sound : (first : A) → Sound (starting first)
  starts_sound first = record { knows = λ j. extends_self _; tells = λ x i. absurd i }

  turned_sound : (s : Editions A) (y : Shown A) → Sound s → Extends y s.now → Sound (turned s y)
  turned_sound s y h e = record {
    knows = λ j. extends_trans (s.known j) s.now y e (h.knows j);
    tells = λ x i. ⊎_elim (λ (same : x ≡ y). subst (λ (z : Shown A). Extends y z) (sym same) (extends_self y)) (λ (old : IsIn x s.told). extends_trans x s.now y e (h.tells x old)) i;
  }

  picked : (z y x : Shown A) (b : Bool) → Extends z y → Extends z x → Extends z (if b then y else x)
  picked z y x true h i = h
  picked z y x false h i = i

  informed_sound : (s : Editions A) (j : ℕ) (y : Shown A) → Sound s → Extends s.now y → Sound (informed s j y)
  informed_sound s j y h e = record { knows = λ i. picked s.now y (s.known i) (eqb i j) e (h.knows i); tells = h.tells }

  pub step_extends : (s : Editions A) (x : Step A) → May s x → Extends (after s x).now s.now
  step_extends s (Publish e) o = extends_open s.now _ o (starts_more s.now.list (e ∷ []))
  step_extends s Finish o = extends_open _ _ o (starts_self _)
  step_extends s (Pin j) m = extends_self _
  step_extends s (Learn j x) m = extends_self _

  pub step_sound : (s : Editions A) (x : Step A) → May s x → Sound s → Sound (after s x)
  step_sound s (Publish e) m h = turned_sound s _ h (step_extends s (Publish e) m)
  step_sound s Finish m h = turned_sound s _ h (step_extends s Finish m)
  step_sound s (Pin j) m h = informed_sound s j _ h (extends_self _)
  step_sound s (Learn j x) m h = informed_sound s j _ h (extends_longer s.now (s.known j) x (h.knows j) (h.tells x m))

  pub runs_sound : (s : Editions A) (xs : List (Step A)) → Runs s xs → Sound s → Sound (ends s xs)
  runs_sound s [] r h = h
  runs_sound s (x ∷ xs) r h = runs_sound (after s x) xs r.1 (step_sound s x r.0 h)

  pub runs_extend : (s : Editions A) (xs : List (Step A)) → Runs s xs → Extends (ends s xs).now s.now
  runs_extend s [] r = extends_self _
  runs_extend s (x ∷ xs) r = extends_trans s.now (after s x).now (ends (after s x) xs).now (runs_extend (after s x) xs r.1) (step_extends s x r.0)

  pub runs_first : (s : Editions A) (xs ys : List (Step A)) → Runs s (xs ++ ys) → Runs s xs
  runs_first s [] ys r = tt
  runs_first s (x ∷ xs) ys r = (r.0, runs_first (after s x) xs ys r.1)

  pub runs_rest : (s : Editions A) (xs ys : List (Step A)) → Runs s (xs ++ ys) → Runs (ends s xs) ys
  runs_rest s [] ys r = r
  runs_rest s (x ∷ xs) ys r = runs_rest (after s x) xs ys r.1

  pub ends_append : (s : Editions A) (xs ys : List (Step A)) → ends s (xs ++ ys) ≡ ends (ends s xs) ys
  ends_append s [] ys = refl
  ends_append s (x ∷ xs) ys = ends_append (after s x) xs ys

  pub pins_follow : (first : A) → PinsFollow first
  pins_follow first xs ys zs j r = let s = starting first in let m = ends s xs in
      let r1 : Runs m (ys ++ Pin j ∷ zs) = runs_rest s xs (ys ++ Pin j ∷ zs) r in
      let h : Sound m = runs_sound s xs (runs_first s xs (ys ++ Pin j ∷ zs) r) (starts_sound first) in
      let a : Extends (ends m ys).now m.now = runs_extend m ys (runs_first m ys (Pin j ∷ zs) r1) in
      let p : list_after first (xs ++ ys) ≡ (ends m ys).now = ap (λ (t : Editions A). t.now) (ends_append s xs ys) in
      subst (λ (z : Shown A). Extends z (m.known j)) (sym p) (extends_trans (m.known j) m.now (ends m ys).now a (h.knows j))

  pub pins_stay : (first : A) → PinsStay first
  pins_stay first xs zs j r = let s = starting first in let m = ends s xs in
      let b : Extends (ends m (Pin j ∷ zs)).now m.now = runs_extend m (Pin j ∷ zs) (runs_rest s xs (Pin j ∷ zs) r) in
      let q : list_after first (xs ++ Pin j ∷ zs) ≡ (ends m (Pin j ∷ zs)).now = ap (λ (t : Editions A). t.now) (ends_append s xs (Pin j ∷ zs)) in
      subst (λ (z : Shown A). Extends z m.now) (sym q) b
