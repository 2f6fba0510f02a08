-- Offers along footpaths, walks and changes.
use Rattle.std.proofs.Common.{◌≡◌, ℕ, ◌<◌, ◌==◌, ◌⊎◌, inl, inr, List, length, get_or, Bool, true, false, cond, refl, sym, ap, subst, ◌∙◌, arith, Option, Some, ℤ, pos, ◌+ℤ◌}
use Rattle.std.specs.Prelude.{slice_get, IsSomeAnd}
use Rattle.std.proofs.lemmas.Int.{ints}
use Rattle.std.proofs.lemmas.Bool.{cases_eq}
use Rattle.tb_base.specs.declared.table.Path.{Path}
use Rattle.tb_base.specs.TimetableData.{TimetableData}
use Rattle.tb_base.specs.Walking.{footpath_secs, change_time, walk, change}
use Rattle.tb_base.specs.Soundness.{IsSound}
use Rattle.tb_laws.proofs.CandidateLaws.{some_and, and_some}
use Rattle.plain_rounds.specs.declared.labels.StopLabel.{StopLabel}
use Rattle.plain_rounds.specs.Labels.{Takes, later}
use Rattle.plain_rounds.proofs.FootpathLemmas.{no_path, footpath_of, footpath_among, no_own_footpath}
use Rattle.plain_rounds.proofs.TakesLemmas.{Takes-same, Takes-then}

-- to be offered by a walk or change of so many seconds
abbrev pub IsOfferedIn : Option ℕ → StopLabel → StopLabel → Type 0
IsOfferedIn secs m l = IsSomeAnd secs (λ s. l ≡ later m s)

offered_in : (o : Option ℕ) (m l : StopLabel) (s : ℕ) → o ≡ Some s → l ≡ later m s → IsOfferedIn o m l
offered_in o m l s e h = and_some (λ s. l ≡ later m s) o s e h

module _ (T : TimetableData) (sound : IsSound T) (p : ℕ) (inside : p < length T.stops) (m : StopLabel) (xs ys : List (Option StopLabel)) where
  -- all footpaths of a stop in turn
  pub by_footpaths : (row : List Path) → slice_get T.footpaths.paths p ≡ Some row → (i : ℕ) → i ≡ length row →
      Takes xs ys (λ q x. (k : ℕ) × (k < i) × ((q ≡ (get_or row k no_path).to) × (x ≡ later m (get_or row k no_path).secs))) →
      Takes xs ys (λ q x. IsOfferedIn (footpath_secs T.footpaths p q) m x)
  by_footpaths row is i all t = Takes-same xs ys (λ q x. (k : ℕ) × (k < i) × ((q ≡ (get_or row k no_path).to) × (x ≡ later m (get_or row k no_path).secs))) (λ q x. IsOfferedIn (footpath_secs T.footpaths p q) m x)
      (λ q x h. onto q x h.0 (omega (arith, all, h.1)) h.2.0 h.2.1)
      (λ q x h. let s = some_and (λ s. x ≡ later m s) (footpath_secs T.footpaths p q) h in
      let k = footpath_among T sound p inside row is q s.0 s.1 in
      (k.0, omega (arith, all, k.1), (sym (k.2 no_path).0, subst (λ n. x ≡ later m n) (sym (k.2 no_path).1) s.2)))
      t
    where
      onto : (q : ℕ) (x : StopLabel) (k : ℕ) → k < length row → q ≡ (get_or row k no_path).to → x ≡ later m (get_or row k no_path).secs → IsOfferedIn (footpath_secs T.footpaths p q) m x
      onto q x k below to is_later = offered_in (footpath_secs T.footpaths p q) m x (get_or row k no_path).secs (subst (λ r. footpath_secs T.footpaths p r ≡ Some (get_or row k no_path).secs) (sym to) (footpath_of T sound p inside row is k no_path below)) is_later

  module _ (zs : List (Option StopLabel)) (own : Option ℕ) (secs_to : ℕ → Option ℕ) (here : secs_to p ≡ own) (there : (q : ℕ) → (q ≡ p → ⊥) → secs_to q ≡ footpath_secs T.footpaths p q) where
    -- the stop itself, and then its footpaths
    pub own_and_footpaths : Takes xs ys (λ q x. (q ≡ p) × IsOfferedIn own m x) → Takes ys zs (λ q x. IsOfferedIn (footpath_secs T.footpaths p q) m x) → Takes xs zs (λ q x. IsOfferedIn (secs_to q) m x)
    own_and_footpaths t u = Takes-same xs zs (λ q x. ((q ≡ p) × IsOfferedIn own m x) ⊎ IsOfferedIn (footpath_secs T.footpaths p q) m x) (λ q x. IsOfferedIn (secs_to q) m x)
        (λ q x h. onto q x h) (λ q x h. back q x h (cases_eq q p))
        (Takes-then xs ys zs (λ q x. (q ≡ p) × IsOfferedIn own m x) (λ q x. IsOfferedIn (footpath_secs T.footpaths p q) m x) t u)
      where
        onto : (q : ℕ) (x : StopLabel) → ((q ≡ p) × IsOfferedIn own m x) ⊎ IsOfferedIn (footpath_secs T.footpaths p q) m x → IsOfferedIn (secs_to q) m x
        onto q x (inl h) = subst (λ o. IsOfferedIn o m x) (sym (ap secs_to h.0 ∙ here)) h.1
        onto q x (inr h) =
            let s = some_and (λ s. x ≡ later m s) (footpath_secs T.footpaths p q) h in
            subst (λ o. IsOfferedIn o m x) (sym (there q (λ e. no_own_footpath T sound p inside s.0 (subst (λ r. footpath_secs T.footpaths p r ≡ Some s.0) e s.1)))) h

        back : (q : ℕ) (x : StopLabel) → IsOfferedIn (secs_to q) m x → (q ≡ p) ⊎ (q ≡ p → ⊥) → ((q ≡ p) × IsOfferedIn own m x) ⊎ IsOfferedIn (footpath_secs T.footpaths p q) m x
        back q x h (inl e) = inl (e, subst (λ o. IsOfferedIn o m x) (ap secs_to e ∙ here) h)
        back q x h (inr far) = inr (subst (λ o. IsOfferedIn o m x) (there q far) h)

-- walks and changes within a stop, and to others
pub walk-own : (T : TimetableData) (p : ℕ) → walk T p p ≡ Some 0
walk-own T p = by_test (p == p) (same p)
  where
    same : (a : ℕ) → (a == a) ≡ true
    same a = grind arith

    by_test : (b : Bool) → b ≡ true → cond b (Some 0) (footpath_secs T.footpaths p p) ≡ Some 0
    by_test true e = refl
    by_test false e = cc

differ : (p q : ℕ) → (q ≡ p → ⊥) → (p == q) ≡ false
differ p q far = grind arith

by_test : (b : Bool) (x y : Option ℕ) → b ≡ false → cond b x y ≡ y
by_test false x y e = refl
by_test true x y e = cc

pub walk-other : (T : TimetableData) (p q : ℕ) → (q ≡ p → ⊥) → walk T p q ≡ footpath_secs T.footpaths p q
walk-other T p q far = by_test (p == q) (Some 0) (footpath_secs T.footpaths p q) (differ p q far)

pub change-other : (T : TimetableData) (p q : ℕ) → (q ≡ p → ⊥) → change T p q ≡ footpath_secs T.footpaths p q
change-other T p q far = by_test (p == q) (change_time T.footpaths p) (footpath_secs T.footpaths p q) (differ p q far)

pub later-zero : (m l : StopLabel) → l ≡ m → l ≡ later m 0
later-zero m l e = subst (λ x. x ≡ later m 0) (sym e) (same m.time (m.time +ℤ pos 0) m.ride (zero_more m.time))
  where
    zero_more : (a : ℤ) → a ≡ (a +ℤ pos 0)
    zero_more a = omega (arith, ints)

    same : (a b : ℤ) (r : Option ℕ) → a ≡ b → ◌≡◌ {A = StopLabel} (record { time = a; ride = r }) (record { time = b; ride = r })
    same a b r e = cc

pub zero-later : (m l : StopLabel) → l ≡ later m 0 → l ≡ m
zero-later m l e = e ∙ sym (later-zero m m refl)
