-- Chains of changes, one after another.
use Rattle.std.proofs.Common.{◌≡◌, ◌≢◌, ◌∙◌, sym, ap, refl, ℕ, ◌+◌, ◌≤◌, ◌==◌, List, [], ◌∷◌, ◌++◌, Option, Some, None, arith, inl, inr}
use Rattle.std.specs.Prelude.{MatchOption, IsSomeAnd, option_map, option_and_then}
use Rattle.std.proofs.lemmas.Bool.{cases_Bool}
use Rattle.std.proofs.lemmas.Bool.Decides.{nat_tests}
use Rattle.tb_base.specs.Walking.{KeepsFootpathLaw, footpath_secs, change_between}
use Rattle.footpaths.specs.Footpaths.{Changes}
use Rattle.tb_base.specs.TimetableData.{FootpathData}
use Rattle.foot_close.specs.Closure.{chain, IsShortest, IsClosure, IsClosed}

pub parts_by : (o u : Option ℕ) (s : ℕ) → option_and_then (λ a. option_map (λ b. a + b) u) o ≡ Some s → (a : ℕ) × (b : ℕ) × (o ≡ Some a) × (u ≡ Some b) × (a + b ≡ s)
parts_by None u s e = cc
parts_by (Some a) None s e = cc
parts_by (Some a) (Some b) s e = (a, b, refl, refl, (let n : a + b ≡ s = cc in n))

pub chain_cons : (given : Changes) (p q : ℕ) (via : List ℕ) (r a b : ℕ) → given p q ≡ Some a → chain given q via r ≡ Some b → chain given p (q ∷ via) r ≡ Some (a + b)
chain_cons given p q via r a b e f = rw (e, f) refl

-- two chains in a row are a chain
pub chain-append : (given : Changes) (p : ℕ) (via : List ℕ) (q : ℕ) (later : List ℕ) (r s t : ℕ) → chain given p via q ≡ Some s → chain given q later r ≡ Some t → chain given p (via ++ q ∷ later) r ≡ Some (s + t)
chain-append given p [] q later r s t e f = chain_cons given p q later r s t e f
chain-append given p (m ∷ via) q later r s t e f =
    let h = parts_by (given p m) (chain given m via q) s e in
    let whole = chain_cons given p m (via ++ q ∷ later) r h.0 (h.1 + t) h.2 (chain-append given m via q later r h.1 t h.3 f) in
    whole ∙ ap (λ n. Some n) (let n : h.0 + (h.1 + t) ≡ s + t = omega (arith, h.4) in n)

least_by : (given : Changes) (p r s : ℕ) (via : List ℕ) (o : Option ℕ) → MatchOption o ((via : List ℕ) → chain given p via r ≡ None) (IsShortest given p r) → chain given p via r ≡ Some s → IsSomeAnd o (λ u. u ≤ s)
least_by given p r s via None h e = absurd (let c : None ≡ Some s = sym (h via) ∙ e in cc)
least_by given p r s via (Some u) h e = h.least via s e

-- what is closed is no longer than two of it in a row
pub closed_triangle : (given closed : Changes) → IsClosure given closed → (p q r s t : ℕ) → closed p q ≡ Some s → closed q r ≡ Some t → IsSomeAnd (closed p r) (λ u. u ≤ s + t)
closed_triangle given closed h p q r s t e f =
    let first : IsShortest given p q s = rw e at (h p q) in
    let second : IsShortest given q r t = rw f at (h q r) in
    least_by given p r (s + t) (first.via ++ q ∷ second.via) (closed p r) (h p r) (chain-append given p first.via q second.via r s t first.attained second.attained)

pub between : (P : FootpathData) (p q : ℕ) (o : Option ℕ) → p ≢ q → footpath_secs P p q ≡ o → change_between P p q ≡ o
between P p q o h e =
    elim (cases_Bool (p == q)) [
      | inl t ↦ absurd (h (grind (arith, nat_tests, t)))
      | inr f ↦ rw f e
    ]

pub closed_keeps : (given closed : FootpathData) → IsClosed given closed → KeepsFootpathLaw closed
closed_keeps given closed h = λ p q r s t away onward e f. closed_triangle (change_between given) (change_between closed) h p q r s t (between closed p q (Some s) away e) (between closed q r (Some t) onward f)

pub same_by : (given : Changes) (p r : ℕ) (a b : Option ℕ) → MatchOption a ((via : List ℕ) → chain given p via r ≡ None) (IsShortest given p r) → MatchOption b ((via : List ℕ) → chain given p via r ≡ None) (IsShortest given p r) → a ≡ b
same_by given p r None None h k = refl
same_by given p r None (Some b) h k = absurd (let c : None ≡ Some b = sym (h k.via) ∙ k.attained in cc)
same_by given p r (Some a) None h k = absurd (let c : None ≡ Some a = sym (k h.via) ∙ h.attained in cc)
same_by given p r (Some a) (Some b) h k = (let e : a ≡ b = omega (arith, h.least k.via b k.attained, k.least h.via a h.attained) in ap (λ n. Some n) e)

pub one_closure : (given one other : Changes) → IsClosure given one → IsClosure given other → (p r : ℕ) → one p r ≡ other p r
one_closure given one other h k p r = same_by given p r (one p r) (other p r) (h p r) (k p r)
