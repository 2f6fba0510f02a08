-- Breaches of the law on footpaths, footpath by footpath.
use Rattle.std.proofs.Common.{◌≡◌, ◌≢◌, ◌∙◌, sym, ap, subst, refl, ℕ, suc, ◌+◌, ◌<◌, ◌≤◌, ◌==◌, List, [], ◌∷◌, length, get_or, find, Some, None, arith, inl, inr}
use Rattle.std.specs.Prelude.{AllPairs, IsSomeAnd, Option}
use Rattle.std.specs.Option.{option_map}
use Rattle.std.specs.Ordering.{nat_cmp}
use Rattle.std.specs.declared.cmp.Ordering.TheVariants.{Equal}
use Rattle.std.proofs.lemmas.Bool.{cases_Bool, cases_lt}
use Rattle.std.proofs.lemmas.Bool.Decides.{nat_tests}
use Rattle.std.proofs.lemmas.List.{get_or_past}
use Rattle.tb_base.specs.declared.table.Path.{Path}
use Rattle.tb_base.proofs.Searching.{found_at}
use Rattle.tb_base.specs.TimetableData.{FootpathData}
use Rattle.footpaths.specs.Law.{AreInARow, IsGood}
use Rattle.tb_base.specs.Walking.{footpath_secs, change_between}

abbrev no_path : Path
no_path = record { to = 0; secs = 0 }

-- a footpath that is found stands at a place
found_index : (row : List Path) (q t : ℕ) → option_map (λ (f : Path). f.secs) (find (λ (f : Path). f.to == q) row) ≡ Some t → (j : ℕ) × (j < length row) × ((d : Path) → Path.to (get_or row j d) ≡ q)
found_index [] q t e = cc
found_index (f ∷ fs) q t e =
    elim (cases_Bool (f.to == q)) [
      | inl y ↦ (0, omega arith, λ d. grind (arith, nat_tests, y))
      | inr n ↦ (let m = found_index fs q t (rw n at e) in (suc m.0, omega (arith, m.1), m.2))
    ]

-- a footpath at a place is found
pub at_row : (row : List Path) (i : ℕ) (f : Path) → AllPairs (λ (f g : Path). f.to < g.to) row → i < length row → f ≡ get_or row i f → option_map (λ (f : Path). f.secs) (find (λ (g : Path). g.to == f.to) row) ≡ Some f.secs
at_row row i f up h at =
    let same : Path.to (get_or row i f) ≡ f.to = ap (λ (g : Path). g.to) (sym at) in
    let equal : nat_cmp (Path.to (get_or row i f)) f.to ≡ Equal = grind (arith, nat_tests, same) in
    ap (option_map (λ (f : Path). f.secs)) (found_at (λ (g : Path). g.to) f.to row i f up h equal) ∙ ap (λ (g : Path). Some g.secs) (sym at)

-- what leads to a lesser stop stands before
before_at : (row : List Path) (i j : ℕ) (f : Path) → AllPairs (λ (f g : Path). f.to < g.to) row → i < length row → f ≡ get_or row i f → j < length row → Path.to (get_or row j f) < f.to → j < i
before_at row i j f up h at k less =
    elim (cases_lt j i) [
      | inl b ↦ b
      | inr n ↦ elim (cases_lt i j) [
        | inl b ↦ absurd (let w = up i j f b k in omega (arith, ap (λ (g : Path). g.to) at))
        | inr m ↦ absurd (let e : j ≡ i = omega arith in omega (arith, ap (λ x. Path.to (get_or row x f)) e, ap (λ (g : Path). g.to) at))
      ]
    ]

-- two footpaths in a row and the change over both keep the law
pub good_by : (P : FootpathData) (p q r s t u : ℕ) → footpath_secs P p q ≡ Some s → footpath_secs P q r ≡ Some t → change_between P p r ≡ Some u → u ≤ s + t → IsGood P p q r
good_by P p q r s t u e f g h = record {
  there = λ a. (let x : None ≡ Some u = sym a.absent ∙ g in cc);
  short = λ a.
      (let x : s ≡ a.s = (let y : Some s ≡ Some a.s = sym e ∙ a.row.first in cc) in
      let y : t ≡ a.t = (let z : Some t ≡ Some a.t = sym f ∙ a.row.second in cc) in
      let z : u ≡ a.u = (let w : Some u ≡ Some a.u = sym g ∙ a.direct in cc) in
      omega (arith, a.long));
}

-- where each footpath from q is good, the ways over q are
pub good_over : (P : FootpathData) (p q : ℕ) → ((j : ℕ) (d : Path) → j < length (get_or P.paths q []) → IsGood P p q (Path.to (get_or (get_or P.paths q []) j d))) → (r : ℕ) → IsGood P p q r
good_over P p q h r = record {
  there = λ a. (let m = found_index (get_or P.paths q []) r a.t a.row.second in let g : IsGood P p q r = subst (λ x. IsGood P p q x) (m.2 no_path) (h m.0 no_path m.1) in g.there a);
  short = λ a. (let m = found_index (get_or P.paths q []) r a.t a.row.second in let g : IsGood P p q r = subst (λ x. IsGood P p q x) (m.2 no_path) (h m.0 no_path m.1) in g.short a);
}

-- where each footpath from p is good, all ways from p are
pub good_from : (P : FootpathData) (p : ℕ) → ((j : ℕ) (d : Path) (r : ℕ) → j < length (get_or P.paths p []) → IsGood P p (Path.to (get_or (get_or P.paths p []) j d)) r) → (q r : ℕ) → IsGood P p q r
good_from P p h q r = record {
  there = λ a. (let m = found_index (get_or P.paths p []) q a.s a.row.first in let g : IsGood P p q r = subst (λ x. IsGood P p x r) (m.2 no_path) (h m.0 no_path r m.1) in g.there a);
  short = λ a. (let m = found_index (get_or P.paths p []) q a.s a.row.first in let g : IsGood P p q r = subst (λ x. IsGood P p x r) (m.2 no_path) (h m.0 no_path r m.1) in g.short a);
}

-- where each footpath from q before a place is good, the ways over q to lesser stops are
pub good_before : (P : FootpathData) (p q i : ℕ) (f : Path) → AllPairs (λ (f g : Path). f.to < g.to) (get_or P.paths q []) → i < length (get_or P.paths q []) → f ≡ get_or (get_or P.paths q []) i f
    → ((j : ℕ) (d : Path) → j < i → IsGood P p q (Path.to (get_or (get_or P.paths q []) j d))) → (c : ℕ) → c < f.to → IsGood P p q c
good_before P p q i f up k at h c less = record {
  there = λ a. (here a.t a.row.second).there a;
  short = λ a. (here a.t a.row.second).short a;
}
  where
    here : (t : ℕ) → footpath_secs P q c ≡ Some t → IsGood P p q c
    here t e =
        let m = found_index (get_or P.paths q []) c t e in
        let b : m.0 < i = before_at (get_or P.paths q []) i m.0 f up k at m.1 (omega (arith, m.2 f)) in
        subst (λ x. IsGood P p q x) (m.2 f) (h m.0 f b)

-- where each footpath from p before a place is good, the ways over lesser stops are
pub good_middle : (P : FootpathData) (p i : ℕ) (f : Path) → AllPairs (λ (f g : Path). f.to < g.to) (get_or P.paths p []) → i < length (get_or P.paths p []) → f ≡ get_or (get_or P.paths p []) i f
    → ((j : ℕ) (d : Path) (r : ℕ) → j < i → IsGood P p (Path.to (get_or (get_or P.paths p []) j d)) r) → (b c : ℕ) → b < f.to → IsGood P p b c
good_middle P p i f up k at h b c less = record {
  there = λ a. (here a.s a.row.first).there a;
  short = λ a. (here a.s a.row.first).short a;
}
  where
    here : (s : ℕ) → footpath_secs P p b ≡ Some s → IsGood P p b c
    here s e =
        let m = found_index (get_or P.paths p []) b s e in
        let w : m.0 < i = before_at (get_or P.paths p []) i m.0 f up k at m.1 (omega (arith, m.2 f)) in
        subst (λ x. IsGood P p x c) (m.2 f) (h m.0 f c w)

-- no footpath leaves a stop that isn't there
pub good_past : (P : FootpathData) (a b c : ℕ) → length P.paths ≤ a → IsGood P a b c
good_past P a b c h = record {
  there = λ x. none x.s x.row.first;
  short = λ x. none x.s x.row.first;
}
  where
    none : (s : ℕ) → footpath_secs P a b ≡ Some s → ⊥
    none s e = (let empty = get_or_past P.paths a [] h in let w : None ≡ Some s = (rw empty at e) in cc)

-- at three good stops the change over two footpaths is there, and no longer than both
pub law_at : (P : FootpathData) (p q r s t : ℕ) → IsGood P p q r → p ≢ q → q ≢ r → footpath_secs P p q ≡ Some s → footpath_secs P q r ≡ Some t → IsSomeAnd (change_between P p r) (λ u. u ≤ s + t)
law_at P p q r s t good away onward e f = by_change (change_between P p r) refl
  where
    row : AreInARow P p q r s t
    row = record { away = away; onward = onward; first = e; second = f }

    by_change : (o : Option ℕ) → change_between P p r ≡ o → IsSomeAnd o (λ u. u ≤ s + t)
    by_change None d = absurd (good.there (record { s = s; t = t; row = row; absent = d }))
    by_change (Some u) d =
        elim (cases_lt (s + t) u) [
          | inl l ↦ absurd (good.short (record { s = s; t = t; u = u; row = row; direct = d; long = l }))
          | inr l ↦ l
        ]
