-- The changes from a stop, as footpaths and as a function.
use Rattle.std.proofs.Common.{◌≡◌, sym, ap, subst, refl, ℕ, ◌<◌, ◌≤◌, List, [], ◌∷◌, ◌++◌, length, get_or, true, Option, Some, None, find, arith, inl, inr}
use Rattle.std.specs.Prelude.{◌==◌, Contains, All, IfSome}
use Rattle.std.specs.Option.{option_map}
use Rattle.std.proofs.lemmas.Bool.{cases_Bool, cases_lt, eq-eqb}
use Rattle.std.proofs.lemmas.Bool.Decides.{nat_tests}
use Rattle.std.proofs.lemmas.List.{get_or_past}
use Rattle.std.proofs.lemmas.List.Elements.{Contains-append_left, Contains-append_right, Contains-append_cases, All-contains}
use Rattle.tb_base.specs.declared.table.Path.{Path}
use Rattle.tb_base.specs.Soundness.{IsSoundPath, IsSoundFootpaths}
use Rattle.tb_base.proofs.Ordered.{Member, Member-from_Contains, Contains-from_Member}
use Rattle.tb_base.specs.TimetableData.{FootpathData}
use Rattle.tb_base.specs.Walking.{change_between}
use Rattle.footpaths.proofs.LawLaws.{at_row}
use Rattle.foot_close.specs.Searching.{SearchData, own_row, leaving, IsRelaxed}
use Rattle.foot_close.proofs.Relaxing.{relaxed_both}
use Rattle.foot_close.proofs.Chains.{between}

path_same : (f : Path) (q s : ℕ) → f.to ≡ q → f.secs ≡ s → f ≡ record { to = q; secs = s }
path_same f q s e g = subst (λ x. f ≡ record { to = x; secs = s }) e (subst (λ y. f ≡ record { to = f.to; secs = y }) g refl)

own_of : (q : ℕ) (o : Option ℕ) (f : Path) → Contains (own_row q o) f → (f.to ≡ q) × (o ≡ Some f.secs)
own_of q None f h = absurd (Member-from_Contains f [] h)
own_of q (Some s) f h =
    elim (Member-from_Contains f (record { to = q; secs = s } ∷ []) h) [
      | inl e ↦ (sym (ap (λ (g : Path). g.to) e), ap (λ (g : Path). Some g.secs) e)
      | inr n ↦ absurd n
    ]

own_inside : (q r w : ℕ) (o : Option ℕ) → q ≡ r → o ≡ Some w → Contains (own_row q o) (record { to = r; secs = w })
own_inside q r w o e f =
    subst (λ (o : Option ℕ). Contains (own_row q o) (record { to = r; secs = w })) (sym f)
    (subst (λ x. Contains {X = Path} (record { to = q; secs = w } ∷ []) (record { to = x; secs = w })) e (Contains-from_Member (record { to = q; secs = w }) (record { to = q; secs = w } ∷ []) (inl refl)))

own_between : (P : FootpathData) (q r : ℕ) (o : Option ℕ) → q ≡ r → get_or P.change q None ≡ o → change_between P q r ≡ o
own_between P q r o e own = rw (eq-eqb q r e) own

pub row_secs : (P : FootpathData) (q : ℕ) (f : Path) → IsSoundFootpaths P → q < length P.change → Contains (get_or P.paths q []) f → change_between P q f.to ≡ Some f.secs
row_secs P q f sound inside h =
    let row = get_or P.paths q [] in
    let away : IsSoundPath (length P.change) q f = All-contains (IsSoundPath (length P.change) q) row f (sound.paths q inside) h in
    between P q f.to (Some f.secs) (λ e. away.away (sym e)) (at_row row h.0 f (sound.ascending q [] (omega (arith, inside, sound.rows))) h.1 (sym h.2))

-- a footpath that leaves a stop tells the change
pub edge_secs : (P : FootpathData) (q : ℕ) (f : Path) → IsSoundFootpaths P → q < length P.change → Contains (leaving P q) f → change_between P q f.to ≡ Some f.secs
edge_secs P q f sound inside h =
    elim (Contains-append_cases (own_row q (get_or P.change q None)) (get_or P.paths q []) f h) [
      | inl own ↦ (let e = own_of q (get_or P.change q None) f own in own_between P q f.to (Some f.secs) (sym e.0) e.1)
      | inr row ↦ row_secs P q f sound inside row
    ]

found_inside : (row : List Path) (r w : ℕ) → option_map (λ (f : Path). f.secs) (find (λ (f : Path). f.to == r) row) ≡ Some w → Member (record { to = r; secs = w }) row
found_inside [] r w e = cc
found_inside (f ∷ fs) r w e =
    elim (cases_Bool (f.to == r)) [
      | inl t ↦
          let to : f.to ≡ r = grind (arith, nat_tests, t) in
          let found : Some f.secs ≡ Some w = rw t at e in
          let secs : f.secs ≡ w = cc in
          inl (path_same f r w to secs)
      | inr n ↦ inr (found_inside fs r w (rw n at e))
    ]

-- a change is a footpath that leaves its stop
pub change_edge : (P : FootpathData) (q r w : ℕ) → change_between P q r ≡ Some w → Contains (leaving P q) (record { to = r; secs = w })
change_edge P q r w e =
    elim (cases_Bool (q == r)) [
      | inl t ↦
          let same : q ≡ r = grind (arith, nat_tests, t) in
          let own : get_or P.change q None ≡ Some w = rw t at e in
          Contains-append_left (own_row q (get_or P.change q None)) (get_or P.paths q []) (record { to = r; secs = w })
          (own_inside q r w (get_or P.change q None) same own)
      | inr n ↦
          Contains-append_right (own_row q (get_or P.change q None)) (get_or P.paths q []) (record { to = r; secs = w })
          (Contains-from_Member (record { to = r; secs = w }) (get_or P.paths q []) (found_inside (get_or P.paths q []) r w (rw n at e)))
    ]

-- changes lead from stops that are there
pub change_from : (P : FootpathData) (q r w : ℕ) → IsSoundFootpaths P → change_between P q r ≡ Some w → q < length P.change
change_from P q r w sound e =
    elim (cases_lt q (length P.change)) [
      | inl l ↦ l
      | inr l ↦
          let no_own : get_or P.change q None ≡ None = get_or_past P.change q None l in
          let no_row : get_or P.paths q [] ≡ [] = get_or_past P.paths q [] (omega (arith, l, sound.rows)) in
          absurd (let h = Member-from_Contains (record { to = r; secs = w }) [] (rw (no_own, no_row) at (change_edge P q r w e)) in h)
    ]

-- and to stops that are there
pub change_to : (P : FootpathData) (q r w : ℕ) → IsSoundFootpaths P → change_between P q r ≡ Some w → r < length P.change
change_to P q r w sound e =
    let inside = change_from P q r w sound e in
    elim (Contains-append_cases (own_row q (get_or P.change q None)) (get_or P.paths q []) (record { to = r; secs = w }) (change_edge P q r w e)) [
      | inl own ↦ (let h = own_of q (get_or P.change q None) (record { to = r; secs = w }) own in omega (arith, h.0, inside))
      | inr row ↦ (let h : IsSoundPath (length P.change) q (record { to = r; secs = w }) = All-contains (IsSoundPath (length P.change) q) (get_or P.paths q []) (record { to = r; secs = w }) (sound.paths q inside) row in h.to)
    ]

-- a change takes at most a day
pub change_day : (P : FootpathData) (q r w : ℕ) → IsSoundFootpaths P → change_between P q r ≡ Some w → w ≤ 86400
change_day P q r w sound e =
    let inside = change_from P q r w sound e in
    elim (Contains-append_cases (own_row q (get_or P.change q None)) (get_or P.paths q []) (record { to = r; secs = w }) (change_edge P q r w e)) [
      | inl own ↦ (let h = own_of q (get_or P.change q None) (record { to = r; secs = w }) own in let day = sound.change_secs q None inside in let d : IfSome (Some w) (λ secs. secs ≤ 86400) = rw h.1 at day in d)
      | inr row ↦ (let h : IsSoundPath (length P.change) q (record { to = r; secs = w }) = All-contains (IsSoundPath (length P.change) q) (get_or P.paths q []) (record { to = r; secs = w }) (sound.paths q inside) row in h.secs)
    ]

-- the changes from a stop, looked at one kind after the other
pub relaxed_leaving : (P : FootpathData) (q : ℕ) (own : Option ℕ) (row : List Path) (secs : ℕ) (old mid new : SearchData) → own ≡ get_or P.change q None → row ≡ get_or P.paths q [] → IsRelaxed (own_row q own) secs old mid → IsRelaxed row secs mid new → IsRelaxed (leaving P q) secs old new
relaxed_leaving P q own row secs old mid new e f h k =
    subst (λ o. IsRelaxed (own_row q o ++ get_or P.paths q []) secs old new) e
    (subst (λ r. IsRelaxed (own_row q own ++ r) secs old new) f (relaxed_both (own_row q own) row secs old mid new h k))

-- the footpaths that leave a stop
pub row_sound : (P : FootpathData) (q : ℕ) (row : List Path) → IsSoundFootpaths P → q < length P.change → row ≡ get_or P.paths q [] → All (IsSoundPath (length P.change) q) row
row_sound P q row sound inside e = subst (λ r. All (IsSoundPath (length P.change) q) r) (sym e) (sound.paths q inside)
