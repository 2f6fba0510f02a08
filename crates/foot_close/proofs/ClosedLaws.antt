-- The closure among the first stops, as change times and footpaths.
use Rattle.std.proofs.Common.{◌≡◌, ◌∙◌, sym, ap, subst, refl, ℕ, ◌+◌, ◌<◌, ◌≤◌, ◌⊎◌, List, [], ◌∷◌, length, get_or, map, take, false, Option, Some, None, find, arith, inl, inr}
use Rattle.std.specs.Prelude.{◌==◌, MatchOption, nat_lt, sum_by}
use Rattle.std.specs.Option.{option_map}
use Rattle.std.proofs.lemmas.Bool.{cases_Bool, cases_lt}
use Rattle.std.proofs.lemmas.Bool.Decides.{nat_tests}
use Rattle.std.proofs.lemmas.List.{get_or_past}
use Rattle.std.proofs.lemmas.List.FromFn.{length-map-range_with_len, get_or-map-range_with_len, take-map-range_with_len, sum_by-map-range_with_len_more}
use Rattle.std.proofs.lemmas.List.Sums.{sum_by-take-le}
use Rattle.tb_base.specs.declared.table.Path.{Path}
use Rattle.footpaths.specs.Footpaths.{Changes, numbers, path_to, paths_from, paths_of}
use Rattle.tb_base.specs.TimetableData.{FootpathData, path_total}
use Rattle.tb_base.specs.Walking.{change_between}
use Rattle.tb_base.specs.Soundness.{IsSoundFootpaths}
use Rattle.footpaths.proofs.Sound.{sound_paths}
use Rattle.foot_close.specs.Closure.{chain, IsShortest, IsClosure, IsClosed}
use Rattle.foot_close.specs.Shortest.{closure_of}
use Rattle.foot_close.specs.declared.closed.Closed.{Closed}
use Rattle.foot_close.specs.Closing.{ClosureHas, IsNear, IsHeld, IsFirstFar, footpath_total, pair_count, is_added, is_lowered}
use Rattle.foot_close.proofs.Chains.{parts_by}
use Rattle.foot_close.proofs.ShortestOver.{is_closure}
use Rattle.foot_close.proofs.Edges.{change_from, change_to}
use Rattle.foot_close.proofs.Ranges.{in_range, not_in_range}

pub closure_is : (P : FootpathData) → IsSoundFootpaths P → IsClosure (change_between P) (closure_of P)
closure_is P sound = is_closure (change_between P) (length P.change) (λ p q s e. change_to P p q s sound e)

-- a fact of the closure, by the function
pub closure_has : (P : FootpathData) (F : Changes → Type 0) → IsSoundFootpaths P → F (closure_of P) → ClosureHas P F
closure_has P F sound fact = record { closed = closure_of P; closure = closure_is P sound; has = fact }

chain_from : (P : FootpathData) → IsSoundFootpaths P → (p : ℕ) (via : List ℕ) (r s : ℕ) → chain (change_between P) p via r ≡ Some s → p < length P.change
chain_from P sound p [] r s e = change_from P p r s sound e
chain_from P sound p (q ∷ via) r s e = (let h = parts_by (change_between P p q) (chain (change_between P) q via r) s e in change_from P p q h.0 sound h.2)

chain_to : (P : FootpathData) → IsSoundFootpaths P → (p : ℕ) (via : List ℕ) (r s : ℕ) → chain (change_between P) p via r ≡ Some s → r < length P.change
chain_to P sound p [] r s e = change_to P p r s sound e
chain_to P sound p (q ∷ via) r s e = (let h = parts_by (change_between P p q) (chain (change_between P) q via r) s e in chain_to P sound q via r h.1 h.3)

-- the closure leads from and to stops that are there
pub closure_inside : (P : FootpathData) (p r s : ℕ) → IsSoundFootpaths P → closure_of P p r ≡ Some s → (p < length P.change) × (r < length P.change)
closure_inside P p r s sound e =
    let h : IsShortest (change_between P) p r s = rw e at (closure_is P sound p r) in
    (chain_from P sound p h.via r s h.attained, chain_to P sound p h.via r s h.attained)

pub none_past : (P : FootpathData) (p r : ℕ) → IsSoundFootpaths P → (length P.change ≤ p) ⊎ (length P.change ≤ r) → closure_of P p r ≡ None
none_past P p r sound out = by_secs (closure_of P p r) refl
  where
    by_secs : (o : Option ℕ) → closure_of P p r ≡ o → closure_of P p r ≡ None
    by_secs None e = e
    by_secs (Some s) e = (let h = closure_inside P p r s sound e in elim out [ inl l ↦ absurd (omega (arith, l, h.0)) | inr l ↦ absurd (omega (arith, l, h.1)) ])

path_named : (C : Changes) (p q : ℕ) (f : Path) → path_to p q (C p q) ≡ Some f → f.to ≡ q
path_named C p q f e =
    elim (cases_Bool (p == q)) [
      | inl t ↦ absurd (let c : None ≡ Some f = rw t at e in cc)
      | inr n ↦ by_secs (C p q) (rw n at e)
    ]
  where
    by_secs : (o : Option ℕ) → option_map (λ s. record { to = q; secs = s }) o ≡ Some f → f.to ≡ q
    by_secs None e = cc
    by_secs (Some s) e = (let is : record { to = q; secs = s } ≡ f = cc in sym (ap (λ (g : Path). g.to) is))

path_secs : (p q : ℕ) (o : Option ℕ) → (p == q) ≡ false → option_map (λ (f : Path). f.secs) (path_to p q o) ≡ o
path_secs p q None n = rw n refl
path_secs p q (Some s) n = rw n refl

-- the change times and footpaths of the closure tell it
pub closed_between : (P : FootpathData) → IsSoundFootpaths P → (p q : ℕ) → change_between (paths_of (length P.change) (closure_of P)) p q ≡ closure_of P p q
closed_between P sound p q =
    elim (cases_Bool (p == q)) [
      | inl t ↦ (let same : p ≡ q = grind (arith, nat_tests, t) in rw t (own (cases_lt p (length P.change)) ∙ ap (closure_of P p) same))
      | inr f ↦ rw f (other f (cases_lt p (length P.change)))
    ]
  where
    own : (p < length P.change) ⊎ (length P.change ≤ p) → get_or (map (λ p. closure_of P p p) (numbers (length P.change))) p None ≡ closure_of P p p
    own (inl l) = get_or-map-range_with_len (λ p. closure_of P p p) 0 (length P.change) p p None l (omega arith)
    own (inr l) = get_or_past (map (λ p. closure_of P p p) (numbers (length P.change))) p None (omega (arith, l, length-map-range_with_len (λ p. closure_of P p p) 0 (length P.change))) ∙ sym (none_past P p p sound (inl l))

    at_stop : (p == q) ≡ false → (q < length P.change) ⊎ (length P.change ≤ q) → option_map (λ (f : Path). f.secs) (find (λ (f : Path). f.to == q) (paths_from (length P.change) (closure_of P) p)) ≡ closure_of P p q
    at_stop f (inl l) = ap (option_map (λ (f : Path). f.secs)) (in_range (λ (f : Path). f.to) (λ q. path_to p q (closure_of P p q)) (path_named (closure_of P) p) (length P.change) 0 q (omega arith) (omega (arith, l))) ∙ path_secs p q (closure_of P p q) f
    at_stop f (inr l) = ap (option_map (λ (f : Path). f.secs)) (not_in_range (λ (f : Path). f.to) (λ q. path_to p q (closure_of P p q)) (path_named (closure_of P) p) (length P.change) 0 q (inr (omega (arith, l)))) ∙ sym (none_past P p q sound (inr l))

    other : (p == q) ≡ false → (p < length P.change) ⊎ (length P.change ≤ p) → option_map (λ (f : Path). f.secs) (find (λ (f : Path). f.to == q) (get_or (map (paths_from (length P.change) (closure_of P)) (numbers (length P.change))) p [])) ≡ closure_of P p q
    other f (inl l) =
        let row : get_or (map (paths_from (length P.change) (closure_of P)) (numbers (length P.change))) p [] ≡ paths_from (length P.change) (closure_of P) p = get_or-map-range_with_len (paths_from (length P.change) (closure_of P)) 0 (length P.change) p p [] l (omega arith) in
        rw row (at_stop f (cases_lt q (length P.change)))
    other f (inr l) =
        let row : get_or (map (paths_from (length P.change) (closure_of P)) (numbers (length P.change))) p [] ≡ [] = get_or_past (map (paths_from (length P.change) (closure_of P)) (numbers (length P.change))) p [] (omega (arith, l, length-map-range_with_len (paths_from (length P.change) (closure_of P)) 0 (length P.change))) in
        rw row (sym (none_past P p q sound (inl l)))

pub closed_is : (P : FootpathData) → IsSoundFootpaths P → IsClosed P (paths_of (length P.change) (closure_of P))
closed_is P sound p r = subst (λ o. MatchOption o ((via : List ℕ) → chain (change_between P) p via r ≡ None) (IsShortest (change_between P) p r)) (sym (closed_between P sound p r)) (closure_is P sound p r)

-- near and few enough, the closure's change times and footpaths are sound
pub closed_sound : (P : FootpathData) → IsSoundFootpaths P → ((p q : ℕ) → IsNear (closure_of P) p q) → path_total (paths_of (length P.change) (closure_of P)) ≤ 2000000 → IsSoundFootpaths (paths_of (length P.change) (closure_of P))
closed_sound P sound near few =
    let test : nat_lt 2000000 (path_total (paths_of (length P.change) (closure_of P))) ≡ false = grind (arith, nat_tests, few) in
    sound_paths (closure_of P) (length P.change) (paths_of (length P.change) (closure_of P)) sound.few near (rw test refl)

-- footpaths of the first stops
abbrev pub total_before : FootpathData → ℕ → ℕ
total_before P k = sum_by (λ row. length {A = Path} row) (map (paths_from (length P.change) (closure_of P)) (numbers k))

pub total_more : (P : FootpathData) (k : ℕ) → total_before P (k + 1) ≡ total_before P k + length (paths_from (length P.change) (closure_of P) k)
total_more P k = sum_by-map-range_with_len_more (λ row. length {A = Path} row) (paths_from (length P.change) (closure_of P)) 0 k k (omega arith)

pub total_part : (P : FootpathData) (k : ℕ) → k ≤ length P.change → total_before P k ≤ path_total (paths_of (length P.change) (closure_of P))
total_part P k h =
    let part : take k (map (paths_from (length P.change) (closure_of P)) (numbers (length P.change))) ≡ map (paths_from (length P.change) (closure_of P)) (numbers k) = take-map-range_with_len (paths_from (length P.change) (closure_of P)) 0 (length P.change) k h in
    let le = sum_by-take-le (λ row. length {A = Path} row) (map (paths_from (length P.change) (closure_of P)) (numbers (length P.change))) k in
    rw part at le

-- what a table of other, equal change times and footpaths tells
pub closed_told : (P Q : FootpathData) (c : Closed) → Q ≡ P → IsSoundFootpaths Q → c.paths ≡ paths_of (length Q.change) (closure_of Q) → c.added ≡ pair_count (length Q.change) (λ p q. is_added (change_between Q p q) (closure_of Q p q))
    → c.lowered ≡ pair_count (length Q.change) (λ p q. is_lowered (change_between Q p q) (closure_of Q p q)) → ClosureHas P (IsHeld P c)
closed_told P Q c same sound paths added lowered = subst (λ (P : FootpathData). ClosureHas P (IsHeld P c)) same (closure_has Q (IsHeld Q c) sound (record { paths = paths; added = added; lowered = lowered }))

pub far_told : (P Q : FootpathData) (p q : ℕ) → Q ≡ P → IsSoundFootpaths Q → footpath_total Q (closure_of Q) ≤ 2000000 → IsFirstFar (closure_of Q) p q → ClosureHas P (λ closed. (footpath_total P closed ≤ 2000000) × IsFirstFar closed p q)
far_told P Q p q same sound few far =
    subst (λ (P : FootpathData). ClosureHas P (λ closed. (footpath_total P closed ≤ 2000000) × IsFirstFar closed p q)) same (closure_has Q (λ closed. (footpath_total Q closed ≤ 2000000) × IsFirstFar closed p q) sound (few, far))

pub closed_of : (P Q R : FootpathData) → Q ≡ P → IsSoundFootpaths Q → R ≡ paths_of (length Q.change) (closure_of Q) → IsClosed P R
closed_of P Q R same sound paths = subst (λ (P : FootpathData). IsClosed P R) same (subst (λ (R : FootpathData). IsClosed Q R) (sym paths) (closed_is Q sound))

pub sound_of : (Q R : FootpathData) → IsSoundFootpaths Q → ((p q : ℕ) → IsNear (closure_of Q) p q) → footpath_total Q (closure_of Q) ≤ 2000000 → R ≡ paths_of (length Q.change) (closure_of Q) → IsSoundFootpaths R
sound_of Q R sound near few paths = subst IsSoundFootpaths (sym paths) (closed_sound Q sound near few)
