-- The footpaths that leave a stop are the walks and changes to other stops.
use Rattle.std.proofs.Common.{◌≡◌, ℕ, ◌<◌, ◌==◌, ◌⊎◌, inl, inr, List, [], length, get_or, true, refl, sym, ap, subst, ◌∙◌, arith, Option, None, Some}
use Rattle.std.specs.Prelude.{AllPairs, find, slice_get, slice_index_or, Contains}
use Rattle.std.specs.Option.{option_map}
use Rattle.std.proofs.lemmas.List.{get_or_default}
use Rattle.std.proofs.lemmas.List.Elements.{All-contains}
use Rattle.std.proofs.lemmas.Option.{get_or_from_slice_get, slice_get_within}
use Rattle.std.proofs.lemmas.Bool.{eqb-true}
use Rattle.tb_base.specs.declared.table.Path.{Path}
use Rattle.tb_base.specs.TimetableData.{TimetableData}
use Rattle.tb_base.specs.Walking.{footpath_secs}
use Rattle.tb_base.specs.Soundness.{IsSound, IsSoundPath}
use Rattle.tb_base.proofs.Ordered.{Member, Member-from_Contains, Contains-from_Member}
use Rattle.tb_base.proofs.Members.{find_first, find_found}
use Rattle.tb_base.proofs.Walks.{leaving_sound}

abbrev pub no_path : Path
no_path = record { to = 0; secs = 0 }

number_same : (a : ℕ) → (a == a) ≡ true
number_same a = grind arith

-- in a list that ascends the first footpath to a stop is the only one
found_first : (row : List Path) → AllPairs (λ (f g : Path). f.to < g.to) row → (f : Path) → Member f row → find (λ (g : Path). g.to == f.to) row ≡ Some f
found_first row up f member =
    let first = find_first (λ (f g : Path). f.to < g.to) (λ (g : Path). g.to == f.to) row f up member (number_same f.to) in
    by_case first.0 first.1 (eqb-true first.0.to f.to first.3) first.4
  where
    by_case : (g : Path) → find (λ (g : Path). g.to == f.to) row ≡ Some g → g.to ≡ f.to → (g ≡ f) ⊎ (g.to < f.to) → find (λ (g : Path). g.to == f.to) row ≡ Some f
    by_case g h e (inl same) = h ∙ ap (λ (x : Path). Some x) same
    by_case g h e (inr less) = absurd (omega (arith, e, less))

module _ (T : TimetableData) (sound : IsSound T) (p : ℕ) (inside : p < length T.stops) (row : List Path) (is : slice_get T.footpaths.paths p ≡ Some row) where
  row_is : slice_index_or T.footpaths.paths p [] ≡ row
  row_is = get_or_from_slice_get T.footpaths.paths p row [] is

  ascends : AllPairs (λ (f g : Path). f.to < g.to) row
  ascends = subst (λ r. AllPairs (λ (f g : Path). f.to < g.to) r) row_is (sound.footpaths.ascending p [] (slice_get_within T.footpaths.paths p row is))

  -- each of the footpaths gives the seconds to its stop
  pub footpath_of : (k : ℕ) (d : Path) → k < length row → footpath_secs T.footpaths p (get_or row k d).to ≡ Some (get_or row k d).secs
  footpath_of k d below = subst (λ r. option_map (λ (f : Path). f.secs) (find (λ (f : Path). f.to == (get_or row k d).to) r) ≡ Some (get_or row k d).secs) (sym row_is)
      (ap (λ o. option_map (λ (f : Path). f.secs) o) (found_first row ascends (get_or row k d) (Member-from_Contains (get_or row k d) row (k, below, get_or_default row k (get_or row k d) d below))))

  -- seconds to a stop are those of one of the footpaths
  pub footpath_among : (q s : ℕ) → footpath_secs T.footpaths p q ≡ Some s → (k : ℕ) × (k < length row) × ((d : Path) → ((get_or row k d).to ≡ q) × ((get_or row k d).secs ≡ s))
  footpath_among q s h = by_option (find (λ (f : Path). f.to == q) row) refl (subst (λ r. option_map (λ (f : Path). f.secs) (find (λ (f : Path). f.to == q) r) ≡ Some s) row_is h)
    where
      by_option : (o : Option Path) → o ≡ find (λ (f : Path). f.to == q) row → option_map (λ (f : Path). f.secs) o ≡ Some s → (k : ℕ) × (k < length row) × ((d : Path) → ((get_or row k d).to ≡ q) × ((get_or row k d).secs ≡ s))
      by_option None e g = cc
      by_option (Some f) e g =
          let found = find_found (λ (g : Path). g.to == q) row f (sym e) in
          let c : Contains row f = Contains-from_Member f row found.0 in
          let secs : f.secs ≡ s = cc in
          (c.0, c.1, λ d. let here : get_or row c.0 d ≡ f = get_or_default row c.0 d f c.1 ∙ c.2 in (ap (λ (x : Path). x.to) here ∙ eqb-true f.to q found.1, ap (λ (x : Path). x.secs) here ∙ secs))

-- no footpath leads back to its own stop
pub no_own_footpath : (T : TimetableData) → IsSound T → (p : ℕ) → p < length T.stops → (s : ℕ) → footpath_secs T.footpaths p p ≡ Some s → ⊥
no_own_footpath T sound p inside s h = by_option (find (λ (f : Path). f.to == p) (slice_index_or T.footpaths.paths p [])) refl h
  where
    by_option : (o : Option Path) → o ≡ find (λ (f : Path). f.to == p) (slice_index_or T.footpaths.paths p []) → option_map (λ (f : Path). f.secs) o ≡ Some s → ⊥
    by_option None e g = cc
    by_option (Some f) e g =
        let found = find_found (λ (g : Path). g.to == p) (slice_index_or T.footpaths.paths p []) f (sym e) in
        let path : IsSoundPath (length T.stops) p f = All-contains (IsSoundPath (length T.stops) p) (slice_index_or T.footpaths.paths p []) f (leaving_sound T p sound inside) (Contains-from_Member f (slice_index_or T.footpaths.paths p []) found.0) in
        path.away (eqb-true f.to p found.1)
