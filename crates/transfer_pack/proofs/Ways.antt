-- The footpaths that lead to a stop are those by which one walks there.
use Rattle.std.proofs.Common.{◌≡◌, ◌≢◌, ◌∙◌, sym, ap, subst, refl, ℕ, ◌<◌, ◌≤◌, ◌==◌, inl, inr, List, [], length, get_or, Option, Some, None, find, arith}
use Rattle.std.specs.Prelude.{All, AllPairs, Contains}
use Rattle.std.specs.Option.{option_map}
use Rattle.std.specs.Ordering.{nat_cmp}
use Rattle.std.specs.declared.cmp.Ordering.TheVariants.{Equal}
use Rattle.std.proofs.lemmas.Bool.{cases_lt, eqb-true}
use Rattle.std.proofs.lemmas.Bool.Decides.{nat_tests}
use Rattle.std.proofs.lemmas.List.{get_or_default, get_or_past}
use Rattle.tb_base.specs.declared.table.Path.{Path}
use Rattle.tb_base.specs.Soundness.{IsSound, IsSoundPath}
use Rattle.tb_base.specs.TimetableData.{TimetableData}
use Rattle.tb_base.specs.Walking.{footpath_secs, walk}
use Rattle.tb_base.proofs.Members.{find_found}
use Rattle.tb_base.proofs.Ordered.{Contains-from_Member, Member, Member-from_Contains}
use Rattle.tb_base.proofs.Searching.{found_at}
use Rattle.tb_base.proofs.Walks.{leaving_sound, walk-other}
use Rattle.transfer_pack.specs.TurnedPaths.{turned_into}
use Rattle.transfer_pack.proofs.Paths.{into_ascends, into_found, into_from}

member_of : {X : Type 0} (P : X → Type 0) (xs : List X) (x : X) → All P xs → Member x xs → P x
member_of P xs x all h = let k = Contains-from_Member x xs h in subst P k.2 (all k.0 x k.1)

same_cmp : (n : ℕ) → nat_cmp n n ≡ Equal
same_cmp n = grind (arith, nat_tests)

module _ (T : TimetableData) (sound : IsSound T) where
  pub path_sound : (p : ℕ) (f : Path) → Member f (turned_into T.footpaths.paths p (length T.stops)) → IsSoundPath (length T.stops) p f
  path_sound p f h =
      let r : (f.to < length T.stops) × ((g : Path) × Member g (get_or T.footpaths.paths f.to []) × (g.to ≡ p) × (f.secs ≡ g.secs)) = into_from T.footpaths.paths p (length T.stops) f h in
      let g : IsSoundPath (length T.stops) f.to r.1.0 = member_of (IsSoundPath (length T.stops) f.to) (get_or T.footpaths.paths f.to []) r.1.0 (leaving_sound T f.to sound r.0) r.1.1 in
      record { to = r.0; away = λ e. g.away (r.1.2 ∙ sym e); secs = subst (λ s. s ≤ 86400) (sym r.1.3) g.secs }

  pub row_ascends : (p : ℕ) → AllPairs (λ (f g : Path). f.to < g.to) (get_or T.footpaths.paths p [])
  row_ascends p = elim (cases_lt p (length T.footpaths.paths)) [
    | inl h ↦ sound.footpaths.ascending p [] h
    | inr h ↦ subst (AllPairs (λ (f g : Path). f.to < g.to)) (sym (get_or_past T.footpaths.paths p [] h)) (λ i j d before inside. absurd (omega (arith, inside)))
  ]

  -- each of them is a way to the stop
  pub path_way : (q j : ℕ) (d : Path) → j < length (turned_into T.footpaths.paths q (length T.stops)) →
      IsSoundPath (length T.stops) q (get_or (turned_into T.footpaths.paths q (length T.stops)) j d) × (walk T (get_or (turned_into T.footpaths.paths q (length T.stops)) j d).to q ≡ Some (get_or (turned_into T.footpaths.paths q (length T.stops)) j d).secs)
  path_way q j d inside =
      let row : List Path = turned_into T.footpaths.paths q (length T.stops) in
      let f : Path = get_or (turned_into T.footpaths.paths q (length T.stops)) j d in
      let one : IsSoundPath (length T.stops) q f = path_sound q f (Member-from_Contains f row (j, inside, get_or_default row j f d inside)) in
      let found : find (λ (g : Path). g.to == f.to) row ≡ Some f = found_at (λ (g : Path). g.to) f.to row j d (into_ascends T.footpaths.paths q (length T.stops) row_ascends) inside (same_cmp f.to) in
      let secs : footpath_secs T.footpaths f.to q ≡ Some f.secs = sym (into_found T.footpaths.paths q f.to (length T.stops) one.to) ∙ ap (option_map (λ (g : Path). g.secs)) found in
      (one, walk-other T f.to q one.away ∙ secs)

  -- and each way is one of them
  pub way_path : (p q secs : ℕ) → p < length T.stops → p ≢ q → walk T p q ≡ Some secs →
      (j : ℕ) × (j < length (turned_into T.footpaths.paths q (length T.stops))) × ((d : Path) → ((get_or (turned_into T.footpaths.paths q (length T.stops)) j d).to ≡ p) × ((get_or (turned_into T.footpaths.paths q (length T.stops)) j d).secs ≡ secs))
  way_path p q secs inside apart way = by_option (find (λ (g : Path). g.to == p) (turned_into T.footpaths.paths q (length T.stops))) refl
      (into_found T.footpaths.paths q p (length T.stops) inside ∙ (sym (walk-other T p q apart) ∙ way))
    where
      by_option : (o : Option Path) → o ≡ find (λ (g : Path). g.to == p) (turned_into T.footpaths.paths q (length T.stops)) → option_map (λ (f : Path). f.secs) o ≡ Some secs →
          (j : ℕ) × (j < length (turned_into T.footpaths.paths q (length T.stops))) × ((d : Path) → ((get_or (turned_into T.footpaths.paths q (length T.stops)) j d).to ≡ p) × ((get_or (turned_into T.footpaths.paths q (length T.stops)) j d).secs ≡ secs))
      by_option None e h = cc
      by_option (Some f) e h =
          let row : List Path = turned_into T.footpaths.paths q (length T.stops) in
          let found = find_found (λ (g : Path). g.to == p) row f (sym e) in
          let c : Contains row f = Contains-from_Member f row found.0 in
          let same : f.secs ≡ secs = cc in
          (c.0, c.1, λ d. let here : get_or row c.0 d ≡ f = get_or_default row c.0 d f c.1 ∙ c.2 in (ap (λ (x : Path). x.to) here ∙ eqb-true f.to p found.1, ap (λ (x : Path). x.secs) here ∙ same))
