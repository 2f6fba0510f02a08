-- Groups that footpaths stay in.
use Rattle.std.proofs.Common.{◌≡◌, ◌∙◌, ℕ, suc, ◌<◌, List, [], ◌∷◌, ◌==◌, Bool, true, false, cond, length, get_or, replicate, refl, sym, ap, subst, arith, Some}
use Rattle.std.specs.Prelude.{All, find, slice_get}
use Rattle.std.specs.Option.{option_map}
use Rattle.std.proofs.lemmas.Bool.{eqb-true}
use Rattle.std.proofs.lemmas.List.{get_or-replicate, length-replicate}
use Rattle.std.proofs.lemmas.Option.{get_or_from_slice_get, slice_get-get_or}
use Rattle.tb_base.specs.declared.table.Path.{Path}
use Rattle.tb_base.specs.Soundness.{IsSound}
use Rattle.tb_base.specs.TimetableData.{TimetableData}
use Rattle.tb_base.specs.Walking.{footpath_secs, walk}
use Rattle.tb_laws.proofs.KeptLaws.{walk_inside}
use Rattle.segment_queue.specs.WalkGroups.{AreWalkGroups, StaysIn}

-- all walks from the stop stay in its group
abbrev pub IsSettled : TimetableData → List ℕ → ℕ → Type 0
IsSettled T groups p = (q secs : ℕ) → walk T p q ≡ Some secs → slice_get groups q ≡ Some (get_or groups p 0)

-- a stop more is settled: all its footpaths stay in its group
pub one_settled : (T : TimetableData) (groups : List ℕ) (p d : ℕ) (paths : List Path) → slice_get T.footpaths.paths p ≡ Some paths → p < length groups → All (StaysIn groups (get_or groups p d)) paths → IsSettled T groups p
one_settled T groups p d paths row inside stay q secs walks = by_test (p == q) refl walks
  where
    group : ℕ
    group = get_or groups p d

    own : get_or groups p 0 ≡ group
    own = sym (get_or_from_slice_get groups p (get_or groups p 0) d (slice_get-get_or groups p 0 inside))

    by_first : (f : Path) (fs : List Path) (b : Bool) → b ≡ (f.to == q) → StaysIn groups group f → (option_map (λ (g : Path). g.secs) (find (λ (g : Path). g.to == q) fs) ≡ Some secs → slice_get groups q ≡ Some group)
        → option_map (λ (g : Path). g.secs) (cond b (Some f) (find (λ (g : Path). g.to == q) fs)) ≡ Some secs → slice_get groups q ≡ Some group
    by_first f fs true e first more k = subst (λ x. slice_get groups x ≡ Some group) (eqb-true _ _ (sym e)) first
    by_first f fs false e first more k = more k

    by_find : (xs : List Path) → All (StaysIn groups group) xs → option_map (λ (g : Path). g.secs) (find (λ (g : Path). g.to == q) xs) ≡ Some secs → slice_get groups q ≡ Some group
    by_find [] all h = cc
    by_find (f ∷ fs) all h = by_first f fs (f.to == q) refl (all 0 f (omega arith)) (by_find fs (λ n d m. all (suc n) d (omega (arith, m)))) h

    by_test : (b : Bool) → b ≡ (p == q) → cond b (Some 0) (footpath_secs T.footpaths p q) ≡ Some secs → slice_get groups q ≡ Some (get_or groups p 0)
    by_test true e h = subst (λ x. slice_get groups x ≡ Some (get_or groups p 0)) (eqb-true _ _ (sym e)) (slice_get-get_or groups p 0 inside)
    by_test false e h =
        by_find paths stay (ap (λ xs. option_map (λ (f : Path). f.secs) (find (λ (f : Path). f.to == q) xs)) (sym (get_or_from_slice_get T.footpaths.paths p paths [] row)) ∙ h) ∙ ap Some (sym own)

-- one group of all stops
pub one_group : (T : TimetableData) (groups : List ℕ) → IsSound T → groups ≡ replicate (length T.stops) 0 → AreWalkGroups T groups
one_group T groups sound are = record {
  stops = ap length are ∙ length-replicate {A = ℕ} (length T.stops) 0;
  same = λ p q secs inside walks. subst (λ (gs : List ℕ). slice_get gs q ≡ Some (get_or gs p 0)) (sym are) (both p q inside (walk_inside T sound p q secs inside walks));
}
  where
    both : (p q : ℕ) → p < length T.stops → q < length T.stops → slice_get {X = ℕ} (replicate (length T.stops) 0) q ≡ Some (get_or (replicate (length T.stops) 0) p 0)
    both p q hp hq = slice_get-get_or (replicate (length T.stops) 0) q 0 (omega (arith, hq, length-replicate {A = ℕ} (length T.stops) 0)) ∙ ap Some (get_or-replicate (length T.stops) q 0 0 hq) ∙ ap Some (sym (get_or-replicate (length T.stops) p 0 0 hp))
