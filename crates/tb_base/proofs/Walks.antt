-- What sound parts say of a stop's footpaths and of a station, and walks and changes by cases.
use Rattle.std.proofs.Common.{◌≡◌, ◌≢◌, ◌∙◌, ℕ, ap, subst, sym, refl, arith, ◌<◌, ◌≤◌, ◌==◌, Bool, true, false, cond, List, [], ◌∷◌, length, Option, Some, None, find, IfSome, get_or}
use Rattle.std.specs.Prelude.{All, AllPairs, slice_get}
use Rattle.std.specs.Option.{option_map}
use Rattle.std.proofs.lemmas.Bool.{eq-eqb, ne_eqb}
use Rattle.std.proofs.lemmas.List.Elements.{All-head, All-tail, All-get_or}
use Rattle.std.proofs.lemmas.Option.{get_or_from_slice_get, slice_get_within}
use Rattle.tb_base.specs.declared.table.Path.{Path}
use Rattle.tb_base.specs.TimetableData.{StationData, FootpathData, TimetableData}
use Rattle.tb_base.specs.Walking.{footpath_secs, change_time, change_between, change, walk}
use Rattle.tb_base.specs.Soundness.{IsSound, IsSoundPath, IsSoundStation}

-- what is found among the footpaths takes at most a day
pub found_within : (n p : ℕ) (test : Path → Bool) (row : List Path) → All (IsSoundPath n p) row → IfSome (option_map (λ (f : Path). f.secs) (find test row)) (λ secs. secs ≤ 86400)
found_within n p test [] sound = tt
found_within n p test (f ∷ fs) sound =
    elim (test f) as (λ b. IfSome (option_map (λ (g : Path). g.secs) (cond b (Some f) (find test fs))) (λ secs. secs ≤ 86400)) [
      | true ↦ (All-head (IsSoundPath n p) f fs sound).secs
      | false ↦ found_within n p test fs (All-tail (IsSoundPath n p) f fs sound)
    ]

-- so does what is within a stop, or found
pub between_within : (n p q : ℕ) (within : Option ℕ) (row : List Path) → IfSome within (λ secs. secs ≤ 86400) → All (IsSoundPath n p) row
    → IfSome (cond (p == q) within (option_map (λ (f : Path). f.secs) (find (λ (f : Path). f.to == q) row))) (λ secs. secs ≤ 86400)
between_within n p q within row day sound =
    elim (p == q) as (λ b. IfSome (cond b within (option_map (λ (f : Path). f.secs) (find (λ (f : Path). f.to == q) row))) (λ secs. secs ≤ 86400)) [
      | true ↦ day
      | false ↦ found_within n p (λ f. f.to == q) row sound
    ]

-- the footpaths that leave a stop
pub leaving_sound : (T : TimetableData) (p : ℕ) → IsSound T → p < length T.stops → All (IsSoundPath (length T.stops) p) (get_or T.footpaths.paths p [])
leaving_sound T p sound inside =
    subst (λ n. All (IsSoundPath n p) (get_or T.footpaths.paths p [])) sound.change_times (sound.footpaths.paths p (omega (arith, inside, sound.change_times)))

pub paths_sound : (T : TimetableData) (p : ℕ) (row : List Path) → IsSound T → p < length T.stops → slice_get T.footpaths.paths p ≡ Some row → All (IsSoundPath (length T.stops) p) row
paths_sound T p row sound inside is = subst (λ fs. All (IsSoundPath (length T.stops) p) fs) (get_or_from_slice_get T.footpaths.paths p row [] is) (leaving_sound T p sound inside)

pub paths_ascending : (T : TimetableData) (p : ℕ) (row : List Path) → IsSound T → slice_get T.footpaths.paths p ≡ Some row → AllPairs (λ (f g : Path). f.to < g.to) row
paths_ascending T p row sound is =
    subst (λ fs. AllPairs (λ (f g : Path). f.to < g.to) fs) (get_or_from_slice_get T.footpaths.paths p row [] is)
    (sound.footpaths.ascending p [] (slice_get_within T.footpaths.paths p row is))

-- the change time of a stop
pub change_time_within : (T : TimetableData) (p : ℕ) (own : Option ℕ) → IsSound T → slice_get T.footpaths.change p ≡ Some own → IfSome own (λ secs. secs ≤ 86400)
change_time_within T p own sound is =
    subst (λ (o : Option ℕ). IfSome o (λ secs. secs ≤ 86400)) (get_or_from_slice_get T.footpaths.change p own None is)
    (sound.footpaths.change_secs p None (slice_get_within T.footpaths.change p own is))

-- the footpath from p to q, read in the row of p
-- walks and changes, within one stop and between two
pub walk-same : (T : TimetableData) (p : ℕ) → walk T p p ≡ Some 0
walk-same T p = ap (λ b. cond b (Some 0) (footpath_secs T.footpaths p p)) (eq-eqb p p refl)

pub walk-other : (T : TimetableData) (p q : ℕ) → p ≢ q → walk T p q ≡ footpath_secs T.footpaths p q
walk-other T p q h = ap (λ b. cond b (Some 0) (footpath_secs T.footpaths p q)) (ne_eqb p q h)

pub change-same : (T : TimetableData) (p : ℕ) → change T p p ≡ change_time T.footpaths p
change-same T p = ap (λ b. cond b (change_time T.footpaths p) (footpath_secs T.footpaths p p)) (eq-eqb p p refl)

pub change-other : (T : TimetableData) (p q : ℕ) → p ≢ q → change T p q ≡ footpath_secs T.footpaths p q
change-other T p q h = ap (λ b. cond b (change_time T.footpaths p) (footpath_secs T.footpaths p q)) (ne_eqb p q h)

-- the stops of a station
pub station_sound : (T : TimetableData) (n : ℕ) (s : StationData) → IsSound T → n < length T.stations → s ≡ get_or T.stations n s → IsSoundStation (length T.stops) s
station_sound T n s sound inside is = subst (IsSoundStation (length T.stops)) (sym is) (sound.station n s inside)
