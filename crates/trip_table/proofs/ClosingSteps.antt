-- What becomes of closed footpaths, from what is told of closing.
use Rattle.std.proofs.Common.{◌≡◌, ◌∙◌, refl, ap, subst, ℕ, ◌<◌, ◌≤◌, List, length, Option, Some, None}
use Rattle.std.specs.Prelude.{Ok, IfSome, IsSomeAnd}
use Rattle.std.proofs.lemmas.List.FromFn.{length-map-range_with_len}
use Rattle.gtfs_rows.specs.StopsFile.{StopData}
use Rattle.footpaths.specs.Footpaths.{Changes}
use Rattle.tb_base.specs.TimetableData.{FootpathData, path_total}
use Rattle.tb_base.specs.Soundness.{IsSoundFootpaths}
use Rattle.tb_base.specs.Walking.{change_between}
use Rattle.foot_close.specs.Closure.{IsClosed}
use Rattle.foot_close.specs.Shortest.{closure_of}
use Rattle.foot_close.specs.declared.closed.Closed.{Closed}
use Rattle.foot_close.specs.declared.closed.CloseFault.{CloseFault}
use Rattle.foot_close.specs.declared.closed.CloseFault.TheVariants as why
use Rattle.foot_close.specs.Closing.{ClosureHas, IsHeld, IsNear, IsFirstFar, IsCloseRefused, footpath_total}
use Rattle.foot_close.proofs.Edges.{change_day}
use Rattle.foot_close.proofs.ClosedLaws.{closure_is, closure_inside}
use Rattle.trip_table.specs.Answers.{AreThere}
use Rattle.trip_table.specs.Day.{AreClosed}
use Rattle.trip_table.proofs.OneClosing.{same_closure}

-- changes of sound change times and footpaths take at most a day
near : (paths : FootpathData) → IsSoundFootpaths paths → (p q : ℕ) → IsNear (change_between paths) p q
near paths sound p q = by_secs (change_between paths p q) refl
  where
    by_secs : (o : Option ℕ) → change_between paths p q ≡ o → IfSome o (λ secs. secs ≤ 86400)
    by_secs None e = tt
    by_secs (Some s) e = change_day paths p q s sound e

-- the closure is what becomes of them
pub closing_held : (stops : List StopData) (told : FootpathData) (c : Closed) → ClosureHas told (IsHeld told c) → IsClosed told c.paths → IsSoundFootpaths c.paths → AreClosed stops told (Ok c.paths)
closing_held stops told c held closed sound =
    let one : change_between c.paths ≡ held.closed = same_closure (change_between told) (change_between c.paths) held.closed closed held.closure in
    let few : footpath_total told held.closed ≤ 2000000 = subst (λ (paths : FootpathData). path_total paths ≤ 2000000) held.has.paths sound.footpaths in
    let all : (p q : ℕ) → IsNear held.closed p q = subst (λ (changes : Changes). (p q : ℕ) → IsNear changes p q) one (near c.paths sound) in
    record { closed = held.closed; closure = held.closure; has = (held.has.paths, record { few = few; near = all }) }

-- there are as many change times as before
pub closing_count : (told : FootpathData) (c : Closed) → ClosureHas told (IsHeld told c) → length c.paths.change ≡ length told.change
closing_count told c held = ap (λ (paths : FootpathData). length paths.change) held.has.paths ∙ length-map-range_with_len (λ p. held.closed p p) 0 (length told.change)

-- the stops of a far pair are there
pub far_inside : (told : FootpathData) (p q : ℕ) → IsSoundFootpaths told → ClosureHas told (λ closed. (footpath_total told closed ≤ 2000000) × IsFirstFar closed p q) → (p < length told.change) × (q < length told.change)
far_inside told p q sound h =
    let one : h.closed ≡ closure_of told = same_closure (change_between told) h.closed (closure_of told) h.closure (closure_is told sound) in
    by_secs (closure_of told p q) refl (subst (λ (changes : Changes). IsSomeAnd (changes p q) (λ secs. 86400 < secs)) one h.has.1.far)
  where
    by_secs : (o : Option ℕ) → closure_of told p q ≡ o → IsSomeAnd o (λ secs. 86400 < secs) → (p < length told.change) × (q < length told.change)
    by_secs None e far = absurd far
    by_secs (Some s) e far = closure_inside told p q s sound e

pub refused_inside : (told : FootpathData) (f : CloseFault) → IsSoundFootpaths told → IsCloseRefused told f → AreThere (length told.change) f
refused_inside told why.TooMany sound h = tt
refused_inside told (why.Far p q) sound h = far_inside told p q sound h
refused_inside told why.Memory sound h = tt
