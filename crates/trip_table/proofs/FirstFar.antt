-- Sound change times and footpaths have a closure within the limits, or a fault of it.
use Rattle.std.proofs.Common.{◌≡◌, refl, ℕ, ◌<◌, ◌≤◌, ◌⊎◌, List, length, inl, inr, Option, Some, None, arith}
use Rattle.std.specs.Prelude.{Result, Ok, Err, IfSome, IsSomeAnd}
use Rattle.std.proofs.lemmas.Bool.{cases_lt}
use Rattle.gtfs_rows.specs.StopsFile.{StopData}
use Rattle.gtfs_rows.specs.declared.fault.FeedFault.{FeedFault}
use Rattle.gtfs_rows.specs.declared.fault.FeedFault.TheVariants as fault
use Rattle.gtfs_rows.specs.declared.fault.Many.TheVariants as many
use Rattle.footpaths.specs.Footpaths.{Changes, paths_of}
use Rattle.tb_base.specs.TimetableData.{FootpathData}
use Rattle.tb_base.specs.Soundness.{IsSoundFootpaths}
use Rattle.foot_close.specs.Shortest.{closure_of}
use Rattle.foot_close.specs.Closing.{IsNear, IsFirstFar, footpath_total}
use Rattle.foot_close.proofs.ClosedLaws.{closure_has, closure_inside}
use Rattle.trip_table.specs.Day.{platform_id, IsWithinLimits, HasTooMany, HasFarPair, AreClosed}
use Rattle.trip_table.proofs.FirstBad.{first_bad}

abbrev IsFar : Changes → ℕ → ℕ → Type 0
IsFar closed p q = IsSomeAnd (closed p q) (λ secs. 86400 < secs)

by_day : (s : ℕ) → (86400 < s) ⊎ (s ≤ 86400) → (s ≤ 86400) ⊎ (86400 < s)
by_day s (inl far) = inr far
by_day s (inr near) = inl near

by_secs : (o : Option ℕ) → IfSome o (λ secs. secs ≤ 86400) ⊎ IsSomeAnd o (λ secs. 86400 < secs)
by_secs None = inl tt
by_secs (Some s) = by_day s (cases_lt 86400 s)

near_or_far : (closed : Changes) (p q : ℕ) → IsNear closed p q ⊎ IsFar closed p q
near_or_far closed p q = by_secs (closed p q)

module _ (P : FootpathData) (sound : IsSoundFootpaths P) where
  -- pairs of stops that aren't there aren't far
  near_past : (p q : ℕ) → (length P.change ≤ p) ⊎ (length P.change ≤ q) → IsNear (closure_of P) p q
  near_past p q past = by_change (closure_of P p q) refl past
    where
      by_change : (o : Option ℕ) → closure_of P p q ≡ o → (length P.change ≤ p) ⊎ (length P.change ≤ q) → IfSome o (λ secs. secs ≤ 86400)
      by_change None e past = tt
      by_change (Some s) e (inl past) = absurd (let below = (closure_inside P p q s sound e).0 in omega (arith, past, below))
      by_change (Some s) e (inr past) = absurd (let below = (closure_inside P p q s sound e).1 in omega (arith, past, below))

  -- the first far pair from a stop
  abbrev FirstTo : ℕ → Type 0
  FirstTo p = (q : ℕ) × IsFar (closure_of P) p q × ((b : ℕ) → b < q → IsNear (closure_of P) p b)

  ends_from : (p : ℕ) → ((q : ℕ) → IsNear (closure_of P) p q) ⊎ FirstTo p
  ends_from p = first_bad (IsNear (closure_of P) p) (IsFar (closure_of P) p) (near_or_far (closure_of P) p) (length P.change) (λ q past. near_past p q (inr past))

  pairs : ((p q : ℕ) → IsNear (closure_of P) p q) ⊎ ((p : ℕ) × FirstTo p × ((a : ℕ) → a < p → (b : ℕ) → IsNear (closure_of P) a b))
  pairs = first_bad (λ p. (q : ℕ) → IsNear (closure_of P) p q) FirstTo ends_from (length P.change) (λ p past q. near_past p q (inl past))

  by_pairs : (stops : List StopData) → footpath_total P (closure_of P) ≤ 2000000
      → ((p q : ℕ) → IsNear (closure_of P) p q) ⊎ ((p : ℕ) × FirstTo p × ((a : ℕ) → a < p → (b : ℕ) → IsNear (closure_of P) a b)) → (r : Result FootpathData FeedFault) × AreClosed stops P r
  by_pairs stops few (inl near) =
      let paths = paths_of (length P.change) (closure_of P) in
      (Ok paths, closure_has P (λ closed. (paths ≡ paths_of (length P.change) closed) × IsWithinLimits P closed) sound (refl, record { few = few; near = near }))
  by_pairs stops few (inr (p, to, earlier)) =
      let f = fault.FarFootpath (platform_id stops p) (platform_id stops to.0) in
      let first : IsFirstFar (closure_of P) p to.0 = record { far = to.1; earlier_start = λ a b less. earlier a less b; earlier_end = to.2 } in
      (Err f, closure_has P (λ closed. HasTooMany P closed f ⊎ HasFarPair stops P closed f) sound (inr (record { few = few; from = p; to = to.0; far = first; named = refl })))

  by_total : (stops : List StopData) → (2000000 < footpath_total P (closure_of P)) ⊎ (footpath_total P (closure_of P) ≤ 2000000) → (r : Result FootpathData FeedFault) × AreClosed stops P r
  by_total stops (inl over) =
      let f = fault.TooMany many.Footpaths 0 in
      (Err f, closure_has P (λ closed. HasTooMany P closed f ⊎ HasFarPair stops P closed f) sound (inl (record { total = over; named = refl })))
  by_total stops (inr few) = by_pairs stops few pairs

  -- something becomes of change times and footpaths that are to be closed
  pub closing_given : (stops : List StopData) → (r : Result FootpathData FeedFault) × AreClosed stops P r
  closing_given stops = by_total stops (cases_lt 2000000 (footpath_total P (closure_of P)))
