-- Legs that keep all rules go on within the limits of times.
use Rattle.std.proofs.Common.{◌≡◌, ◌≢◌, ◌==◌, subst, ℕ, ◌<◌, ◌≤◌, List, [], ◌∷◌, length, get_or, Option, Some, None, arith, ℤ, pos, ◌+ℤ◌, ◌≤ℤ◌}
use Rattle.std.specs.Prelude.{All, IfSome}
use Rattle.std.proofs.lemmas.Int.{ints}
use Rattle.tb_base.specs.declared.query.Leg.{Leg}
use Rattle.tb_base.specs.declared.query.Leg.TheVariants.{Walk as WalkLeg, Ride as RideLeg}
use Rattle.tb_base.specs.declared.rule.Rule.TheVariants.{BadNumber, NoWalk, TwoWalks}
use Rattle.tb_base.specs.BestValues.{QueryData}
use Rattle.tb_base.specs.JourneyRules.{FollowsNoWalk, KeepAllRules, SpellJourney}
use Rattle.tb_base.specs.Soundness.{IsSound}
use Rattle.tb_base.specs.TimetableData.{TimetableData, arrival_at, events_of, no_event, no_trip}
use Rattle.tb_base.specs.Walking.{footpath_secs}
use Rattle.tb_base.proofs.Walks.{found_within, leaving_sound}
use Rattle.tb_laws.proofs.RuleLaws.{rules_from_journey}
use Rattle.journey_read.specs.Judging.{GoesOn}

module _ (T : TimetableData) (Q : QueryData) (sound : IsSound T) where
  arrives_within : (t i : ℕ) → t < length T.trips → i < length (events_of T t) → arrival_at T t i ≤ℤ pos 359999
  arrives_within t i in_table in_trip =
      let e = (sound.trip t no_trip in_table).events i no_event in_trip in
      let waits = e.waits in
      let latest = e.latest in
      omega (arith, ints, waits, latest)

  walks_within : (p q secs : ℕ) → p < length T.stops → footpath_secs T.footpaths p q ≡ Some secs → secs ≤ 86400
  walks_within p q secs inside is =
      subst (λ (o : Option ℕ). IfSome o (λ n. n ≤ 86400)) is (found_within (length T.stops) p (λ f. f.to == q) (get_or T.footpaths.paths p []) (leaving_sound T p sound inside))

  -- the latest time behind a leg: a day later behind a walk
  abbrev latest_behind : Option Leg → ℤ
  latest_behind None = pos 359999
  latest_behind (Some (WalkLeg p q secs)) = pos 446399
  latest_behind (Some (RideLeg t b i)) = pos 359999

  no_walk_before : (previous : Option Leg) (p q secs : ℕ) (time : ℤ) → FollowsNoWalk previous (WalkLeg p q secs) → time ≤ℤ latest_behind previous → time ≤ℤ pos 359999
  no_walk_before None p q secs time alone h = h
  no_walk_before (Some (WalkLeg a b n)) p q secs time alone h = absurd (alone tt tt)
  no_walk_before (Some (RideLeg t b i)) p q secs time alone h = h

  footed : (p q secs : ℕ) (legs : List Leg) (time : ℤ) → (p < length T.stops) × (q < length T.stops) → (p ≢ q) × (footpath_secs T.footpaths p q ≡ Some secs) → time ≤ℤ pos 359999
      → ((time +ℤ pos secs) ≤ℤ pos 446399 → GoesOn T (time +ℤ pos secs) legs) → GoesOn T time (WalkLeg p q secs ∷ legs)
  footed p q secs legs time numbers path early more =
      let day = walks_within p q secs numbers.0 path.1 in
      let ends : (time +ℤ pos secs) ≤ℤ pos 446399 = omega (arith, ints, early, day) in
      (record { numbers = numbers; short = day }, ends, more ends)

  goes_on : (previous earlier : Option Leg) (legs : List Leg) (time : ℤ) → time ≤ℤ latest_behind previous → KeepAllRules T Q previous earlier legs → GoesOn T time legs
  goes_on previous earlier [] time h kept = tt
  goes_on previous earlier (WalkLeg p q secs ∷ legs) time h kept =
      footed p q secs legs time (kept.0 BadNumber) (kept.0 NoWalk) (no_walk_before previous p q secs time (kept.0 TwoWalks) h)
      (λ in_time. goes_on (Some (WalkLeg p q secs)) previous legs (time +ℤ pos secs) in_time kept.1)
  goes_on previous earlier (RideLeg t b i ∷ legs) time h kept =
      let numbers = kept.0 BadNumber in
      let arrives = arrives_within t i numbers.0 numbers.2 in
      (record { numbers = numbers; short = tt }, omega (arith, ints, arrives), goes_on (Some (RideLeg t b i)) previous legs (arrival_at T t i) arrives kept.1)

  pub journey_goes_on : (legs : List Leg) → All (λ p. p < length T.stops) Q.from → Q.leave ≤ℤ pos 359999 → SpellJourney T Q legs → GoesOn T Q.leave legs
  journey_goes_on legs inside leave spell = goes_on None None legs Q.leave leave (rules_from_journey T Q sound legs inside spell).0
