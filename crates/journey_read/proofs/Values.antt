-- The value of the legs that spell a journey is the journey's.
use Rattle.std.proofs.Common.{◌≡◌, ◌∙◌, refl, ap, sym, subst, ℕ, suc, ◌+◌, ◌==◌, List, [], ◌∷◌, ◌++◌, length, Bool, true, false, append-nil, arith, ℤ, pos, ◌+ℤ◌, Option, Some, None, ◌↔◌}
use Rattle.std.specs.Prelude.{unwrap_or, IsNone}
use Rattle.std.proofs.lemmas.Int.{ints}
use Rattle.tb_base.specs.declared.query.Leg.{Leg}
use Rattle.tb_base.specs.declared.query.Leg.TheVariants.{Ride as RideLeg}
use Rattle.tb_base.specs.declared.query.Value.{Value}
use Rattle.tb_base.specs.declared.rule.RuleBroken.{RuleBroken}
use Rattle.tb_base.specs.BestValues.{QueryData}
use Rattle.tb_base.specs.JourneyRules.{SpellJourney, SpellValue, legs_after, legs_of, walk_legs}
use Rattle.tb_base.specs.Journeys.{Ride, alighting_stop, alighting_time, arrival, arrival_after, boarding_stop, walk_secs}
use Rattle.tb_base.specs.TimetableData.{TimetableData}
use Rattle.tb_base.specs.Walking.{footpath_secs}
use Rattle.journey_read.specs.Judging.{value_after}

module _ (T : TimetableData) where
  -- a walk between stops takes its seconds, and one within a stop none
  past_walk : (p q : ℕ) (time : ℤ) (rides : ℕ) (legs : List Leg) → value_after T time rides (walk_legs T p q ++ legs) ≡ value_after T (time +ℤ walk_secs T p q) rides legs
  past_walk p q time rides legs = by (p == q) refl where
    by : (b : Bool) → (p == q) ≡ b → value_after T time rides (walk_legs T p q ++ legs) ≡ value_after T (time +ℤ walk_secs T p q) rides legs
    by true is = let same : time ≡ time +ℤ pos 0 = omega (arith, ints) in rw is (ap (λ t. value_after T t rides legs) same)
    by false is = let none : rides + 0 ≡ rides = omega arith in rw is (ap (λ n. value_after T (time +ℤ pos (unwrap_or (footpath_secs T.footpaths p q) 0)) n legs) none)

  -- behind a ride
  behind : (r : Ride) (rest : List Ride) (target n : ℕ) → value_after T (alighting_time T r) n (legs_after T r rest target) ≡ record { arrive = arrival_after T r rest target; rides = n + length rest }
  behind r [] target n =
      let none : n ≡ n + 0 = omega arith in
      ap (value_after T (alighting_time T r) n) (sym (append-nil (walk_legs T (alighting_stop T r) target))) ∙ past_walk (alighting_stop T r) target (alighting_time T r) n []
      ∙ ap (λ k. record { arrive = alighting_time T r +ℤ walk_secs T (alighting_stop T r) target; rides = k }) none
  behind r (s ∷ rest) target n =
      let more : n + 1 + length rest ≡ n + suc (length rest) = omega arith in
      past_walk (alighting_stop T r) (boarding_stop T s) (alighting_time T r) n (RideLeg s.trip s.board s.alight ∷ legs_after T s rest target) ∙ behind s rest target (n + 1)
      ∙ ap (λ k. record { arrive = arrival_after T s rest target; rides = k }) more

  journey_value : (asked : ℤ) (origin : ℕ) (rides : List Ride) (target : ℕ) → value_after T asked 0 (legs_of T origin rides target) ≡ record { arrive = arrival T asked origin rides target; rides = length rides }
  journey_value asked origin [] target =
      ap (value_after T asked 0) (sym (append-nil (walk_legs T origin target))) ∙ past_walk origin target asked 0 []
  journey_value asked origin (r ∷ rest) target =
      let one : 0 + 1 + length rest ≡ suc (length rest) = omega arith in
      past_walk origin (boarding_stop T r) asked 0 (RideLeg r.trip r.board r.alight ∷ legs_after T r rest target) ∙ behind r rest target 1
      ∙ ap (λ k. record { arrive = arrival_after T r rest target; rides = k }) one

  -- legs spell journeys of one value alone
  pub value_spelt : (Q : QueryData) (legs : List Leg) (v : Value) → SpellValue T Q legs v → v ≡ value_after T Q.leave 0 legs
  value_spelt Q legs v spell =
      let j = spell.by in
      spell.has.value ∙ sym (ap (value_after T Q.leave 0) spell.spelt ∙ journey_value Q.leave j.origin j.rides j.target)

  pub own_value : (Q : QueryData) (legs : List Leg) → SpellJourney T Q legs → SpellValue T Q legs (value_after T Q.leave 0 legs)
  own_value Q legs (v, spell) = subst (SpellValue T Q legs) (value_spelt Q legs v spell) spell

-- legs that break a rule spell no journey
pub spells_none : (T : TimetableData) (Q : QueryData) (legs : List Leg) (r : Option RuleBroken) (broken : RuleBroken) → IsNone r ↔ SpellJourney T Q legs → r ≡ Some broken → (v : Value) → SpellValue T Q legs v → ⊥
spells_none T Q legs r broken none is v spell = let h : IsNone (Some broken) = subst (λ (o : Option RuleBroken). IsNone o) is (none.1 (v, spell)) in cc

-- legs that break none spell one
pub spelt_where_none : (T : TimetableData) (Q : QueryData) (legs : List Leg) (r : Option RuleBroken) → IsNone r ↔ SpellJourney T Q legs → r ≡ None → SpellJourney T Q legs
spelt_where_none T Q legs r none is = none.0 (subst (λ (o : Option RuleBroken). IsNone o) (sym is) refl)
