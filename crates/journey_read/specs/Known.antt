-- What is known of a leg that has kept the rules.
use Rattle.std.specs.Prelude.{ℕ, ◌≤◌, ⊤, List, Option, Contains, IfSome}
use Rattle.tb_base.specs.declared.query.Leg.{Leg}
use Rattle.tb_base.specs.declared.query.Leg.TheVariants.{Walk as WalkLeg, Ride as RideLeg}
use Rattle.tb_base.specs.TimetableData.{TimetableData}
use Rattle.tb_base.specs.JourneyRules.{HasNumbers}

-- a walk takes at most a day
abbrev pub IsShortLeg : Leg → Type 0
IsShortLeg (WalkLeg p q secs) = secs ≤ 86400
IsShortLeg (RideLeg t b i) = ⊤

-- the leg's numbers exist, and it is no longer than a walk may be
pub record IsKnownLeg (T : TimetableData) (leg : Leg) : Type 0 where
  pub numbers : HasNumbers T leg
  pub short : IsShortLeg leg

-- so it is, if there is such a leg
abbrev pub IsKnown : TimetableData → Option Leg → Type 0
IsKnown T leg = IfSome leg (IsKnownLeg T)

-- some stop is one of the origins and one of the targets
abbrev pub SharesAStop : List ℕ → List ℕ → Type 0
SharesAStop origins targets = (p : ℕ) × Contains origins p × Contains targets p
