-- What is said of a claimed journey.
use Rattle.std.specs.Prelude.{◌≢◌, ℕ, ◌+◌, List, [], ◌∷◌, ℤ, pos, ◌+ℤ◌, ◌≤ℤ◌, ⊤}
use Rattle.tb_base.specs.declared.query.Leg.{Leg}
use Rattle.tb_base.specs.declared.query.Leg.TheVariants.{Walk as WalkLeg, Ride as RideLeg}
use Rattle.tb_base.specs.declared.query.Value.{Value}
use Rattle.tb_base.specs.BestValues.{ChoiceData, QueryData}
use Rattle.tb_base.specs.JourneyRules.{BreaksFirst, SpellValue}
use Rattle.tb_base.specs.TimetableData.{TimetableData, arrival_at}
use Rattle.journey_read.specs.Known.{IsKnownLeg}
use Rattle.journey_read.specs.declared.verdict.Verdict.{Verdict}
use Rattle.journey_read.specs.declared.verdict.Verdict.TheVariants as verdict

-- the legs spell a journey with the claimed value, or with another one, or break a rule
abbrev pub IsVerdict : TimetableData → QueryData → ChoiceData → Verdict → Type 0
IsVerdict T Q claimed verdict.Yes = SpellValue T Q claimed.legs claimed.value
IsVerdict T Q claimed (verdict.Broken r) = BreaksFirst T Q claimed.legs r.leg r.rule
IsVerdict T Q claimed (verdict.OtherValue v) =
    SpellValue T Q claimed.legs v × (v ≢ claimed.value)

-- the time at the end of a leg that is begun at a time
abbrev pub time_after : TimetableData → ℤ → Leg → ℤ
time_after T time (WalkLeg p q secs) = time +ℤ pos secs
time_after T time (RideLeg t b i) = arrival_at T t i

abbrev pub rides_on : Leg → ℕ
rides_on (WalkLeg p q secs) = 0
rides_on (RideLeg t b i) = 1

-- the value of a way after some rides, at whose end it is this time, with these further legs
abbrev pub value_after : TimetableData → ℤ → ℕ → List Leg → Value
value_after T time rides [] = record { arrive = time; rides = rides }
value_after T time rides (leg ∷ legs) =
    value_after T (time_after T time leg) (rides + rides_on leg) legs

-- legs that are begun at a time: their numbers exist, no walk takes more than a day, and no leg
-- ends later than a day behind the last time of a timetable
abbrev pub GoesOn : TimetableData → ℤ → List Leg → Type 0
GoesOn T time [] = ⊤
GoesOn T time (leg ∷ legs) =
    IsKnownLeg T leg × (time_after T time leg ≤ℤ pos 446399)
    × GoesOn T (time_after T time leg) legs
