-- How legs spell a journey, and the rules that legs may break.
use Rattle.std.specs.Prelude.{◌≡◌, ◌≢◌, ℕ, zero, suc, ◌<◌, ◌==◌, List, [], ◌∷◌, ◌++◌, length, ℤ, pos, ◌+ℤ◌, ◌-ℤ◌, ◌≤ℤ◌, ⊤, Contains, IsSomeAnd, Option, None, Some, if◌then◌else◌, unwrap_or}
use Rattle.tb_base.specs.declared.query.Leg.{Leg}
use Rattle.tb_base.specs.declared.query.Leg.TheVariants.{Walk as WalkLeg, Ride as RideLeg}
use Rattle.tb_base.specs.declared.query.Slot.{Slot}
use Rattle.tb_base.specs.declared.query.Value.{Value}
use Rattle.tb_base.specs.declared.rule.Rule.{Rule}
use Rattle.tb_base.specs.declared.rule.Rule.TheVariants.{BadNumber, TwoWalks, NoWalk, NoBoarding, NoAlighting, WrongStart, TooEarly, Apart, TooLate, WrongEnd}
use Rattle.tb_base.specs.TimetableData.{TimetableData, events_of, stop_at, arrival_at, departure_at, MayBoard, MayAlight}
use Rattle.tb_base.specs.Walking.{walk, change, footpath_secs}
use Rattle.tb_base.specs.Journeys.{Ride, Journey, boarding_stop, alighting_stop}
use Rattle.tb_base.specs.BestValues.{QueryData, HasValue}
use Rattle.tb_base.specs.Profiles.{WindowData, IsOffered}

-- a walk between different stops is a leg, and one within a stop is none
abbrev pub walk_legs : TimetableData → ℕ → ℕ → List Leg
walk_legs T p q = if p == q then [] else WalkLeg p q (unwrap_or (walk T p q) 0) ∷ []

-- the legs behind a ride, on to the target
abbrev pub legs_after : TimetableData → Ride → List Ride → ℕ → List Leg
legs_after T r [] target = walk_legs T (alighting_stop T r) target
legs_after T r (s ∷ rest) target =
    walk_legs T (alighting_stop T r) (boarding_stop T s)
    ++ RideLeg s.trip s.board s.alight ∷ legs_after T s rest target

-- the legs that spell a journey
abbrev pub legs_of : TimetableData → ℕ → List Ride → ℕ → List Leg
legs_of T origin [] target = walk_legs T origin target
legs_of T origin (r ∷ rest) target =
    walk_legs T origin (boarding_stop T r)
    ++ RideLeg r.trip r.board r.alight ∷ legs_after T r rest target

-- the legs spell a journey that the query allows, with this value
pub record SpellValue (T : TimetableData) (Q : QueryData) (legs : List Leg)
    (v : Value) : Type 0 where
  pub by : Journey
  pub has : HasValue T Q by v
  pub spelt : legs ≡ legs_of T by.origin by.rides by.target

-- the legs spell some journey that leaves no earlier than asked
abbrev pub SpellJourney : TimetableData → QueryData → List Leg → Type 0
SpellJourney T Q legs = (v : Value) × SpellValue T Q legs v

-- the legs spell a journey that has the slot
pub record SpellSlot (T : TimetableData) (W : WindowData) (legs : List Leg)
    (slot : Slot) : Type 0 where
  pub by : IsOffered T W slot
  pub spelt : legs ≡ legs_of T by.origin (by.first ∷ by.rest) by.target

-- where a leg begins and ends
abbrev pub start_of : TimetableData → Leg → ℕ
start_of T (WalkLeg p q secs) = p
start_of T (RideLeg t b i) = stop_at T t b

abbrev pub end_of : TimetableData → Leg → ℕ
end_of T (WalkLeg p q secs) = q
end_of T (RideLeg t b i) = stop_at T t i

-- its numbers exist
abbrev pub HasNumbers : TimetableData → Leg → Type 0
HasNumbers T (WalkLeg p q secs) = (p < length T.stops) × (q < length T.stops)
HasNumbers T (RideLeg t b i) = (t < length T.trips) × (b < i) × (i < length (events_of T t))

abbrev pub IsOnFoot : Leg → Type 0
IsOnFoot (WalkLeg p q secs) = ⊤
IsOnFoot (RideLeg t b i) = ⊥

-- a walk leg is a footpath to another stop, with its seconds
abbrev pub IsFootpathLeg : TimetableData → Leg → Type 0
IsFootpathLeg T (WalkLeg p q secs) = (p ≢ q) × (footpath_secs T.footpaths p q ≡ Some secs)
IsFootpathLeg T (RideLeg t b i) = ⊤

abbrev pub BoardsAllowed : TimetableData → Leg → Type 0
BoardsAllowed T (WalkLeg p q secs) = ⊤
BoardsAllowed T (RideLeg t b i) = MayBoard T t b

abbrev pub AlightsAllowed : TimetableData → Leg → Type 0
AlightsAllowed T (WalkLeg p q secs) = ⊤
AlightsAllowed T (RideLeg t b i) = MayAlight T t i

-- Below, a leg stands behind the previous leg, and that behind an earlier one, where there are
-- such legs.

-- the first ride leaves no earlier than asked
abbrev pub LeavesInTime : TimetableData → ℤ → Option Leg → Option Leg → Leg → Type 0
LeavesInTime T asked previous earlier (WalkLeg p q secs) = ⊤
LeavesInTime T asked None earlier (RideLeg t b i) = asked ≤ℤ departure_at T t b
LeavesInTime T asked (Some (RideLeg s a e)) earlier (RideLeg t b i) = ⊤
LeavesInTime T asked (Some (WalkLeg p q secs)) None (RideLeg t b i) =
    asked ≤ℤ (departure_at T t b -ℤ pos secs)
LeavesInTime T asked (Some (WalkLeg p q secs)) (Some leg) (RideLeg t b i) = ⊤

-- a ride behind an earlier ride leaves no earlier than the change allows
abbrev pub ChangesInTime : TimetableData → Option Leg → Option Leg → Leg → Type 0
ChangesInTime T previous earlier (WalkLeg p q secs) = ⊤
ChangesInTime T None earlier (RideLeg t b i) = ⊤
ChangesInTime T (Some (RideLeg s a e)) earlier (RideLeg t b i) =
    IsSomeAnd (change T (stop_at T s e) (stop_at T t b))
    (λ secs. (arrival_at T s e +ℤ pos secs) ≤ℤ departure_at T t b)
ChangesInTime T (Some (WalkLeg p q secs)) None (RideLeg t b i) = ⊤
ChangesInTime T (Some (WalkLeg p q secs)) (Some (WalkLeg u v w)) (RideLeg t b i) = ⊤
ChangesInTime T (Some (WalkLeg p q secs)) (Some (RideLeg s a e)) (RideLeg t b i) =
    (arrival_at T s e +ℤ pos secs) ≤ℤ departure_at T t b

-- a walk doesn't follow a walk
abbrev pub FollowsNoWalk : Option Leg → Leg → Type 0
FollowsNoWalk None leg = ⊤
FollowsNoWalk (Some last) leg = IsOnFoot last → IsOnFoot leg → ⊥

-- the first leg begins at an origin
abbrev pub BeginsAtOrigin : TimetableData → List ℕ → Option Leg → Leg → Type 0
BeginsAtOrigin T origins None leg = Contains origins (start_of T leg)
BeginsAtOrigin T origins (Some last) leg = ⊤

-- each other leg begins where the one before it ended
abbrev pub Joins : TimetableData → Option Leg → Leg → Type 0
Joins T None leg = ⊤
Joins T (Some last) leg = end_of T last ≡ start_of T leg

-- the last leg, behind which there is no other, ends at a target
abbrev pub EndsAtTarget : TimetableData → List ℕ → Leg → List Leg → Type 0
EndsAtTarget T targets leg [] = Contains targets (end_of T leg)
EndsAtTarget T targets leg (next ∷ after) = ⊤

-- what a rule asks of a leg, with the legs behind it
abbrev pub KeepsRule : TimetableData → QueryData → Option Leg → Option Leg → Leg → List Leg →
    Rule → Type 0
KeepsRule T Q previous earlier leg after BadNumber = HasNumbers T leg
KeepsRule T Q previous earlier leg after TwoWalks = FollowsNoWalk previous leg
KeepsRule T Q previous earlier leg after NoWalk = IsFootpathLeg T leg
KeepsRule T Q previous earlier leg after NoBoarding = BoardsAllowed T leg
KeepsRule T Q previous earlier leg after NoAlighting = AlightsAllowed T leg
KeepsRule T Q previous earlier leg after WrongStart = BeginsAtOrigin T Q.from previous leg
KeepsRule T Q previous earlier leg after TooEarly = LeavesInTime T Q.leave previous earlier leg
KeepsRule T Q previous earlier leg after Apart = Joins T previous leg
KeepsRule T Q previous earlier leg after TooLate = ChangesInTime T previous earlier leg
KeepsRule T Q previous earlier leg after WrongEnd = EndsAtTarget T Q.to leg after

-- the legs, which come behind the previous and the earlier one, keep all rules
abbrev pub KeepAllRules : TimetableData → QueryData → Option Leg → Option Leg → List Leg → Type 0
KeepAllRules T Q previous earlier [] = ⊤
KeepAllRules T Q previous earlier (leg ∷ after) =
    ((rule : Rule) → KeepsRule T Q previous earlier leg after rule)
    × KeepAllRules T Q (Some leg) previous after

-- the place of a rule in the order in which they are tried
abbrev pub rule_number : Rule → ℕ
rule_number BadNumber = 1
rule_number TwoWalks = 2
rule_number NoWalk = 3
rule_number NoBoarding = 4
rule_number NoAlighting = 5
rule_number WrongStart = 6
rule_number TooEarly = 7
rule_number Apart = 8
rule_number TooLate = 9
rule_number WrongEnd = 10

-- a leg keeps the rules that are tried before this one, and breaks it
abbrev pub BreaksRule : TimetableData → QueryData → Option Leg → Option Leg → Leg → List Leg →
    Rule → Type 0
BreaksRule T Q previous earlier leg after rule =
    ((r : Rule) → rule_number r < rule_number rule → KeepsRule T Q previous earlier leg after r)
    × (KeepsRule T Q previous earlier leg after rule → ⊥)

-- leg n of the legs is the first that breaks a rule, and this is the first that it breaks
abbrev pub IsFirstBroken : TimetableData → QueryData → Option Leg → Option Leg → List Leg → ℕ →
    Rule → Type 0
IsFirstBroken T Q previous earlier [] n rule = ⊥
IsFirstBroken T Q previous earlier (leg ∷ after) zero rule =
    BreaksRule T Q previous earlier leg after rule
IsFirstBroken T Q previous earlier (leg ∷ after) (suc n) rule =
    ((r : Rule) → KeepsRule T Q previous earlier leg after r)
    × IsFirstBroken T Q (Some leg) previous after n rule

-- no stop is both origin and target: then the empty list of legs is no journey
abbrev pub IsJourneyless : QueryData → Type 0
IsJourneyless Q = (p : ℕ) → Contains Q.from p → Contains Q.to p → ⊥

-- the first rule that the legs break; no legs at all end at no target, unless some origin is one
abbrev pub BreaksFirst : TimetableData → QueryData → List Leg → ℕ → Rule → Type 0
BreaksFirst T Q [] n rule = (n ≡ 0) × (rule ≡ WrongEnd) × IsJourneyless Q
BreaksFirst T Q (leg ∷ legs) n rule = IsFirstBroken T Q None None (leg ∷ legs) n rule
