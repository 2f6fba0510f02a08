-- Which of the values that a search finds are slots of the profile.
use Rattle.std.specs.Prelude.{ℕ, ◌<◌, ◌&&◌, not, Bool, List, ◌++◌, map, filter, ℤ, int_le, nat_le, nat_lt, All, AllPairs, Contains}
use Rattle.std.specs.List.{list_any}
use Rattle.tb_base.specs.declared.query.Slot.{Slot}
use Rattle.tb_base.specs.declared.query.Value.{Value}
use Rattle.tb_base.specs.declared.transfer.Hop.{Hop}
use Rattle.tb_base.specs.TimetableData.{TimetableData}
use Rattle.tb_base.specs.BestValues.{QueryData, IsAttained, IsNoWorse, IsStep}
use Rattle.tb_base.specs.JourneyRules.{SpellValue}
use Rattle.tb_base.specs.Profiles.{OfferData}
use Rattle.tb_laws.specs.Pruning.{IsLate}
use Rattle.segment_queue.specs.Traced.{LegsFollow}

-- values of journeys that leave no earlier than asked: for each such journey with a ride one that
-- is no worse
pub record AreLater (T : TimetableData) (Q : QueryData) (values : List Value) : Type 0 where
  pub attained : All (IsAttained T Q) values
  pub cover : (w : Value) → IsAttained T Q w → 0 < w.rides →
      (v : Value) × Contains values v × IsNoWorse v w

-- values that are attained at the time of the query, each with more rides and an earlier arrival
-- than the one before it
pub record AreFound (T : TimetableData) (Q : QueryData) (later values : List Value) : Type 0 where
  pub attained : All (IsAttained T Q) values
  pub stairs : AllPairs IsStep values
  -- for each journey that leaves no earlier, one of them or of the later ones is no worse
  pub cover : (w : Value) → IsAttained T Q w → IsLate (values ++ later) w.arrive w.rides

-- u arrives no later than v and has no more rides
abbrev pub is_no_worse : Value → Value → Bool
is_no_worse u v = int_le u.arrive v.arrive && nat_le u.rides v.rides

-- the value has a ride, and none of the later ones is no worse
abbrev pub is_kept : List Value → Value → Bool
is_kept later v = nat_lt 0 v.rides && not (list_any (λ u. is_no_worse u v) later)

-- a value, found at the time, as a slot
abbrev pub slot_at : ℤ → Value → Slot
slot_at time v = record { leave = time; arrive = v.arrive; rides = v.rides }

-- the slots of a time: of the values found then those that are kept
abbrev pub slots_at : ℤ → List Value → List Value → List Slot
slots_at time later values = map (slot_at time) (filter (is_kept later) values)

-- the legs of an offer spell a journey that leaves no earlier than its slot and has its value, by
-- hops of the set
pub record IsShown (T : TimetableData) (from to : List ℕ) (hops : ℕ → ℕ → List Hop)
    (o : OfferData) : Type 0 where
  pub spelt : SpellValue T (record { from = from; to = to; leave = o.slot.leave }) o.legs
      (record { arrive = o.slot.arrive; rides = o.slot.rides })
  pub follows : LegsFollow hops o.legs
