-- The profile of a window: the best journeys with rides, by leaving time, arrival and number of
-- rides.
use Rattle.std.specs.Prelude.{◌≡◌, ℕ, ◌<◌, ◌≤◌, ◌⊎◌, List, ◌∷◌, length, ℤ, ◌+ℤ◌, ◌≤ℤ◌, ◌<ℤ◌, All, AllPairs, Contains, Some, pos}
use Rattle.tb_base.specs.declared.query.Leg.{Leg}
use Rattle.tb_base.specs.declared.query.Slot.{Slot}
use Rattle.tb_base.specs.TimetableData.{TimetableData}
use Rattle.tb_base.specs.Walking.{walk}
use Rattle.tb_base.specs.Journeys.{Ride, IsJourney, leaving_time, arrival_after}

pub record WindowData : Type 0 where
  pub from : List ℕ
  pub to : List ℕ
  pub first : ℤ
  pub last : ℤ

-- when a journey with rides leaves and arrives, and how many rides it has
abbrev pub slot_of : TimetableData → ℕ → Ride → List Ride → ℕ → Slot
slot_of T origin r rest target =
    record {
      leave = leaving_time T origin r;
      arrive = arrival_after T r rest target;
      rides = length (r ∷ rest);
    }

-- some journey with rides has the slot
pub record IsOffered (T : TimetableData) (W : WindowData) (slot : Slot) : Type 0 where
  pub origin : ℕ
  pub first : Ride
  pub rest : List Ride
  pub target : ℕ
  pub journey : IsJourney T W.from W.to
      (record { origin = origin; rides = first ∷ rest; target = target })
  pub is : slot ≡ slot_of T origin first rest target

-- a slot, and the legs of a journey
pub record OfferData : Type 0 where
  pub slot : Slot
  pub legs : List Leg

-- one slot leaves no earlier, arrives no later and has no more rides
pub record IsSlotNoWorse (u v : Slot) : Type 0 where
  pub leave : v.leave ≤ℤ u.leave
  pub arrive : u.arrive ≤ℤ v.arrive
  pub rides : u.rides ≤ v.rides

-- a walk that leaves with the slot arrives after it
abbrev pub BeatsWalks : TimetableData → WindowData → Slot → Type 0
BeatsWalks T W slot =
    (p q secs : ℕ) → Contains W.from p → Contains W.to q → walk T p q ≡ Some secs →
    slot.arrive <ℤ (slot.leave +ℤ pos secs)

pub record IsProfileSlot (T : TimetableData) (W : WindowData) (slot : Slot) : Type 0 where
  pub offered : IsOffered T W slot
  pub not_before : W.first ≤ℤ slot.leave
  pub not_after : slot.leave ≤ℤ W.last
  pub undominated : (other : Slot) → IsOffered T W other → IsSlotNoWorse other slot → other ≡ slot
  pub beats_walks : BeatsWalks T W slot

-- by leaving time, greatest first, then by rides, smallest first
abbrev pub SlotPrecedes : Slot → Slot → Type 0
SlotPrecedes u v = (v.leave <ℤ u.leave) ⊎ ((u.leave ≡ v.leave) × (u.rides < v.rides))

pub record IsProfile (T : TimetableData) (W : WindowData) (slots : List Slot) : Type 0 where
  pub best : All (IsProfileSlot T W) slots
  pub complete : (slot : Slot) → IsProfileSlot T W slot → Contains slots slot
  pub ordered : AllPairs SlotPrecedes slots
