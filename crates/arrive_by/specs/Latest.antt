-- The latest departures, each with the legs of a journey.
use Rattle.std.specs.Prelude.{ℕ, ℤ, List, All, map}
use Rattle.tb_base.specs.BestValues.{ChoiceData}
use Rattle.tb_base.specs.TimetableData.{TimetableData}
use Rattle.tb_base.specs.declared.query.Leg.{Leg}
use Rattle.edition_store.specs.Departures.{AreLatest, ArrivalData, LeavingData, SpellLeaving}
use Rattle.edition_store.specs.Mirror.{mirror_time}
use Rattle.edition_store.specs.TurnedJourneys.{turn_legs}

-- when one leaves, the number of rides, and the legs of a journey
pub record DepartureData : Type 0 where
  pub leave : ℤ
  pub rides : ℕ
  pub legs : List Leg

abbrev pub pair_of : DepartureData → LeavingData
pair_of d = record { leave = d.leave; rides = d.rides }

-- The latest departures by rides, smallest first, each with the legs of a journey that leaves then
-- with so many rides and arrives in time.
pub record AreLatestDepartures (T : TimetableData) (A : ArrivalData)
    (ds : List DepartureData) : Type 0 where
  pub pairs : AreLatest T A (map pair_of ds)
  pub journeys : All (λ d. SpellLeaving T A (DepartureData.legs d) (pair_of d)) ds

-- a choice in the mirror M, turned round
abbrev pub departure_from : TimetableData → ChoiceData → DepartureData
departure_from M c = record {
  leave = mirror_time c.value.arrive;
  rides = c.value.rides;
  legs = turn_legs M c.legs;
}
