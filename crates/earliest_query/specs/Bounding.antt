-- What bounds a round of a sweep when it begins: its hits so far, and the values of later
-- departures.
use Rattle.std.specs.Prelude.{ℕ, ◌<◌, List, Option, nat_le, if◌then◌else◌, IfSome, ℤ}
use Rattle.tb_base.specs.declared.query.Value.{Value}
use Rattle.tb_laws.specs.Pruning.{IsLate}
use Rattle.segment_queue.specs.declared.desk.Hit.{Hit}
use Rattle.segment_queue.specs.declared.desk.LastLeg.TheVariants.{OnFoot}
use Rattle.earliest_query.specs.Choices.{ArrivesBy, earlier_hit, last_of}
use Rattle.earliest_query.specs.Sweeping.{values_with}

-- a bound on arrivals, as a hit without rides
abbrev pub bounding_hit : ℤ → Hit
bounding_hit arrive = record { value = record { arrive = arrive; rides = 0 }; last = OnFoot 0 0 }

-- the earlier of the best so far and a value, if that has no more rides than the round
abbrev pub earlier_value : ℕ → Option Hit → Value → Option Hit
earlier_value round best v =
    if nat_le v.rides round then earlier_hit best (bounding_hit v.arrive) else best

-- The best so far when a round begins: it is no hit of this round, it arrives no later than the
-- last hit, and whoever arrives no earlier than it, with the rides of this round, is late.
pub record IsBestBefore (hits : List Hit) (values : List Value) (round : ℕ) (best : Option Hit)
    : Type 0 where
  pub earlier : IfSome best (λ h. h.value.rides < round)
  pub last : (time : ℤ) → ArrivesBy (last_of hits) time → ArrivesBy best time
  pub late : (time : ℤ) → ArrivesBy best time → IsLate (values_with hits values) time round
