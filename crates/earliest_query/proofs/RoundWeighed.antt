-- What is kept while the segments of a round are weighed.
use Rattle.std.proofs.Common.{◌≡◌, ℕ, ◌+◌, ◌<◌, ◌≤◌, ◌⊎◌, length, Option}
use Rattle.std.specs.Prelude.{All}
use Rattle.tb_base.specs.Network.{NetData}
use Rattle.tb_base.specs.BestValues.{QueryData}
use Rattle.segment_queue.specs.declared.desk.Hit.{Hit}
use Rattle.segment_queue.specs.Queue.{DeskData}
use Rattle.earliest_query.specs.Meeting.{IsMetInTime}
use Rattle.earliest_query.specs.Noted.{IsSoundNote, IsWeighedOff}
use Rattle.earliest_query.specs.UnderWay.{Covers, IsImproved, IsOutdone, covered_before}

-- the segments of desk D from one number up to another have been weighed; desk E is D with notes
pub record AreWeighed (N : NetData) (Q : QueryData) (D : DeskData) (from round : ℕ) (so_far : Option Hit) (was now : ℕ → ℕ → ℕ → Type 0) (Ready : ℕ → Type 0) (before : ℕ) (E : DeskData) (best : Option Hit) (steps to : ℕ) : Type 0 where
  pub rest : E ≡ record D { notes = E.notes }
  pub sound : All (IsSoundNote N D.segments round) E.notes
  pub weighed : (n i : ℕ) → from ≤ n → n < to → Covers D n i → IsWeighedOff N Q D best E.notes n i ⊎ IsOutdone N D.segments n i
  pub improved : IsImproved N.table Q D round so_far best
  pub met : (n i : ℕ) → from ≤ n → n < to → Covers D n i → IsMetInTime N now D best n i
  pub ready : (later : ℕ) → round ≤ later → Ready later
  pub still_met : (t i r : ℕ) → was t i r → now t i r
  pub few : length E.notes + covered_before D.segments from ≤ covered_before D.segments to
  pub counted : steps + covered_before D.segments from ≤ before + covered_before D.segments to
