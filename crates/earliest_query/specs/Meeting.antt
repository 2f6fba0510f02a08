-- What is done at the events of a search, besides weighing them for its hits.
use Rattle.std.specs.Prelude.{ℕ, ◌⊎◌, Option}
use Rattle.tb_base.specs.Network.{NetData}
use Rattle.tb_base.specs.TimetableData.{arrival_at}
use Rattle.segment_queue.specs.declared.desk.Hit.{Hit}
use Rattle.segment_queue.specs.Queue.{DeskData}
use Rattle.segment_queue.specs.Traced.{round_of, segment_of}
use Rattle.earliest_query.specs.Choices.{ArrivesBy}
use Rattle.earliest_query.specs.UnderWay.{IsHit, IsOutdone}

-- the event at index i of segment n has been met in the segment's round
abbrev pub IsMet : (ℕ → ℕ → ℕ → Type 0) → DeskData → ℕ → ℕ → Type 0
IsMet met D n i = met (segment_of D.segments n).trip i (round_of D.segments n)

-- it has been met, or one gets there no earlier than the best hit so far arrives, or it is outdone
abbrev pub IsMetInTime : NetData → (ℕ → ℕ → ℕ → Type 0) → DeskData → Option Hit → ℕ → ℕ → Type 0
IsMetInTime N met D best n i = IsMet met D n i
    ⊎ (ArrivesBy best (arrival_at N.table (segment_of D.segments n).trip i)
    ⊎ IsOutdone N D.segments n i)

-- it has been met, or some hit is no worse than to get there, or it is outdone
abbrev pub IsMetUnlessHit : NetData → (ℕ → ℕ → ℕ → Type 0) → DeskData → ℕ → ℕ → Type 0
IsMetUnlessHit N met D n i = IsMet met D n i
    ⊎ (IsHit D.hits (record {
      arrive = arrival_at N.table (segment_of D.segments n).trip i;
      rides = round_of D.segments n;
    })
    ⊎ IsOutdone N D.segments n i)
