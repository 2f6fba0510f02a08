-- Which replies are right over a list of published editions.
use Rattle.std.specs.Prelude.{◌≡◌, ℕ, ◌≤◌, ◌<◌, ◌-◌, List, true, false, length, None, Some, slice_get}
use Rattle.history.specs.Lists.{Shown}
use Rattle.segment_queue.specs.Queue.{DeskData}
use Rattle.edition_store.specs.Editions.{EditionData, NetworkData, net_of, network_of}
use Rattle.answer_text.specs.Questions.{needs_mirror}
use Rattle.answer_text.specs.declared.question.Question.{Question}
use Rattle.query_gate.specs.Questions.{Serves}
use Rattle.query_gate.specs.Replies.{HaveNumbers, IsReply, LeavesAnswered}
use Rattle.query_gate.specs.declared.reply.Reply.{Reply}
use Rattle.query_gate.specs.declared.reply.Reply.TheVariants as reply

-- the list that a caller's seat keeps, and its desk
pub record CallerData : Type 0 where
  pub kept : Shown EditionData
  pub desk : DeskData

-- edition n of a list, counted from 1
abbrev pub IsEditionOf : List EditionData → ℕ → EditionData → Type 0
IsEditionOf editions n e = (1 ≤ n) × (slice_get editions (n - 1) ≡ Some e)

-- the question is one for latest departures, and the edition has no mirror
abbrev pub LacksMirror : EditionData → Question → Type 0
LacksMirror e q = (needs_mirror q ≡ true) × (e.mirror ≡ None)

-- N answers the question about the edition's timetable: its own network, or that of its mirror
pub record IsServing (e : EditionData) (q : Question) (N : NetworkData) : Type 0 where
  pub serves : Serves e.table N.table q
  pub own : needs_mirror q ≡ false → N ≡ network_of e

-- the right reply of edition n to a question that edition `since` or a later one may answer: that
-- it is deferred where this one is earlier, that there is no mirror where it takes one, else what
-- this edition says
abbrev pub Answers : ℕ → EditionData → ℕ → Question → Reply → Type 0
Answers n e since q (reply.Deferred number) = (n < since) × (number ≡ since)
Answers n e since q reply.NoMirror = (since ≤ n) × LacksMirror e q
Answers n e since q r = (since ≤ n) × IsReply (net_of (network_of e)) q r

-- the right reply by edition n of a list
abbrev pub IsAnsweredBy : List EditionData → ℕ → ℕ → Question → Reply → Type 0
IsAnsweredBy editions n since q r =
    (e : EditionData) × IsEditionOf editions n e × Answers n e since q r

-- with values the desk holds the answer over the last edition of the list
abbrev pub LeavesAnsweredBy : List EditionData → Question → Reply → DeskData → Type 0
LeavesAnsweredBy editions q r D =
    (e : EditionData) → IsEditionOf editions (length editions) e →
    LeavesAnswered (net_of (network_of e)) q r D

-- the trips, stops and indices in all legs of a reply exist in edition n of a list
abbrev pub HasLegNumbersIn : List EditionData → ℕ → Reply → Type 0
HasLegNumbersIn editions n r =
    (e : EditionData) → IsEditionOf editions n e → HaveNumbers e.table r
