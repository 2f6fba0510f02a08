-- Which replies are right, and their texts.
use Rattle.std.specs.Prelude.{◌≡◌, ⊤, ℕ, ◌<◌, List, ◌++◌, ℤ, codes, length, Option, None, Some, Ok, Err, All, map}
use Rattle.std.specs.Fmt.{decimal}
use Rattle.tb_base.specs.BestValues.{AreBestValues, ChoiceData, QueryData}
use Rattle.tb_base.specs.JourneyRules.{HasNumbers, SpellSlot}
use Rattle.tb_base.specs.Network.{NetData}
use Rattle.tb_base.specs.Profiles.{IsProfile, OfferData, WindowData}
use Rattle.tb_base.specs.TimetableData.{TimetableData}
use Rattle.transfer_pack.specs.Packed.{packed}
use Rattle.plain_rounds.specs.Shown.{SpellShortest}
use Rattle.segment_queue.specs.Queue.{DeskData}
use Rattle.segment_queue.specs.Traced.{IsAnswered, LegsFollow}
use Rattle.segment_queue.specs.declared.desk.Hit.{Hit}
use Rattle.edition_store.specs.Departures.{ArrivalData}
use Rattle.edition_store.specs.Editions.{NetworkData}
use Rattle.answer_text.specs.Journeys.{choices_text, offers_text, unknown_text}
use Rattle.answer_text.specs.declared.question.Question.{Question}
use Rattle.answer_text.specs.declared.question.Question.TheVariants as question
use Rattle.arrive_by.specs.Latest.{AreLatestDepartures, DepartureData}
use Rattle.arrive_by.specs.Text.{departures_text}
use Rattle.reach_all.specs.Reach.{IsReach}
use Rattle.reach_all.specs.Text.{reach_text}
use Rattle.reach_all.specs.TimesText.{times_text}
use Rattle.reach_all.specs.TravelTimes.{AreFiguresOver}
use Rattle.reach_all.specs.declared.departures.Departures.{Departures}
use Rattle.query_gate.specs.Questions.{Ends, ends_between, query_at, stops_named}
use Rattle.query_gate.specs.declared.between.Between.{Between}
use Rattle.query_gate.specs.declared.between.Between.TheVariants as between
use Rattle.query_gate.specs.declared.reply.Reply.{Reply}
use Rattle.query_gate.specs.declared.reply.Reply.TheVariants as reply

-- the stops of two named places, or the first name that is none
abbrev pub IsBetween : TimetableData → List ℕ → List ℕ → Between → Type 0
IsBetween T from to (between.Stops origins targets) =
    ends_between T from to ≡ Ok (record { from = origins.items; to = targets.items })
IsBetween T from to (between.Unknown name) = ends_between T from to ≡ Err name.now

-- the stops are among so many
abbrev pub AreWithin : ℕ → Between → Type 0
AreWithin n (between.Stops origins targets) = All (λ p. p < n) origins.items
    × All (λ p. p < n) targets.items
AreWithin n (between.Unknown name) = ⊤

-- The best values of a query in order, each with a journey that has it, by the shortest walks at
-- both ends and by hops of the network.
pub record AreBestChoices (N : NetData) (Q : QueryData) (choices : List ChoiceData) : Type 0 where
  pub values : AreBestValues N.table Q (map ChoiceData.value choices)
  pub journeys : All (λ c. SpellShortest N.table Q (ChoiceData.legs c) (ChoiceData.value c)) choices
  pub hops : All (λ c. LegsFollow N.hops (ChoiceData.legs c)) choices

-- The slots of a window's profile in order, each with a journey that has it, by hops of the
-- network.
pub record AreBestOffers (N : NetData) (W : WindowData) (offers : List OfferData) : Type 0 where
  pub slots : IsProfile N.table W (map OfferData.slot offers)
  pub journeys : All (λ o. SpellSlot N.table W (OfferData.legs o) (OfferData.slot o)) offers
  pub hops : All (λ o. LegsFollow N.hops (OfferData.legs o)) offers

-- both names are those of places, and so it is of their stops
abbrev pub AtEnds : TimetableData → List ℕ → List ℕ → (Ends → Type 0) → Type 0
AtEnds T from to P = (ends : Ends) × (ends_between T from to ≡ Ok ends) × P ends

-- the window between two such places
abbrev pub window_at : Ends → ℤ → ℤ → WindowData
window_at ends first last = record { from = ends.from; to = ends.to; first = first; last = last }

-- the arrival between two such places
abbrev pub arrival_by : Ends → ℤ → ArrivalData
arrival_by ends arrive = record { from = ends.from; to = ends.to; by = arrive }

-- the departures of a question for travel times
abbrev pub departures_at : ℤ → ℤ → ℕ → Departures
departures_at first last step = record { first = first; last = last; step = step }

-- The right reply to each kind of question, which may be the first name that no stop and no station
-- has: for the best values,
abbrev pub IsReplyToAsk : NetData → List ℕ → List ℕ → ℤ → Reply → Type 0
IsReplyToAsk N from to leave (reply.Values choices) =
    AtEnds N.table from to (λ ends. AreBestChoices N (query_at ends leave) choices.items)
IsReplyToAsk N from to leave (reply.UnknownStop name) = ends_between N.table from to ≡ Err name
IsReplyToAsk N from to leave r = ⊥

-- for a profile,
abbrev pub IsReplyToProfile : NetData → List ℕ → List ℕ → ℤ → ℤ → Reply → Type 0
IsReplyToProfile N from to first last (reply.Slots offers) =
    AtEnds N.table from to (λ ends. AreBestOffers N (window_at ends first last) offers.items)
IsReplyToProfile N from to first last (reply.UnknownStop name) =
    ends_between N.table from to ≡ Err name
IsReplyToProfile N from to first last r = ⊥

-- for the latest departures,
abbrev pub IsReplyToLatest : TimetableData → List ℕ → List ℕ → ℤ → Reply → Type 0
IsReplyToLatest T from to arrive (reply.Departures ds) =
    AtEnds T from to (λ ends. AreLatestDepartures T (arrival_by ends arrive) ds.items)
IsReplyToLatest T from to arrive (reply.UnknownStop name) = ends_between T from to ≡ Err name
IsReplyToLatest T from to arrive r = ⊥

-- for the best values to every stop,
abbrev pub IsReplyToReach : TimetableData → List ℕ → ℤ → Reply → Type 0
IsReplyToReach T from leave (reply.Reached lists) =
    (stops : List ℕ) × (stops_named T from ≡ Some stops)
    × IsReach T stops leave (map (λ list. list.items) lists.items)
IsReplyToReach T from leave (reply.UnknownStop name) =
    (stops_named T from ≡ None) × (name ≡ from)
IsReplyToReach T from leave r = ⊥

-- and for travel times to every stop
abbrev pub IsReplyToTimes : TimetableData → List ℕ → ℤ → ℤ → ℕ → Option ℕ → Reply → Type 0
IsReplyToTimes T from first last step rides (reply.Times travel) =
    (stops : List ℕ) × (stops_named T from ≡ Some stops)
    × AreFiguresOver T stops rides (departures_at first last step) travel.departures
    travel.figures.items
IsReplyToTimes T from first last step rides (reply.UnknownStop name) =
    (stops_named T from ≡ None) × (name ≡ from)
IsReplyToTimes T from first last step rides r = ⊥

-- the right reply to a question over a network
abbrev pub IsReply : NetData → Question → Reply → Type 0
IsReply N (question.Ask from to leave) r = IsReplyToAsk N from to leave r
IsReply N (question.Profile from to first last) r = IsReplyToProfile N from to first last r
IsReply N (question.Latest from to arrive) r = IsReplyToLatest N.table from to arrive r
IsReply N (question.Reach from leave) r = IsReplyToReach N.table from leave r
IsReply N (question.Times from first last step rides) r =
    IsReplyToTimes N.table from first last step rides r

-- What a reply leaves in the desk: with values the answer to the query, whose hits have these
-- values; of other replies nothing is said.
abbrev pub LeavesAnswered : NetData → Question → Reply → DeskData → Type 0
LeavesAnswered N (question.Ask from to leave) (reply.Values choices) D =
    AtEnds N.table from to (λ ends. IsAnswered N (query_at ends leave) D
    × (map ChoiceData.value choices.items ≡ map (λ (h : Hit). h.value) D.hits))
LeavesAnswered N q r D = ⊤

-- the trips, stops and indices in all its legs exist, and there is a list of values, or figures, a
-- stop
abbrev pub HaveNumbers : TimetableData → Reply → Type 0
HaveNumbers T (reply.Values choices) =
    All (λ c. All (HasNumbers T) (ChoiceData.legs c)) choices.items
HaveNumbers T (reply.Slots offers) = All (λ o. All (HasNumbers T) (OfferData.legs o)) offers.items
HaveNumbers T (reply.Departures ds) = All (λ d. All (HasNumbers T) (DepartureData.legs d)) ds.items
HaveNumbers T (reply.Reached lists) = length lists.items ≡ length T.stops
HaveNumbers T (reply.Times travel) = length travel.figures.items ≡ length T.stops
HaveNumbers T (reply.UnknownStop name) = ⊤
HaveNumbers T (reply.Deferred number) = ⊤
HaveNumbers T reply.NoMirror = ⊤

-- a timetable with the lines and the hops of a network
abbrev pub over : TimetableData → NetworkData → NetData
over T N = record { table = T; lines = N.lines; hops = packed N.set }

-- `deferred N`
abbrev pub deferred_text : ℕ → List ℕ
deferred_text number = codes "deferred " ++ decimal number ++ codes "\n"

-- the lines of a reply over a timetable
abbrev pub reply_text : TimetableData → Reply → List ℕ
reply_text T (reply.Values choices) = choices_text T choices.items
reply_text T (reply.Slots offers) = offers_text T offers.items
reply_text T (reply.Departures ds) = departures_text T ds.items
reply_text T (reply.Reached lists) = reach_text T (map (λ list. list.items) lists.items)
reply_text T (reply.Times travel) = times_text T travel.departures travel.figures.items
reply_text T (reply.UnknownStop name) = unknown_text name
reply_text T (reply.Deferred number) = deferred_text number
reply_text T reply.NoMirror = codes "no mirror\n"
