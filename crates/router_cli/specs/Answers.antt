-- What the program writes for a request.
use Rattle.std.specs.Prelude.{◌≡◌, ◌<◌, ℕ, List, ℤ, Bool, true, false, Option, Ok, Err, MatchResult, All, length, map}
use Rattle.tb_base.specs.Network.{NetData}
use Rattle.tb_base.specs.TimetableData.{TimetableData}
use Rattle.tb_base.specs.Lines.{AreLines}
use Rattle.tb_base.specs.BestValues.{QueryData, ChoiceData, AreBestValues, IsLeast, IsDirectArrival}
use Rattle.tb_base.specs.Transfers.{kept_hops}
use Rattle.plain_rounds.specs.Shown.{SpellShortest}
use Rattle.answer_text.specs.Questions.{needs_mirror}
use Rattle.answer_text.specs.declared.question.Question.{Question}
use Rattle.answer_text.specs.declared.question.Question.TheVariants as question
use Rattle.answer_json.specs.Shown.{shown_arrival, shown_choices, shown_unknown}
use Rattle.answer_json.specs.declared.frame.Frame.TheVariants as frame
use Rattle.edition_build.specs.Reports.{IsReport}
use Rattle.query_gate.specs.Questions.{Ends, ends_between, query_at}
use Rattle.query_gate.specs.Replies.{AreBestChoices, AtEnds, IsReply}
use Rattle.query_gate.specs.Json.{shown_reply}
use Rattle.query_gate.specs.declared.reply.Reply.{Reply}
use Rattle.query_gate.specs.declared.reply.Reply.TheVariants as reply
use Rattle.command_line.specs.Inquiries.{InquiryData}
use Rattle.command_line.specs.DayCommands.{DayRequestData}
use Rattle.router_cli.specs.declared.over_table.Asked.{Asked}
use Rattle.router_cli.specs.declared.over_table.Asked.TheVariants as asked
use Rattle.command_line.specs.declared.request.Command.{Command}
use Rattle.command_line.specs.declared.request.Command.TheVariants as command

-- the least arrival over the journeys of exactly one ride that the query allows, or that there is
-- none
abbrev pub IsDirectText : Bool → TimetableData → QueryData → List ℕ → Type 0
IsDirectText json T Q bytes =
    (least : Option ℤ) × IsLeast (IsDirectArrival T Q) least × (bytes ≡ shown_arrival json least)

-- a timetable with these lines, and the transfers that are kept between them
abbrev pub kept_network : TimetableData → List (List ℕ) → NetData
kept_network T lines = record { table = T; lines = lines; hops = kept_hops T lines }

-- The right reply to a question about a timetable: the first name that is no place; or what is
-- asked, each of it with a journey that has it, which for the best values and for a profile
-- changes by kept transfers.
pub record IsKeptReply (T : TimetableData) (q : Question) (r : Reply) : Type 0 where
  pub lines : List (List ℕ)
  pub are_lines : needs_mirror q ≡ false → AreLines T lines
  pub right : IsReply (kept_network T lines) q r

-- the best values of a query in order, each with any journey that has it, by the shortest walks at
-- both ends
pub record AreAnyChoices (T : TimetableData) (Q : QueryData) (choices : List ChoiceData)
    : Type 0 where
  pub values : AreBestValues T Q (map ChoiceData.value choices)
  pub journeys : All (λ c. SpellShortest T Q (ChoiceData.legs c) (ChoiceData.value c)) choices

-- the right reply round by round
abbrev pub IsRoundsReply : TimetableData → List ℕ → List ℕ → ℤ → Reply → Type 0
IsRoundsReply T from to leave (reply.Values choices) =
    AtEnds T from to (λ ends. AreAnyChoices T (query_at ends leave) choices.items)
IsRoundsReply T from to leave (reply.UnknownStop name) = ends_between T from to ≡ Err name
IsRoundsReply T from to leave r = ⊥

-- round by round any journeys may be shown for the best values, else those by kept transfers
abbrev pub IsAskReply : TimetableData → Bool → List ℕ → List ℕ → ℤ → Reply → Type 0
IsAskReply T true from to leave = IsRoundsReply T from to leave
IsAskReply T false from to leave = IsKeptReply T (question.Ask from to leave)

abbrev pub IsRightReply : TimetableData → Bool → Question → Reply → Type 0
IsRightReply T plain (question.Ask from to leave) = IsAskReply T plain from to leave
IsRightReply T plain q = IsKeptReply T q

-- a right reply to a question, as lines of JSON or as a text
pub record ShowsReply (json : Bool) (T : TimetableData) (plain : Bool) (q : Question)
    (bytes : List ℕ) : Type 0 where
  pub reply : Reply
  pub right : IsRightReply T plain q reply
  pub text : bytes ≡ shown_reply json frame.Lines T reply

-- the best values of a query in order, each followed by the legs of a journey that has it and
-- changes by kept transfers
pub record ShowsKept (json : Bool) (T : TimetableData) (Q : QueryData) (bytes : List ℕ)
    : Type 0 where
  pub lines : List (List ℕ)
  pub are_lines : AreLines T lines
  pub choices : List ChoiceData
  pub best : AreBestChoices (kept_network T lines) Q choices
  pub text : bytes ≡ shown_choices json T choices

-- What is written about two places: where one is no place of the timetable, that the stop is
-- unknown, the origin first; else a text about the stops of both.
abbrev pub IsTextBetween : Bool → TimetableData → List ℕ → List ℕ → (Ends → List ℕ → Type 0)
    → List ℕ → Type 0
IsTextBetween json T from to IsTextOf bytes =
    MatchResult (ends_between T from to) (λ ends. IsTextOf ends bytes)
    (λ name. bytes ≡ shown_unknown json name)

abbrev pub IsInquiryText : Bool → TimetableData
    → (Bool → TimetableData → QueryData → List ℕ → Type 0) → InquiryData → List ℕ → Type 0
IsInquiryText json T IsTextOf i =
    IsTextBetween json T i.from i.to (λ ends. IsTextOf json T (query_at ends i.time))

-- the answer to a command, as JSON or as a text
abbrev pub IsCommandText : Bool → TimetableData → Bool → Command → List ℕ → Type 0
IsCommandText json T plain (command.Direct i) = IsInquiryText json T IsDirectText i
IsCommandText json T plain (command.Question q) = ShowsReply json T plain q
IsCommandText json T plain (command.Build list) = IsReport json T list

abbrev pub IsAnswer : TimetableData → DayRequestData → List ℕ → Type 0
IsAnswer T r = IsCommandText r.json T r.plain r.command

-- the query between two named places, between stops that exist, or the name that is no place
abbrev pub IsQuery : TimetableData → List ℕ → List ℕ → ℤ → Asked → Type 0
IsQuery T from to leave (asked.Query q) =
    (ends : Ends) × (ends_between T from to ≡ Ok ends) × (q ≡ query_at ends leave)
    × All (λ p. p < length T.stops) ends.from × All (λ p. p < length T.stops) ends.to
IsQuery T from to leave (asked.Unknown name) = ends_between T from to ≡ Err name.now
