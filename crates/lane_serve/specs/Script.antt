-- What a script says: lanes of requests, or the first bad line.
use Rattle.std.specs.Prelude.{ℕ, ◌+◌, ◌<◌, ◌≤◌, ◌==◌, List, [], ◌∷◌, ◌++◌, Bool, length, nat_lt, sum_by, Option, Some, None, Result, Ok, Err, All, if◌then◌else◌}
use Rattle.std.specs.List.{list_any}
use Rattle.std.specs.Option.{option_and_then}
use Rattle.answer_text.specs.Questions.{needs_mirror}
use Rattle.gtfs_rows.specs.Steps.{and_then}
use Rattle.text_lines.specs.LineWords.{line_words}
use Rattle.text_lines.specs.Lines.{lines_of}
use Rattle.query_gate.specs.declared.said.Said.{Said}
use Rattle.query_gate.specs.declared.said.Said.TheVariants as said
use Rattle.query_gate.specs.Said.{IsAskable, said_of}
use Rattle.query_gate.specs.declared.said.Line.{Line}
use Rattle.lane_serve.specs.declared.script.ScriptFault.{ScriptFault}
use Rattle.lane_serve.specs.declared.script.ScriptFault.TheVariants as fault

-- a lane: its name, and its requests in order
pub record LaneData : Type 0 where
  pub name : List ℕ
  pub lines : List Line

-- what a script says up to a line: whether its replies are wanted as JSON, how many lines that is,
-- how many requests, and the lanes
pub record SoFar : Type 0 where
  pub json : Bool
  pub lines : ℕ
  pub requests : ℕ
  pub lanes : List LaneData

-- the lanes with one more request in the last one
abbrev pub with_request : Line → List LaneData → List LaneData
with_request request [] = []
with_request request (lane ∷ []) =
    record { name = lane.name; lines = lane.lines ++ request ∷ [] } ∷ []
with_request request (lane ∷ next ∷ rest) = lane ∷ with_request request (next ∷ rest)

-- with line n, which begins a lane: at most 64 do
abbrev pub after_lane : SoFar → ℕ → List ℕ → Result SoFar ScriptFault
after_lane s n name =
    if nat_lt (length s.lanes) 64
    then Ok (record {
      json = s.json;
      lines = n;
      requests = s.requests;
      lanes = s.lanes ++ record { name = name; lines = [] } ∷ [];
    })
    else Err (fault.TooManyLanes n)

-- with line n, which is a request in place, with good times or not
abbrev pub after_timed : SoFar → ℕ → Option Line → Result SoFar ScriptFault
after_timed s n None = Err (fault.BadTime n)
after_timed s n (Some request) = Ok (record {
  json = s.json;
  lines = n;
  requests = s.requests + 1;
  lanes = with_request request s.lanes;
})

-- with line n, which is a request: it stands in a lane, and at most 20,000 lines are requests
abbrev pub after_request : SoFar → ℕ → Option Line → Result SoFar ScriptFault
after_request s n request =
    if length s.lanes == 0 then Err (fault.BadLine n)
    else if nat_lt s.requests 20000 then after_timed s n request
    else Err (fault.TooManyLines n)

-- with line n, which says this
abbrev pub after_said : SoFar → ℕ → Option Said → Result SoFar ScriptFault
after_said s n None = Err (fault.BadLine n)
after_said s n (Some said.Nothing) =
    Ok (record { json = s.json; lines = n; requests = s.requests; lanes = s.lanes })
after_said s n (Some (said.Lane name)) = after_lane s n name
after_said s n (Some (said.Request request)) = after_request s n request

-- With one more line, or the fault of that line: its length, its text or its words are bad; it is
-- the 65th lane; it is the 20,001st request; a time of it isn't one.
abbrev pub after_line : SoFar → List ℕ → Result SoFar ScriptFault
after_line s text =
    after_said s (s.lines + 1) (option_and_then (λ words. said_of s.json words) (line_words text))

-- a script has a lane
abbrev pub at_end : SoFar → Result (List LaneData) ScriptFault
at_end s = if length s.lanes == 0 then Err (fault.BadLine 0) else Ok s.lanes

-- the lanes with these further lines, or the first fault
abbrev pub script_from : SoFar → List (List ℕ) → Result (List LaneData) ScriptFault
script_from s [] = at_end s
script_from s (text ∷ rest) = and_then (after_line s text) (λ next. script_from next rest)

-- The lanes that a script of at most 33,554,432 bytes says, or its first fault; whether the replies
-- are wanted as JSON is said beside it. Lines are counted from 1; where every line is good and
-- there is no lane, line 0 is bad.
abbrev pub script_of : Bool → List ℕ → Result (List LaneData) ScriptFault
script_of json bytes =
    if nat_lt 33554432 (length bytes) then Err fault.TooLong
    else script_from (record { json = json; lines = 0; requests = 0; lanes = [] }) (lines_of bytes)

-- one of the requests is answered by the mirror of an edition
abbrev pub any_needs_mirror : List Line → Bool
any_needs_mirror lines = list_any (λ l. needs_mirror (Line.question l)) lines

abbrev pub needs_mirrors : List LaneData → Bool
needs_mirrors lanes = list_any (λ l. any_needs_mirror (LaneData.lines l)) lanes

-- how many requests the lanes have
abbrev pub request_count : List LaneData → ℕ
request_count lanes = sum_by (λ l. length (LaneData.lines l)) lanes

-- at most 64 lanes with at most 20,000 requests in all, each of them such a one
pub record IsWithinLimits (lanes : List LaneData) : Type 0 where
  pub few : length lanes ≤ 64
  pub requests : request_count lanes ≤ 20000
  pub times : All (λ l. All IsAskable (LaneData.lines l)) lanes

-- the same, with at least one lane
abbrev pub IsScript : List LaneData → Type 0
IsScript lanes = (0 < length lanes) × IsWithinLimits lanes
