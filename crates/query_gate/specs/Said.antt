-- What the words of a line of a script say.
use Rattle.std.specs.Prelude.{ℕ, List, [], ◌∷◌, Bool, codes, bytes_eq, Option, Some, None, Result, Ok, Err, ⊤, if◌then◌else◌}
use Rattle.std.specs.Option.{option_and_then}
use Rattle.answer_text.specs.Questions.{question_of}
use Rattle.answer_text.specs.Questions as question
use Rattle.answer_text.specs.declared.question.Question.{Question}
use Rattle.answer_text.specs.declared.question.QuestionFault.{QuestionFault}
use Rattle.answer_text.specs.declared.question.QuestionFault.TheVariants as why
use Rattle.gtfs_rows.specs.Numbers.{number_of}
use Rattle.query_gate.specs.declared.said.Line.{Line}
use Rattle.query_gate.specs.declared.said.Said.{Said}
use Rattle.query_gate.specs.declared.said.Said.TheVariants as said

-- a request that edition `since` or a later one may answer, or why there is none
abbrev pub requested : Bool → ℕ → Result Question QuestionFault → Option Said
requested json since (Ok q) =
    Some (said.Request (Some (record { since = since; question = q; json = json })))
requested json since (Err why.BadForm) = None
requested json since (Err why.BadTime) = Some (said.Request None)

-- a question, as `question_of` reads it
abbrev pub request_of : Bool → ℕ → List (List ℕ) → Option Said
request_of json since [] = None
request_of json since (kind ∷ words) = requested json since (question_of kind words)

-- N and a request, which wants edition N or a later one
abbrev pub since_of : Bool → List (List ℕ) → Option Said
since_of json [] = None
since_of json (number ∷ words) =
    option_and_then (λ n. request_of json n words) (number_of number)

-- NAME, which begins a lane
abbrev pub lane_of : List (List ℕ) → Option Said
lane_of (name ∷ []) = Some (said.Lane name)
lane_of words = None

-- What the words of a line say: nothing, `lane NAME`, `since N` and a request, or a request of any
-- edition. None where they have no such form.
abbrev pub said_of : Bool → List (List ℕ) → Option Said
said_of json [] = Some said.Nothing
said_of json (word ∷ words) =
    if bytes_eq word (codes "lane") then lane_of words
    else if bytes_eq word (codes "since") then since_of json words
    else request_of json 0 (word ∷ words)

-- the times of a request are those that can be asked for
abbrev pub IsAskable : Line → Type 0
IsAskable l = question.HasTimes l.question

-- a line that is a request is such a one
abbrev pub SaysTimes : Option Said → Type 0
SaysTimes None = ⊤
SaysTimes (Some said.Nothing) = ⊤
SaysTimes (Some (said.Lane name)) = ⊤
SaysTimes (Some (said.Request None)) = ⊤
SaysTimes (Some (said.Request (Some request))) = IsAskable request
