-- What is asked, and of which places.
use Rattle.std.specs.Prelude.{◌≡◌, ℕ, List, ℤ, Bool, false, true, Option, None, Some, Result, Ok, Err}
use Rattle.std.specs.Option.{option_map}
use Rattle.tb_base.specs.BestValues.{QueryData}
use Rattle.tb_base.specs.Places.{place_named, stops_of}
use Rattle.tb_base.specs.TimetableData.{TimetableData}
use Rattle.tb_base.specs.declared.query.Place.{Place}
use Rattle.answer_text.specs.Questions.{needs_mirror}
use Rattle.answer_text.specs.declared.question.Question.{Question}
use Rattle.answer_text.specs.declared.question.Question.TheVariants as question
use Rattle.edition_store.specs.Mirror.{IsMirror}

-- from which edition on, from which place to which, and how early one can leave
pub record AskData : Type 0 where
  pub since : ℕ
  pub from : List ℕ
  pub to : List ℕ
  pub leave : ℤ

-- from which edition on, from which place to which, and within which window one leaves, both ends
-- counted
pub record ProfileData : Type 0 where
  pub since : ℕ
  pub from : List ℕ
  pub to : List ℕ
  pub first : ℤ
  pub last : ℤ

-- the questions that they ask
abbrev pub ask_question : AskData → Question
ask_question q = question.Ask q.from q.to q.leave

abbrev pub profile_question : ProfileData → Question
profile_question q = question.Profile q.from q.to q.first q.last

-- M is T, or its mirror
abbrev pub IsOrMirrors : Bool → TimetableData → TimetableData → Type 0
IsOrMirrors true T M = IsMirror T M
IsOrMirrors false T M = M ≡ T

-- M answers a question about T: for the latest departures it is the mirror of T, else T itself
abbrev pub Serves : TimetableData → TimetableData → Question → Type 0
Serves T M q = IsOrMirrors (needs_mirror q) T M

-- the stops of two places
pub record Ends : Type 0 where
  pub from : List ℕ
  pub to : List ℕ

-- the stops of the place that is meant and of the place with a name, or the name
abbrev pub ends_to : TimetableData → Place → List ℕ → Option Place → Result Ends (List ℕ)
ends_to T origin to None = Err to
ends_to T origin to (Some target) = Ok (record { from = stops_of T origin; to = stops_of T target })

abbrev pub ends_from : TimetableData → List ℕ → List ℕ → Option Place → Result Ends (List ℕ)
ends_from T from to None = Err from
ends_from T from to (Some origin) = ends_to T origin to (place_named T to)

-- The stops of two named places, or the first name that is none, the origin's before the target's.
abbrev pub ends_between : TimetableData → List ℕ → List ℕ → Result Ends (List ℕ)
ends_between T from to = ends_from T from to (place_named T from)

-- the query between two such places
abbrev pub query_at : Ends → ℤ → QueryData
query_at ends leave = record { from = ends.from; to = ends.to; leave = leave }

-- the stops of the place with a name
abbrev pub stops_named : TimetableData → List ℕ → Option (List ℕ)
stops_named T name = option_map (stops_of T) (place_named T name)
