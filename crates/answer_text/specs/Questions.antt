-- Questions about the network of a day, as words.
use Rattle.std.specs.Prelude.{ℕ, ◌*◌, ◌≤◌, ◌&&◌, nat_le, List, [], ◌∷◌, ℤ, pos, ◌+ℤ◌, ◌≤ℤ◌, int_le, codes, bytes_eq, Bool, false, true, Option, None, Some, Result, Ok, Err, if◌then◌else◌}
use Rattle.gtfs_rows.specs.Numbers.{number_of, time_of}
use Rattle.gtfs_rows.specs.Steps.{and_then}
use Rattle.answer_text.specs.declared.question.Question.{Question}
use Rattle.answer_text.specs.declared.question.Question.TheVariants as question
use Rattle.answer_text.specs.declared.question.QuestionFault.{QuestionFault}
use Rattle.answer_text.specs.declared.question.QuestionFault.TheVariants as fault

-- a time that can be asked for, or that it is none
abbrev pub known_time : Option ℤ → Result ℤ QuestionFault
known_time None = Err fault.BadTime
known_time (Some time) = Ok time

-- the time that a word writes
abbrev pub word_time : List ℕ → Result ℤ QuestionFault
word_time word = known_time (time_of word)

-- one can be asked to arrive by 75:59:59 at the latest
abbrev pub arrival_time : ℤ → Result ℤ QuestionFault
arrival_time time = if int_le time (pos 273599) then Ok time else Err fault.BadTime

-- FROM TO TIME
abbrev pub ask_of : List (List ℕ) → Result Question QuestionFault
ask_of (from ∷ to ∷ time ∷ []) =
    and_then (word_time time) (λ leave. Ok (question.Ask from to leave))
ask_of words = Err fault.BadForm

-- FROM TO FIRST LAST
abbrev pub profile_of : List (List ℕ) → Result Question QuestionFault
profile_of (from ∷ to ∷ begin ∷ end ∷ []) =
    and_then (word_time begin)
    (λ first. and_then (word_time end) (λ last. Ok (question.Profile from to first last)))
profile_of words = Err fault.BadForm

-- FROM TO TIME, which is by when to arrive
abbrev pub latest_of : List (List ℕ) → Result Question QuestionFault
latest_of (from ∷ to ∷ time ∷ []) =
    and_then (and_then (word_time time) arrival_time)
    (λ arrive. Ok (question.Latest from to arrive))
latest_of words = Err fault.BadForm

-- FROM TIME
abbrev pub reach_of : List (List ℕ) → Result Question QuestionFault
reach_of (from ∷ time ∷ []) =
    and_then (word_time time) (λ leave. Ok (question.Reach from leave))
reach_of words = Err fault.BadForm

-- the seconds from one departure to the next: 1 to 3,600
abbrev pub known_step : Option ℕ → Result ℕ QuestionFault
known_step None = Err fault.BadForm
known_step (Some step) =
    if nat_le 1 step && nat_le step 3600 then Ok step else Err fault.BadForm

abbrev pub step_of : List ℕ → Result ℕ QuestionFault
step_of word = known_step (number_of word)

-- at most so many rides
abbrev pub known_rides : Option ℕ → Result (Option ℕ) QuestionFault
known_rides None = Err fault.BadForm
known_rides (Some rides) = Ok (Some rides)

abbrev pub most_rides : List ℕ → Result (Option ℕ) QuestionFault
most_rides word = known_rides (number_of word)

-- `rides N`
abbrev pub limit_of : List ℕ → List ℕ → Result (Option ℕ) QuestionFault
limit_of word number =
    if bytes_eq word (codes "rides") then most_rides number else Err fault.BadForm

-- any number of rides, or `rides N`
abbrev pub rides_asked : List (List ℕ) → Result (Option ℕ) QuestionFault
rides_asked [] = Ok None
rides_asked (word ∷ number ∷ []) = limit_of word number
rides_asked words = Err fault.BadForm

-- the last departure: no earlier than the first, and at most 1,439 steps after it
abbrev pub last_departure : ℤ → ℕ → ℤ → Result ℤ QuestionFault
last_departure first step last =
    if int_le first last && int_le last (first +ℤ pos (1439 * step)) then Ok last
    else Err fault.BadTime

-- FROM FIRST LAST STEP, and nothing or `rides N`
abbrev pub times_asked : List (List ℕ) → Result Question QuestionFault
times_asked (from ∷ begin ∷ end ∷ every ∷ rest) =
    and_then (rides_asked rest)
    (λ rides. and_then (step_of every)
    (λ step. and_then (word_time begin)
    (λ first. and_then (and_then (word_time end) (last_departure first step))
    (λ last. Ok (question.Times from first last step rides)))))
times_asked words = Err fault.BadForm

-- What a word and the words that follow it ask: `ask FROM TO TIME`, `profile FROM TO FIRST LAST`,
-- `latest FROM TO TIME`, `reach FROM TIME`, or `times FROM FIRST LAST STEP` with or without
-- `rides N`. Their form is bad where the first word is none of these, their number is another one,
-- or the word before N, N or STEP isn't what belongs there; else a time is bad that isn't one, or
-- isn't within the bounds that it has.
abbrev pub question_of : List ℕ → List (List ℕ) → Result Question QuestionFault
question_of kind words =
    if bytes_eq kind (codes "ask") then ask_of words
    else if bytes_eq kind (codes "profile") then profile_of words
    else if bytes_eq kind (codes "latest") then latest_of words
    else if bytes_eq kind (codes "reach") then reach_of words
    else if bytes_eq kind (codes "times") then times_asked words
    else Err fault.BadForm

-- a time by which one can be asked to arrive
pub record IsArrivalTime (t : ℤ) : Type 0 where
  pub least : pos 0 ≤ℤ t
  pub most : t ≤ℤ pos 273599

-- seconds from one departure to the next
pub record IsStep (step : ℕ) : Type 0 where
  pub least : 1 ≤ step
  pub most : step ≤ 3600

-- departures that can be asked for: there is one, and none is outside the times of the day
pub record AreDepartureTimes (first last : ℤ) (step : ℕ) : Type 0 where
  pub not_before : pos 0 ≤ℤ first
  pub some : first ≤ℤ last
  pub not_after : last ≤ℤ pos 359999
  pub each_step : IsStep step

-- its times are those that can be asked for
abbrev pub HasTimes : Question → Type 0
HasTimes (question.Ask from to leave) = leave ≤ℤ pos 359999
HasTimes (question.Profile from to first last) = last ≤ℤ pos 359999
HasTimes (question.Latest from to arrive) = IsArrivalTime arrive
HasTimes (question.Reach from leave) = leave ≤ℤ pos 359999
HasTimes (question.Times from first last step rides) = AreDepartureTimes first last step

-- it is answered by the mirror of a timetable, in which time runs backwards
abbrev pub needs_mirror : Question → Bool
needs_mirror (question.Ask from to leave) = false
needs_mirror (question.Profile from to first last) = false
needs_mirror (question.Latest from to arrive) = true
needs_mirror (question.Reach from leave) = false
needs_mirror (question.Times from first last step rides) = false
