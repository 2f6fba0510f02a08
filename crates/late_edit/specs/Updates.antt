-- The updates that a file says of trips, or its first bad line.
use Rattle.std.specs.Prelude.{ℕ, ◌+◌, ◌==◌, List, [], ◌∷◌, ℤ, pos, ◌-ℤ◌, codes, bytes_eq, Option, Some, None, Result, Ok, Err, ⊤, if◌then◌else◌}
use Rattle.std.specs.Option.{ok_or, option_and_then, option_map, option_to_list}
use Rattle.gtfs_rows.specs.Numbers.{number_of}
use Rattle.gtfs_rows.specs.Steps.{and_then, prepend}
use Rattle.tb_base.specs.declared.days.ServiceDay.{ServiceDay}
use Rattle.tb_base.specs.declared.days.ServiceDay.TheVariants as day
use Rattle.tb_base.specs.declared.refused.Refused.{Refused}
use Rattle.tb_base.specs.declared.refused.Refused.TheVariants as why
use Rattle.tb_base.specs.ServiceDays.{day_by}
use Rattle.text_lines.specs.LineWords.{line_words}
use Rattle.text_lines.specs.Lines.{lines_of}
use Rattle.late_edit.specs.declared.late.LateFault.{LateFault}
use Rattle.late_edit.specs.declared.late.LateFault.TheVariants as fault
use Rattle.late_edit.specs.declared.update.Update.{Update}
use Rattle.late_edit.specs.declared.update.Update.TheVariants as update

-- the line that says it
abbrev pub line_of : Update → ℕ
line_of (update.Late l) = l.line
line_of (update.Cancel c) = c.line
line_of (update.Skip s) = s.line

-- the trip's name
abbrev pub trip_of : Update → List ℕ
trip_of (update.Late l) = l.trip
trip_of (update.Cancel c) = c.trip
trip_of (update.Skip s) = s.trip

-- the trip's service day
abbrev pub day_of : Update → ServiceDay
day_of (update.Late l) = l.day
day_of (update.Cancel c) = c.day
day_of (update.Skip s) = s.day

-- 1 to 9 digits, behind a minus sign, which is the code 45, or not
abbrev pub move_of : List ℕ → Option ℤ
move_of [] = None
move_of (b ∷ text) =
    if b == 45 then option_map (λ n. pos 0 -ℤ pos n) (number_of text)
    else option_map pos (number_of (b ∷ text))

-- TRIP EVENT SECS, of the trips of a service day
abbrev pub late_by : ℕ → ServiceDay → List ℕ → List ℕ → List ℕ → Option Update
late_by n day trip event secs =
    option_and_then (λ e. option_map (λ s. update.Late (record {
      line = n;
      trip = trip;
      day = day;
      from = e;
      secs = s;
    })) (move_of secs)) (number_of event)

-- TRIP EVENT SECS and its day
abbrev pub late_said : ℕ → List (List ℕ) → Option Update
late_said n (trip ∷ event ∷ secs ∷ words) =
    option_and_then (λ day. late_by n day trip event secs) (day_by words)
late_said n words = None

-- TRIP EVENT SECS of the day before
abbrev pub late_before_said : ℕ → List (List ℕ) → Option Update
late_before_said n (trip ∷ event ∷ secs ∷ []) = late_by n day.Before trip event secs
late_before_said n words = None

-- TRIP and its day
abbrev pub cancel_said : ℕ → List (List ℕ) → Option Update
cancel_said n (trip ∷ words) = option_map
    (λ day. update.Cancel (record { line = n; trip = trip; day = day })) (day_by words)
cancel_said n words = None

-- TRIP EVENT and its day
abbrev pub skip_said : ℕ → List (List ℕ) → Option Update
skip_said n (trip ∷ event ∷ words) =
    option_and_then (λ day. option_map (λ at.
    update.Skip (record { line = n; trip = trip; day = day; at = at }))
    (number_of event)) (day_by words)
skip_said n words = None

-- Line n is `late TRIP EVENT SECS`, `cancel TRIP` or `skip TRIP EVENT`, each with the trip's service
-- day behind it where that isn't the date; or `late-before TRIP EVENT SECS` for one of the day before.
abbrev pub update_of : ℕ → List (List ℕ) → Option Update
update_of n [] = None
update_of n (word ∷ words) =
    if bytes_eq word (codes "late") then late_said n words
    else if bytes_eq word (codes "late-before") then late_before_said n words
    else if bytes_eq word (codes "cancel") then cancel_said n words
    else if bytes_eq word (codes "skip") then skip_said n words
    else None

-- what line n says, by its words: nothing where it has none
abbrev pub update_on : ℕ → Option (List (List ℕ)) → Result (Option Update) LateFault
update_on n None = Err (fault.BadLine n)
update_on n (Some []) = Ok None
update_on n (Some (word ∷ words)) =
    and_then (ok_or (update_of n (word ∷ words)) (fault.BadLine n)) (λ u. Ok (Some u))

-- what these lines say in order, of which the first is line n
abbrev pub updates_from : ℕ → List (List ℕ) → Result (List Update) LateFault
updates_from n [] = Ok []
updates_from n (line ∷ lines) =
    and_then (update_on n (line_words line))
    (λ u. prepend (option_to_list u) (updates_from (n + 1) lines))

-- what a text says of trips, line by line from line 1
abbrev pub updates_of : List ℕ → Result (List Update) LateFault
updates_of bytes = updates_from 1 (lines_of bytes)

-- a fault of an update, and none of a file
abbrev pub IsOfUpdate : LateFault → Type 0
IsOfUpdate (fault.UnknownTrip n) = ⊤
IsOfUpdate (fault.TimeRunsBack n) = ⊤
IsOfUpdate (fault.OutOfRange n) = ⊤
IsOfUpdate (fault.BadEvent n) = ⊤
IsOfUpdate (fault.BadLine n) = ⊥
IsOfUpdate fault.MissingFile = ⊥
IsOfUpdate fault.TooLarge = ⊥

-- where a call is refused for a fault, it is one of an update
abbrev pub IsOfUpdateAlone : Refused LateFault → Type 0
IsOfUpdateAlone (why.Fault f) = IsOfUpdate f
IsOfUpdateAlone why.Memory = ⊤
