-- A fault of a file that amends a day, as a text and as JSON.
use Rattle.std.specs.Prelude.{ℕ, List, ◌++◌, codes, None, Some}
use Rattle.std.specs.Fmt.{decimal}
use Rattle.answer_json.specs.Faults.{line_fault_json}
use Rattle.late_edit.specs.declared.late.LateFault.{LateFault}
use Rattle.late_edit.specs.declared.late.LateFault.TheVariants as late

-- a name and ` line N`
abbrev pub at_line : List ℕ → ℕ → List ℕ
at_line name line = name ++ codes " line " ++ decimal line

-- the number and the name of a fault, and its line where it has one
abbrev pub late_fault_text : LateFault → List ℕ
late_fault_text (late.UnknownTrip n) = at_line (codes "1 UnknownTrip") n
late_fault_text (late.TimeRunsBack n) = at_line (codes "2 TimeRunsBack") n
late_fault_text (late.OutOfRange n) = at_line (codes "3 OutOfRange") n
late_fault_text (late.BadEvent n) = at_line (codes "4 BadEvent") n
late_fault_text (late.BadLine n) = at_line (codes "5 BadLine") n
late_fault_text late.MissingFile = codes "6 MissingFile"
late_fault_text late.TooLarge = codes "7 TooLarge"

-- the same as JSON
abbrev pub late_fault_json : LateFault → List ℕ
late_fault_json (late.UnknownTrip n) = line_fault_json 1 (codes "UnknownTrip") (Some n)
late_fault_json (late.TimeRunsBack n) = line_fault_json 2 (codes "TimeRunsBack") (Some n)
late_fault_json (late.OutOfRange n) = line_fault_json 3 (codes "OutOfRange") (Some n)
late_fault_json (late.BadEvent n) = line_fault_json 4 (codes "BadEvent") (Some n)
late_fault_json (late.BadLine n) = line_fault_json 5 (codes "BadLine") (Some n)
late_fault_json late.MissingFile = line_fault_json 6 (codes "MissingFile") None
late_fault_json late.TooLarge = line_fault_json 7 (codes "TooLarge") None
