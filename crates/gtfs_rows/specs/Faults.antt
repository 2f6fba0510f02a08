-- What is wrong with rows, in order: the first thing wrong is the answer.
use Rattle.std.specs.Prelude.{ℕ, List, [], ◌∷◌, ◌++◌, Bool, Option, Some, None, Result, Ok, Err, if◌then◌else◌}
use Rattle.gtfs_rows.specs.declared.fault.FeedFile.{FeedFile}
use Rattle.gtfs_rows.specs.declared.fault.FeedFault.{FeedFault}
use Rattle.gtfs_rows.specs.declared.fault.Spot.{Spot}

-- a spot in a file: a row and a column, both from 1
abbrev pub spot : FeedFile → ℕ → ℕ → Spot
spot file row column = record { file = file; row = row; column = column }

-- what is wrong where a test holds
abbrev pub fault_if : Bool → FeedFault → Option FeedFault
fault_if test f = if test then Some f else None

-- the first thing that is wrong, or else a value
abbrev pub unless_wrong : {A : Type 0} → List (Option FeedFault) → A → Result A FeedFault
unless_wrong [] x = Ok x
unless_wrong (None ∷ rest) x = unless_wrong rest x
unless_wrong (Some f ∷ rest) x = Err f

-- what is wrong with each item in order, given the items before it
abbrev pub wrong_after : {A : Type 0} → (List A → A → List (Option FeedFault)) → List A → List A →
    List (Option FeedFault)
wrong_after wrong earlier [] = []
wrong_after wrong earlier (x ∷ xs) = wrong earlier x ++ wrong_after wrong (earlier ++ x ∷ []) xs

-- the typed rows of a file, if nothing is wrong with one of them beside the others
abbrev pub check_rows : {A : Type 0} → (List A → List A → A → List (Option FeedFault)) → List A →
    Result (List A) FeedFault
check_rows wrong rows = unless_wrong (wrong_after (wrong rows) [] rows) rows
