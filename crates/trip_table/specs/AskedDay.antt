-- The timetable of a day as its options ask for it, and all that is wrong with a feed.
use Rattle.std.specs.Prelude.{◌≡◌, ℕ, List, [], ◌∷◌, ◌++◌, Bool, true, false, Result, Ok, Err}
use Rattle.tb_base.specs.TimetableData.{TimetableData}
use Rattle.gtfs_rows.specs.declared.fault.FeedFault.{FeedFault}
use Rattle.footpaths.specs.declared.paths.Options.{Options}
use Rattle.trip_table.specs.Feed.{Feed}
use Rattle.trip_table.specs.Day.{IsTimetableOf}
use Rattle.trip_table.specs.LeftFeed.{IsLenientOf}

-- for one who is lenient, or else with nothing left out
abbrev pub IsAskedAs : Bool → Feed → ℕ → Options → List FeedFault →
    Result TimetableData FeedFault → Type 0
IsAskedAs false feed day options faults result =
    IsTimetableOf feed day options result × (faults ≡ [])
IsAskedAs true feed day options faults result = IsLenientOf feed day options faults result

-- The timetable of a day as the options ask for it, or the fault that ends it, with the faults of
-- what is left out.
abbrev pub IsAskedOf : Feed → ℕ → Options → List FeedFault → Result TimetableData FeedFault → Type 0
IsAskedOf feed day options = IsAskedAs options.lenient feed day options

-- the same, whatever is left out
abbrev pub IsAskedDay : Feed → ℕ → Options → Result TimetableData FeedFault → Type 0
IsAskedDay feed day options result =
    (faults : List FeedFault) × IsAskedOf feed day options faults result

-- the faults that are told, and behind them the one that ends it
abbrev pub with_last : List FeedFault → Result TimetableData FeedFault → List FeedFault
with_last told (Ok T) = told
with_last told (Err f) = told ++ f ∷ []

-- all that is wrong with a feed on a day: what is told to one who is lenient, and what ends it
abbrev pub AreFaultsOf : Feed → ℕ → Options → List FeedFault → Type 0
AreFaultsOf feed day options faults =
    (told : List FeedFault) × (result : Result TimetableData FeedFault)
    × IsLenientOf feed day options told result × (faults ≡ with_last told result)
