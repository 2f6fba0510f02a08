-- Which row bears a fault.
use Rattle.std.specs.Prelude.{◌≡◌, ℕ, Bool, true, Option, Some, None, option_map, Result, Ok, Err, ⊤}
use Rattle.gtfs_rows.specs.declared.fault.FeedFile.{FeedFile}
use Rattle.gtfs_rows.specs.declared.fault.FeedFault.{FeedFault}
use Rattle.gtfs_rows.specs.declared.fault.FeedFault.TheVariants as fault
use Rattle.gtfs_rows.specs.declared.fault.RowsFault.{RowsFault}
use Rattle.gtfs_rows.specs.declared.fault.RowsFault.TheVariants as why
use Rattle.gtfs_rows.specs.declared.fault.Spot.{Spot}

-- The spot of the row that bears a fault. No row bears a fault of a file as a whole, a limit that is
-- passed, or a breach of the footpath law.
abbrev pub bearer : FeedFault → Option Spot
bearer (fault.MissingFile file) = None
bearer (fault.FileTooLarge file) = None
bearer (fault.NotUtf8 file) = None
bearer (fault.MissingColumn spot) = None
bearer (fault.BadNumber spot) = Some spot
bearer (fault.BadTime spot) = Some spot
bearer (fault.BadDate spot) = Some spot
bearer (fault.BadCode spot) = Some spot
bearer (fault.EmptyId spot) = Some spot
bearer (fault.DuplicateId spot) = Some spot
bearer (fault.UnknownStop spot) = Some spot
bearer (fault.UnknownTrip spot) = Some spot
bearer (fault.DuplicateSequence spot) = Some spot
bearer (fault.NoEndTime spot) = Some spot
bearer (fault.TimeRunsBack spot) = Some spot
bearer (fault.NotAPlatform spot) = Some spot
bearer (fault.DuplicateTransfer spot) = Some spot
bearer (fault.OpenFootpaths p q r) = None
bearer (fault.LongFootpath p q r) = None
bearer (fault.TooMany what row) = None
bearer (fault.FarFootpath p q) = None
bearer (fault.BeyondDay spot) = Some spot

-- the row of a number of a file bears the fault
abbrev pub IsBorneBy : FeedFile → ℕ → FeedFault → Type 0
IsBorneBy file row f =
    (option_map Spot.file (bearer f) ≡ Some file) × (option_map Spot.row (bearer f) ≡ Some row)

-- what ends a list of faults for one who is lenient is a value, or a fault that no row bears
abbrev pub IsUnborne : {A : Type 0} → Bool → Result A FeedFault → Type 0
IsUnborne lenient (Ok x) = ⊤
IsUnborne lenient (Err f) = lenient ≡ true → bearer f ≡ None

-- a refusal is a fault that the row bears, or want of memory
abbrev pub IsOfRow : FeedFile → ℕ → RowsFault → Type 0
IsOfRow file row (why.Feed f) = IsBorneBy file row f
IsOfRow file row why.Memory = ⊤
