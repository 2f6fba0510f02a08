-- Faults that are told: of each number the first 10,000 are kept, and all are counted.
use Rattle.std.specs.Prelude.{ℕ, ◌+◌, List, [], ◌∷◌, ◌++◌, nat_lt, replicate, set, slice_index_or, if◌then◌else◌}
use Rattle.gtfs_rows.specs.declared.fault.FeedFault.{FeedFault}
use Rattle.gtfs_rows.specs.declared.fault.FeedFault.TheVariants as fault

-- the number of a fault; no fault has number 0 or 21
abbrev pub fault_number : FeedFault → ℕ
fault_number (fault.MissingFile file) = 1
fault_number (fault.FileTooLarge file) = 2
fault_number (fault.NotUtf8 file) = 3
fault_number (fault.MissingColumn spot) = 4
fault_number (fault.BadNumber spot) = 5
fault_number (fault.BadTime spot) = 6
fault_number (fault.BadDate spot) = 7
fault_number (fault.BadCode spot) = 8
fault_number (fault.EmptyId spot) = 9
fault_number (fault.DuplicateId spot) = 10
fault_number (fault.UnknownStop spot) = 11
fault_number (fault.UnknownTrip spot) = 12
fault_number (fault.DuplicateSequence spot) = 13
fault_number (fault.NoEndTime spot) = 14
fault_number (fault.TimeRunsBack spot) = 15
fault_number (fault.NotAPlatform spot) = 16
fault_number (fault.DuplicateTransfer spot) = 17
fault_number (fault.OpenFootpaths p q r) = 18
fault_number (fault.LongFootpath p q r) = 19
fault_number (fault.TooMany what row) = 20
fault_number (fault.FarFootpath p q) = 22
fault_number (fault.BeyondDay spot) = 23

-- how many faults of a number are kept
abbrev pub most_kept : ℕ
most_kept = 10000

-- what is known of the faults that were told: the kept ones in order, and how many there were of
-- each number, from number 0 on
pub record Told : Type 0 where
  pub kept : List FeedFault
  pub counts : List ℕ

abbrev pub none_told : Told
none_told = record { kept = []; counts = replicate 24 0 }

-- how many faults of a number were told
abbrev pub count_of : Told → ℕ → ℕ
count_of told number = slice_index_or told.counts number 0

-- one more fault is told
abbrev pub tell : Told → FeedFault → Told
tell told f = record {
  kept = if nat_lt (count_of told (fault_number f)) most_kept then told.kept ++ f ∷ [] else told.kept;
  counts = set told.counts (fault_number f) (count_of told (fault_number f) + 1);
}

-- faults are told, one after another
abbrev pub tell_all : Told → List FeedFault → Told
tell_all told [] = told
tell_all told (f ∷ rest) = tell_all (tell told f) rest
