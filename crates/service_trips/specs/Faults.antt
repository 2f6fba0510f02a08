-- The first thing that is wrong.
use Rattle.std.specs.Prelude.{List, [], ◌∷◌, Option, None}
use Rattle.std.specs.Option.{option_or}
use Rattle.gtfs_rows.specs.declared.fault.FeedFault.{FeedFault}

-- the first thing that is wrong, of what may be
abbrev pub first_wrong : List (Option FeedFault) → Option FeedFault
first_wrong [] = None
first_wrong (o ∷ rest) = option_or o (first_wrong rest)
