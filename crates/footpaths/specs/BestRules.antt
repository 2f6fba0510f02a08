-- The best ranked rule at each stop from which one stop can be reached.
use Rattle.std.specs.Prelude.{◌≢◌, ℕ, ◌<◌, ◌==◌, List, length, Option, Some, None, Contains, All, Bool, true, false, nat_lt, max, if◌then◌else◌, slice_index_or}
use Rattle.footpaths.specs.declared.best_rules.RankedRule.{RankedRule}
use Rattle.gtfs_rows.specs.StopsFile.{StopData}
use Rattle.footpaths.specs.declared.found.Link.{Link}
use Rattle.footpaths.specs.Footpaths.{Rule, Unsaid, Forbidden, Takes, takes_in, rank}

-- of the seconds of two ways the more, where none stand for a way that is forbidden
abbrev pub more_secs : Option ℕ → Option ℕ → Option ℕ
more_secs None b = None
more_secs (Some a) None = None
more_secs (Some a) (Some b) = Some (max a b)

-- the better of what is held and one more: of the lower rank, and of one rank the longer
abbrev pub better : Option RankedRule → ℕ → Option ℕ → RankedRule
better None rank secs = record { rank = rank; secs = secs }
better (Some held) rank secs =
    if nat_lt rank held.rank then record { rank = rank; secs = secs }
    else if held.rank == rank then record { rank = rank; secs = more_secs held.secs secs } else held

abbrev pub slot : List (Option RankedRule) → ℕ → Option RankedRule
slot slots p = slice_index_or slots p None

-- every mark stands at a stop that was touched, and every touched stop is there
pub record IsCovered (slots : List (Option RankedRule)) (touched : List ℕ) : Type 0 where
  pub within : All (λ p. p < length slots) touched
  pub covers : (p : ℕ) → slot slots p ≢ None → Contains touched p

-- a ranked rule after one more, where that is about the stop
abbrev pub marked : Bool → Option RankedRule → ℕ → Option ℕ → Option RankedRule
marked true held rank secs = Some (better held rank secs)
marked false held rank secs = held

-- a ranked rule on the way from a platform after one row more
abbrev pub marked_by : List StopData → ℕ → Option RankedRule → Link → Option RankedRule
marked_by stops p held l = marked (takes_in stops l.from p) held (rank l) l.secs

-- the seconds of a ranked rule
abbrev pub ranked_secs : Option RankedRule → Option ℕ
ranked_secs None = None
ranked_secs (Some v) = v.secs

-- the ranked rule of a rule of a rank, and of the first other where it says nothing
abbrev pub ranked_or : ℕ → Rule → Option RankedRule → Option RankedRule
ranked_or rank Unsaid other = other
ranked_or rank Forbidden other = Some (record { rank = rank; secs = None })
ranked_or rank (Takes secs) other = Some (record { rank = rank; secs = Some secs })

-- the ranked rule of what the ranks say
abbrev pub ruled : Rule → Rule → Rule → Option RankedRule
ruled a b c = ranked_or 0 a (ranked_or 1 b (ranked_or 2 c None))
