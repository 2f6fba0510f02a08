-- What is asked about a made city.
use Rattle.std.specs.Prelude.{ℕ, ◌≤◌, ◌&&◌, nat_le, List, [], ◌∷◌, Bool, Option, Some, None, if◌then◌else◌}
use Rattle.std.specs.Option.{option_and_then, option_map}
use Rattle.clap.specs.Words.{Text}
use Rattle.gtfs_rows.specs.Numbers.{number_of}
use Rattle.command_line.specs.declared.city.TheConstants.{FEWEST_ROWS, MOST_ROWS}
use Rattle.command_line.specs.declared.settings.Settings.{Settings}

-- a request about a made city: how many rows and columns it has, how many workers reduce its
-- transfers, and whether as JSON
pub record CityRequestData : Type 0 where
  pub side : ℕ
  pub workers : ℕ
  pub json : Bool

-- a city has from 2 to 40 rows, and as many columns
pub record IsSide (n : ℕ) : Type 0 where
  pub some : FEWEST_ROWS ≤ n
  pub most : n ≤ MOST_ROWS

abbrev pub as_side : ℕ → Option ℕ
as_side n = if nat_le FEWEST_ROWS n && nat_le n MOST_ROWS then Some n else None

-- the number of rows and columns that the word N says
abbrev pub side_of : Text → Option ℕ
side_of word = option_and_then as_side (number_of word)

-- a request by the word N
abbrev pub city_request : Settings → List Text → Option CityRequestData
city_request s (word ∷ []) =
    option_map (λ n. record { side = n; workers = s.workers; json = s.json }) (side_of word)
city_request s words = None
