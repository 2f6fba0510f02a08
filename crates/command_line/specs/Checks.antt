-- What is asked about all faults of a feed.
use Rattle.std.specs.Prelude.{ℕ, List, [], ◌∷◌, Bool, Option, None}
use Rattle.std.specs.Option.{option_map}
use Rattle.clap.specs.Words.{Text}
use Rattle.footpaths.specs.declared.paths.Options.{Options}
use Rattle.gtfs_rows.specs.Dates.{date_of}
use Rattle.command_line.specs.declared.settings.Settings.{Settings}

-- a request for all that is wrong with a feed on a day: how a timetable is made of it, whether as
-- JSON, the folder, and the date
pub record CheckRequestData : Type 0 where
  pub options : Options
  pub json : Bool
  pub dir : Text
  pub date : ℕ

-- a request by the folder and the date
abbrev pub check_request : Settings → Text → Text → Option CheckRequestData
check_request s dir date =
    option_map (λ day. record { options = s.options; json = s.json; dir = dir; date = day })
    (date_of date)

-- a request by the words DIR DATE
abbrev pub check_request_from : Settings → List Text → Option CheckRequestData
check_request_from s (dir ∷ date ∷ []) = check_request s dir date
check_request_from s words = None
