-- What is asked about a day amended by late trips.
use Rattle.std.specs.Prelude.{ℕ, List, ◌∷◌, Bool, Option, None}
use Rattle.std.specs.Option.{option_and_then, option_map}
use Rattle.clap.specs.Words.{Text}
use Rattle.footpaths.specs.declared.paths.Options.{Options}
use Rattle.gtfs_rows.specs.Dates.{date_of}
use Rattle.command_line.specs.DayCommands.{inquiry_from}
use Rattle.command_line.specs.Inquiries.{InquiryData}
use Rattle.command_line.specs.declared.settings.Settings.{Settings}

-- a request about a day amended by late trips: what is said of footpaths, how many workers reduce
-- the transfers, whether as JSON, the folder, the date, the path of the file that names the late
-- trips, and from where to where a journey is asked for, and from when on
pub record LateRequestData : Type 0 where
  pub options : Options
  pub workers : ℕ
  pub json : Bool
  pub dir : Text
  pub date : ℕ
  pub file : Text
  pub inquiry : InquiryData

-- a request by the folder, the date, the file, and the words FROM TO TIME behind them
abbrev pub late_request : Settings → Text → Text → Text → List Text → Option LateRequestData
late_request s dir date file words =
    option_and_then (λ i. option_map (λ day. record {
      options = s.options;
      workers = s.workers;
      json = s.json;
      dir = dir;
      date = day;
      file = file;
      inquiry = i;
    }) (date_of date)) (inquiry_from words)

-- a request by the words DIR DATE FILE FROM TO TIME
abbrev pub late_request_from : Settings → List Text → Option LateRequestData
late_request_from s (dir ∷ date ∷ file ∷ words) = late_request s dir date file words
late_request_from s words = None
