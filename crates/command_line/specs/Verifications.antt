-- What is asked about a claimed journey.
use Rattle.std.specs.Prelude.{ℕ, List, ◌∷◌, Bool, Option, None}
use Rattle.std.specs.Option.{option_and_then, option_map}
use Rattle.clap.specs.Words.{Text}
use Rattle.footpaths.specs.declared.paths.Options.{Options}
use Rattle.gtfs_rows.specs.Dates.{date_of}
use Rattle.command_line.specs.DayCommands.{inquiry_from}
use Rattle.command_line.specs.Inquiries.{InquiryData}
use Rattle.command_line.specs.declared.settings.Settings.{Settings}

-- a request to judge a claimed journey over one day of a feed: what is said of footpaths, whether
-- as JSON, the folder, the date, and from where to where the journey is to lead, and from when on
pub record VerifyRequestData : Type 0 where
  pub options : Options
  pub json : Bool
  pub dir : Text
  pub date : ℕ
  pub inquiry : InquiryData

-- a request by the folder, the date, and the words FROM TO TIME behind them
abbrev pub verify_request : Settings → Text → Text → List Text → Option VerifyRequestData
verify_request s dir date words =
    option_and_then (λ i. option_map (λ day. record {
      options = s.options;
      json = s.json;
      dir = dir;
      date = day;
      inquiry = i;
    }) (date_of date)) (inquiry_from words)

-- a request by the words DIR DATE FROM TO TIME
abbrev pub verify_request_from : Settings → List Text → Option VerifyRequestData
verify_request_from s (dir ∷ date ∷ words) = verify_request s dir date words
verify_request_from s words = None
