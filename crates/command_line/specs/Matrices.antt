-- What is asked of many origins over one day of a feed.
use Rattle.std.specs.Prelude.{ℕ, List, [], ◌∷◌, bytes_eq, codes, Bool, Option, Some, None, if◌then◌else◌}
use Rattle.std.specs.Option.{option_and_then, option_map}
use Rattle.answer_text.specs.Questions.{AreDepartureTimes}
use Rattle.answer_text.specs.declared.question.Question.{Question}
use Rattle.answer_text.specs.declared.question.Question.TheVariants as question
use Rattle.clap.specs.Words.{Text}
use Rattle.footpaths.specs.declared.paths.Options.{Options}
use Rattle.gtfs_rows.specs.Dates.{date_of}
use Rattle.command_line.specs.DayCommands.{question_from}
use Rattle.command_line.specs.declared.request.Departing.{Departing}
use Rattle.command_line.specs.declared.request.OriginsNamed.{OriginsNamed}
use Rattle.command_line.specs.declared.request.OriginsNamed.TheVariants as named
use Rattle.command_line.specs.declared.settings.Settings.{Settings}

-- a request for a matrix: what is said of footpaths, how many workers share the origins, whether as
-- JSON, whether as CSV, the folder, the date, what names the origins, and at which departures each
-- origin is asked
pub record MatrixRequestData : Type 0 where
  pub options : Options
  pub workers : ℕ
  pub json : Bool
  pub csv : Bool
  pub dir : Text
  pub date : ℕ
  pub origins : OriginsNamed
  pub departing : Departing

-- its departures are ones that can be asked for
abbrev pub HasDepartures : Departing → Type 0
HasDepartures d = AreDepartureTimes d.first d.last d.step

-- what a question for travel times says of departures
abbrev pub departing_of : Option Question → Option Departing
departing_of (Some (question.Times from first last step rides)) =
    Some (record { first = first; last = last; step = step; rides = rides })
departing_of asked = None

-- FIRST LAST STEP, and nothing or `rides N`: what follows FROM in a question for travel times, which
-- is asked from each origin
abbrev pub departing_from : List Text → Option Departing
departing_from words = departing_of (question_from (codes "times") ([] ∷ words))

-- what names the origins: the source, for `-`; else the file of this path
abbrev pub origins_named : Text → OriginsNamed
origins_named file = if bytes_eq file (codes "-") then named.Source else named.File file

-- a request by the folder, the date, the file, and the words behind them
abbrev pub matrix_request : Settings → Text → Text → Text → List Text → Option MatrixRequestData
matrix_request s dir date file words =
    option_and_then (λ day. option_map (λ d. record {
      options = s.options;
      workers = s.workers;
      json = s.json;
      csv = s.csv;
      dir = dir;
      date = day;
      origins = origins_named file;
      departing = d;
    }) (departing_from words)) (date_of date)

-- a request by the words DIR DATE FILE FIRST LAST STEP, and nothing or `rides N`
abbrev pub matrix_request_from : Settings → List Text → Option MatrixRequestData
matrix_request_from s (dir ∷ date ∷ file ∷ words) = matrix_request s dir date file words
matrix_request_from s words = None
