-- What the words of a command line mean.
use Rattle.std.specs.Prelude.{List, [], ◌∷◌, codes, bytes_eq, Bool, false, true, Option, None, Some, if◌then◌else◌}
use Rattle.std.specs.Option.{option_and_then, option_map, unwrap_or}
use Rattle.clap.specs.Words.{Row, Text, all_of}
use Rattle.command_line.specs.Arguments.{given}
use Rattle.command_line.specs.Checks.{check_request_from}
use Rattle.command_line.specs.Cities.{city_request}
use Rattle.command_line.specs.DayCommands.{day_request_from}
use Rattle.command_line.specs.LateTrips.{late_request_from}
use Rattle.command_line.specs.Matrices.{matrix_request_from}
use Rattle.command_line.specs.Plans.{live_request, serve_request}
use Rattle.command_line.specs.Settings.{settings_given}
use Rattle.command_line.specs.Verifications.{verify_request_from}
use Rattle.command_line.specs.declared.request.Request.{Request}
use Rattle.command_line.specs.declared.request.Request.TheVariants as request
use Rattle.command_line.specs.declared.settings.Settings.{Settings}

-- a request by the command's name and the words behind it: `serve DIR@DATE ..`, `live DIR@DATE ..`,
-- `matrix DIR DATE FILE FIRST LAST STEP`, with or without `rides N`, `city N`, `verify DIR DATE FROM TO
-- TIME`, `check DIR DATE`, `late DIR DATE FILE FROM TO TIME`, or `NAME DIR DATE WORDS`
abbrev pub request_named : Settings → Text → List Text → Option Request
request_named s name words =
    if bytes_eq name (codes "serve") then option_map request.Serve (serve_request s words)
    else if bytes_eq name (codes "live") then option_map request.Live (live_request s words)
    else if bytes_eq name (codes "matrix")
    then option_map request.Matrix (matrix_request_from s words)
    else if bytes_eq name (codes "city") then option_map request.City (city_request s words)
    else if bytes_eq name (codes "verify")
    then option_map request.Verify (verify_request_from s words)
    else if bytes_eq name (codes "check") then option_map request.Check (check_request_from s words)
    else if bytes_eq name (codes "late") then option_map request.Late (late_request_from s words)
    else option_map request.Day (day_request_from s name words)

-- a request by the words that are neither options nor their values
abbrev pub request_from : Settings → List Text → Option Request
request_from s [] = None
request_from s (name ∷ words) = request_named s name words

-- a request by what is given for each argument
abbrev pub request_by : List Row → Option Request
request_by rows =
    option_and_then (λ settings. request_from settings (unwrap_or (all_of (codes "words") rows) []))
    (settings_given rows)

-- the words of a command line, but for the program's name
abbrev pub request_of : List Text → Option Request
request_of words = option_and_then request_by (given words)

-- whether a word tells that JSON is asked for, or that it isn't: `--json`, and `--`, which ends the
-- options
abbrev pub json_word : Text → Option Bool
json_word word =
    if bytes_eq word (codes "--json") then Some true
    else if bytes_eq word (codes "--") then Some false
    else None

-- the words ask for JSON: `--json` is among them, before `--`
abbrev pub asks_json : List Text → Bool
asks_json [] = false
asks_json (word ∷ words) = unwrap_or (json_word word) (asks_json words)
