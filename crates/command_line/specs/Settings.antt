-- What the options of a command line say.
use Rattle.std.specs.Prelude.{ℕ, ◌<◌, ◌≤◌, ◌==◌, ◌&&◌, nat_lt, nat_le, List, codes, bytes_eq, Bool, false, Option, Some, None, if◌then◌else◌}
use Rattle.std.specs.Option.{option_and_then, option_map}
use Rattle.clap.specs.Words.{Row, Text, first_of}
use Rattle.footpaths.specs.declared.paths.Options.{Options}
use Rattle.footpaths.specs.Limits.{AreWithinADay}
use Rattle.gtfs_rows.specs.Fields.{secs_of}
use Rattle.gtfs_rows.specs.Numbers.{number_of}
use Rattle.tb_base.specs.declared.days.Horizon.{Horizon}
use Rattle.tb_base.specs.declared.days.Horizon.TheVariants as horizon
use Rattle.tb_base.specs.Workers.{AreWorkers}
use Rattle.command_line.specs.declared.settings.Settings.{Settings}
use Rattle.command_line.specs.declared.settings.TheConstants.{DEFAULT_LANES, DEFAULT_WORKERS}

-- a number of lanes is from 1 to 64
pub record AreLanes (n : ℕ) : Type 0 where
  pub some : 0 < n
  pub most : n ≤ 64

pub record AreSettings (s : Settings) : Type 0 where
  pub options : AreWithinADay s.options
  pub workers : AreWorkers s.workers
  pub lanes : AreLanes s.lanes

abbrev pub one_to_64 : ℕ → Option ℕ
one_to_64 n = if nat_lt 0 n && nat_le n 64 then Some n else None

abbrev pub thread_count : Text → Option ℕ
thread_count text = option_and_then one_to_64 (number_of text)

-- the default change time: 0 seconds without `--change`
abbrev pub change_given : Option Text → Option ℕ
change_given None = Some 0
change_given (Some text) = secs_of text

-- the seconds between platforms of one station: none without `--station`
abbrev pub station_given : Option Text → Option (Option ℕ)
station_given None = Some None
station_given (Some text) = option_map Some (secs_of text)

-- the number of workers, and that without `--workers`
abbrev pub workers_given : Option Text → Option ℕ
workers_given None = Some DEFAULT_WORKERS
workers_given (Some text) = thread_count text

-- the number of lanes, and that without `--lanes`
abbrev pub lanes_given : Option Text → Option ℕ
lanes_given None = Some DEFAULT_LANES
lanes_given (Some text) = thread_count text

abbrev pub is_true : Option Text → Bool
is_true None = false
is_true (Some text) = bytes_eq text (codes "true")

-- a flag was given
abbrev pub is_given : Text → List Row → Bool
is_given name rows = is_true (first_of name rows)

-- from so many service days a timetable has all trips
abbrev pub horizon_of : ℕ → Option Horizon
horizon_of n =
    if n == 1 then Some horizon.OneDay
    else if n == 2 then Some horizon.TwoDays
    else if n == 3 then Some horizon.ThreeDays
    else None

-- the horizon: one day without `--days`
abbrev pub horizon_given : Option Text → Option Horizon
horizon_given None = Some horizon.OneDay
horizon_given (Some text) = option_and_then horizon_of (number_of text)

-- how a timetable is made of a feed
abbrev pub options_given : List Row → Option Options
options_given rows =
    option_and_then (λ change. option_and_then (λ station. option_map (λ horizon. record {
      change = change;
      station = station;
      close = is_given (codes "close") rows;
      horizon = horizon;
      lenient = is_given (codes "lenient") rows;
    }) (horizon_given (first_of (codes "days") rows)))
    (station_given (first_of (codes "station") rows)))
    (change_given (first_of (codes "change") rows))

-- what all options say; none has an effect where the command doesn't use it
abbrev pub settings_given : List Row → Option Settings
settings_given rows =
    option_and_then (λ options. option_and_then (λ workers. option_map (λ lanes. record {
      options = options;
      workers = workers;
      lanes = lanes;
      plain = is_given (codes "plain") rows;
      mirror = is_given (codes "mirror") rows;
      json = is_given (codes "json") rows;
      csv = is_given (codes "csv") rows;
    }) (lanes_given (first_of (codes "lanes") rows)))
    (workers_given (first_of (codes "workers") rows)))
    (options_given rows)
