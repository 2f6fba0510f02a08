-- The rows of frequencies.txt.
use Rattle.std.specs.Prelude.{ℕ, List, Option, Some, None, option_and_then, Result, Ok, nat_le, if◌then◌else◌}
use Rattle.gtfs_rows.specs.Steps.{and_then}
use Rattle.gtfs_rows.specs.RawRows.{RawRow, typed_rows}
use Rattle.gtfs_rows.specs.Numbers.{number_of, time_secs}
use Rattle.gtfs_rows.specs.Fields.{column, id_of, code_of}
use Rattle.gtfs_rows.specs.declared.fault.FeedFile.TheVariants as file
use Rattle.gtfs_rows.specs.declared.fault.FeedFault.{FeedFault}
use Rattle.gtfs_rows.specs.declared.fault.FeedFault.TheVariants as fault
use Rattle.gtfs_rows.specs.declared.columns.frequencies.TheConstants as frequencies

-- a row of frequencies.txt: the trip starts at `start` and every `headway` seconds after it, as
-- long as that is before `end`; times are seconds from noon minus twelve hours
pub record FrequencyData : Type 0 where
  pub row : ℕ
  pub trip : List ℕ
  pub start : ℕ
  pub end : ℕ
  pub headway : ℕ

-- the seconds from one start to the next are at least one
abbrev pub if_headway : ℕ → Option ℕ
if_headway n = if nat_le 1 n then Some n else None

abbrev pub headway_of : List ℕ → Option ℕ
headway_of text = option_and_then if_headway (number_of text)

-- whether the starts are exact, `1`, or not, `0`; both are read alike
abbrev pub exact_code : ℕ → Option ℕ
exact_code k = if nat_le k 1 then Some k else None

abbrev pub exact_times : List ℕ → Option ℕ
exact_times text = option_and_then exact_code (code_of text)

abbrev pub frequency_row : RawRow → Result (Option FrequencyData) FeedFault
frequency_row raw =
    and_then (column file.Frequencies raw frequencies.TRIP_ID id_of fault.EmptyId) (λ trip.
    and_then (column file.Frequencies raw frequencies.START_TIME time_secs fault.BadTime) (λ start.
    and_then (column file.Frequencies raw frequencies.END_TIME time_secs fault.BadTime) (λ end.
    and_then (column file.Frequencies raw frequencies.HEADWAY_SECS headway_of fault.BadNumber)
    (λ headway.
    and_then (column file.Frequencies raw frequencies.EXACT_TIMES exact_times fault.BadCode)
    (λ exact.
    Ok (Some (record {
      row = raw.row;
      trip = trip;
      start = start;
      end = end;
      headway = headway;
    })))))))

-- the typed rows of frequencies.txt, or its first fault
abbrev pub frequency_rows : List ℕ → Result (List FrequencyData) FeedFault
frequency_rows = typed_rows file.Frequencies frequency_row
