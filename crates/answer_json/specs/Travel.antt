-- Travel times to a stop as JSON.
use Rattle.std.specs.Prelude.{ℕ, ℤ, List, ◌++◌, Option, None, Some, codes}
use Rattle.std.specs.Fmt.{decimal, signed_decimal}
use Rattle.tb_base.specs.TimetableData.{TimetableData}
use Rattle.answer_text.specs.Journeys.{stop_name}
use Rattle.answer_json.specs.Frames.{framed, string_json}
use Rattle.answer_json.specs.declared.frame.Frame.TheVariants as frame

-- a travel time in seconds, or `null` where there is none
abbrev pub duration_json : Option ℤ → List ℕ
duration_json None = codes "null"
duration_json (Some time) = signed_decimal time

-- `[STOP,N,M,[TIME,..]]`: N of M departures reach the stop
abbrev pub travel_json : TimetableData → ℕ → ℕ → ℕ → List (Option ℤ) → List ℕ
travel_json T stop reached departures times =
    codes "[" ++ string_json (stop_name T stop) ++ codes "," ++ decimal reached ++ codes ","
    ++ decimal departures ++ codes "," ++ framed frame.Array duration_json times ++ codes "]"
