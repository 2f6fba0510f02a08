-- The best values to every stop as JSON.
use Rattle.std.specs.Prelude.{ℕ, ℤ, List, [], ◌++◌, codes, length, slice_index_or}
use Rattle.std.specs.Fmt.{decimal, signed_decimal}
use Rattle.json.specs.Print.{escape}
use Rattle.tb_base.specs.Clock.{time_text}
use Rattle.tb_base.specs.declared.query.Value.{Value}
use Rattle.tb_base.specs.TimetableData.{TimetableData}
use Rattle.tb_base.specs.Transfers.{numbers_below}
use Rattle.answer_text.specs.Journeys.{stop_name}
use Rattle.answer_json.specs.Frames.{between, count_json, framed, moment, string_json}
use Rattle.answer_json.specs.declared.frame.Frame.{Frame}
use Rattle.answer_json.specs.declared.frame.Frame.TheVariants as frame

-- `{"arrive":TIME,..,"rides":N}`, a value by itself
abbrev pub value_json : Value → List ℕ
value_json v =
    codes "{" ++ moment (codes "arrive") v.arrive ++ count_json (codes "rides") v.rides ++ codes "}"

-- `"HH:MM:SS",SECONDS`, a time as in the texts and as a number
unfoldable pub time_json : ℤ → List ℕ
time_json time = codes "\"" ++ time_text time ++ codes "\"," ++ signed_decimal time

-- `["HH:MM:SS",SECONDS,RIDES]`, a value among many: its arrival and its rides
abbrev pub triple_json : Value → List ℕ
triple_json v = codes "[" ++ time_json v.arrive ++ codes "," ++ decimal v.rides ++ codes "]"

-- `[STOP,[TRIPLE,..]]`, with what a list by stops has for the stop
abbrev pub stop_json : TimetableData → List (List Value) → ℕ → List ℕ
stop_json T lists stop =
    codes "[" ++ string_json (stop_name T stop) ++ codes ","
    ++ framed frame.Array triple_json (slice_index_or lists stop []) ++ codes "]"

-- one value a stop, by its number
abbrev pub reach_json : Frame → TimetableData → List (List Value) → List ℕ
reach_json frame T lists = framed frame (stop_json T lists) (numbers_below (length T.stops))

-- what stands behind the name of a stop that has these values: `",[TRIPLE,..]]`
abbrev pub behind_name : List Value → List ℕ
behind_name values = codes "\"," ++ framed frame.Array triple_json values ++ codes "]"

-- the same, up to the name of the next stop
abbrev pub between_names : Frame → List Value → List ℕ
between_names frame values = behind_name values ++ between frame ++ codes "[\""

-- a stop without the `["` before its name
abbrev pub from_name : TimetableData → List (List Value) → ℕ → List ℕ
from_name T lists stop =
    escape (stop_name T stop) ++ behind_name (slice_index_or lists stop [])

-- the same, up to the name of the next stop
abbrev pub to_next_name : Frame → TimetableData → List (List Value) → ℕ → List ℕ
to_next_name frame T lists stop =
    escape (stop_name T stop) ++ between_names frame (slice_index_or lists stop [])
