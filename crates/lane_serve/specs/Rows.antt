-- What is written of the travel times from an origin to every stop.
use Rattle.std.specs.Prelude.{◌≡◌, ℕ, ◌==◌, ◌||◌, ℤ, List, [], ◌∷◌, ◌++◌, Bool, codes, flat_map, length, Option, None, Some, if◌then◌else◌}
use Rattle.std.specs.Fmt.{decimal, signed_decimal}
use Rattle.std.specs.List.{list_any}
use Rattle.tb_base.specs.TimetableData.{TimetableData}
use Rattle.tb_base.specs.Transfers.{numbers_below}
use Rattle.answer_json.specs.Frames.{string_json}
use Rattle.answer_json.specs.declared.frame.Frame.TheVariants as frame
use Rattle.answer_text.specs.Journeys.{stop_name}
use Rattle.reach_all.specs.TimesText.{figure_times, figures_at}
use Rattle.reach_all.specs.declared.figures.Figures.{Figures}
use Rattle.query_gate.specs.Json.{reply_json}
use Rattle.query_gate.specs.Replies.{IsReplyToTimes, reply_text}
use Rattle.query_gate.specs.declared.reply.Reply.{Reply}
use Rattle.query_gate.specs.declared.reply.Reply.TheVariants as reply
use Rattle.lane_serve.specs.declared.rows.RowForm.{RowForm}
use Rattle.lane_serve.specs.declared.rows.RowForm.TheVariants as form
use Rattle.lane_serve.specs.declared.rows.TimesAsked.{TimesAsked}

-- What is right to reply to an origin: for each stop the figures of the travel times to it, or that
-- no stop and no station has its name.
abbrev pub IsOriginReply : TimetableData → TimesAsked → List ℕ → Reply → Type 0
IsOriginReply T a origin = IsReplyToTimes T origin a.first a.last a.step a.rides

-- `from ORIGIN`, the lines of the reply, and an empty line
abbrev pub lines_rows : TimetableData → List ℕ → Reply → List ℕ
lines_rows T origin r = codes "from " ++ origin ++ codes "\n" ++ reply_text T r ++ codes "\n"

-- `{"from":ORIGIN,MEMBER}`
abbrev pub json_rows : TimetableData → List ℕ → Reply → List ℕ
json_rows T origin r =
    codes "{\"from\":" ++ string_json origin ++ codes "," ++ reply_json frame.Array T r
    ++ codes "}\n"

-- a comma, a double quote, a carriage return and a line feed, for which a field is quoted (RFC
-- 4180)
abbrev pub wants_quotes : ℕ → Bool
wants_quotes b = (b == 44) || (b == 34) || (b == 13) || (b == 10)

-- a byte between quotes: a double quote is written twice
abbrev pub quoted_byte : ℕ → List ℕ
quoted_byte b = if b == 34 then 34 ∷ 34 ∷ [] else b ∷ []

-- bytes between quotes
abbrev pub quoted_field : List ℕ → List ℕ
quoted_field bytes = codes "\"" ++ flat_map quoted_byte bytes ++ codes "\""

-- a field as RFC 4180 has it
abbrev pub csv_field : List ℕ → List ℕ
csv_field bytes = if list_any wants_quotes bytes then quoted_field bytes else bytes

-- a comma, and seconds, or nothing where there are none
abbrev pub csv_time : Option ℤ → List ℕ
csv_time None = codes ","
csv_time (Some time) = codes "," ++ signed_decimal time

-- `,N,M`, where N of M departures reach the stop, and the travel times
abbrev pub csv_figures : ℕ → Figures → List ℕ
csv_figures departures f =
    codes "," ++ decimal f.reached ++ codes "," ++ decimal departures
    ++ flat_map csv_time (figure_times f)

-- the row of an origin and a stop
abbrev pub csv_row : TimetableData → List ℕ → ℕ → List Figures → ℕ → List ℕ
csv_row T origin departures figures stop =
    csv_field origin ++ codes "," ++ csv_field (stop_name T stop)
    ++ csv_figures departures (figures_at figures stop) ++ codes "\n"

-- one row a stop, by its number; one without a stop where the origin is no place
abbrev pub csv_rows : TimetableData → List ℕ → Reply → List ℕ
csv_rows T origin (reply.Times travel) =
    flat_map (csv_row T origin travel.departures travel.figures.items)
    (numbers_below (length T.stops))
csv_rows T origin r = csv_field origin ++ codes ",,,,,,,,,,\n"

-- the rows of an origin
abbrev pub rows_of : RowForm → TimetableData → List ℕ → Reply → List ℕ
rows_of form.Lines T origin r = lines_rows T origin r
rows_of form.Json T origin r = json_rows T origin r
rows_of form.Csv T origin r = csv_rows T origin r

-- what stands before all rows: the names of the columns
abbrev pub head_of : RowForm → List ℕ
head_of form.Lines = []
head_of form.Json = []
head_of form.Csv = codes "from,to,reached,departures,least,p5,p25,p50,p75,p95,greatest\n"

-- the text has the rows of an origin, by a right reply
pub record AreRowsFrom (form : RowForm) (T : TimetableData) (a : TimesAsked) (origin text : List ℕ)
    : Type 0 where
  pub reply : Reply
  pub right : IsOriginReply T a origin reply
  pub shown : text ≡ rows_of form T origin reply
