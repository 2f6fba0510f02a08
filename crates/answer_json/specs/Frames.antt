-- What every JSON text is made of: strings, members, times, and values one behind the other.
use Rattle.std.specs.Prelude.{ℕ, ℤ, List, [], ◌∷◌, ◌++◌, codes, flat_map}
use Rattle.std.specs.Fmt.{decimal, signed_decimal}
use Rattle.json.specs.Print.{quoted}
use Rattle.tb_base.specs.Clock.{time_text}
use Rattle.tb_base.specs.declared.days.ServiceDay.{ServiceDay}
use Rattle.tb_base.specs.declared.days.ServiceDay.TheVariants as day
use Rattle.tb_base.specs.TimetableData.{TimetableData}
use Rattle.answer_text.specs.Journeys.{trip_day}
use Rattle.answer_json.specs.declared.frame.Frame.{Frame}
use Rattle.answer_json.specs.declared.frame.Frame.TheVariants as frame

-- A string, as RFC 8259 says: between quotes, where a quote, a backslash and a control character
-- are escaped, and each other byte stands for itself.
unfoldable pub string_json : List ℕ → List ℕ
string_json bytes = quoted bytes

-- a member behind another one, under a name that needs no escapes: `,"NAME":STRING`
unfoldable pub member_json : List ℕ → List ℕ → List ℕ
member_json name bytes = codes ",\"" ++ name ++ codes "\":" ++ string_json bytes

-- `,"NAME":N`
unfoldable pub count_json : List ℕ → ℕ → List ℕ
count_json name n = codes ",\"" ++ name ++ codes "\":" ++ decimal n

-- `"NAME":"HH:MM:SS","NAME_seconds":N`, the time as in the texts and as a number
unfoldable pub moment : List ℕ → ℤ → List ℕ
moment name time =
    codes "\"" ++ name ++ codes "\":\"" ++ time_text time ++ codes "\",\"" ++ name
    ++ codes "_seconds\":" ++ signed_decimal time

-- the service day of a trip, in days after the date: nothing where it is the date
abbrev pub day_member : ServiceDay → List ℕ
day_member day.Before = codes ",\"day\":-1"
day_member day.Date = []
day_member day.After = codes ",\"day\":1"
day_member day.SecondAfter = codes ",\"day\":2"

abbrev pub day_json : TimetableData → ℕ → List ℕ
day_json T t = day_member (trip_day T t)

-- what stands for no value, before the first, between two, and behind the last
abbrev pub nothing : Frame → List ℕ
nothing frame.Lines = []
nothing frame.Array = codes "[]"

abbrev pub opening : Frame → List ℕ
opening frame.Lines = []
opening frame.Array = codes "["

abbrev pub between : Frame → List ℕ
between frame.Lines = codes "\n"
between frame.Array = codes ","

abbrev pub closing : Frame → List ℕ
closing frame.Lines = codes "\n"
closing frame.Array = codes "]"

-- values that follow others
abbrev pub followers : {X : Type 0} → Frame → (X → List ℕ) → List X → List ℕ
followers frame json_of xs = flat_map (λ x. between frame ++ json_of x) xs

-- values in their order: one line each (JSON Lines), or in an array
abbrev pub framed : {X : Type 0} → Frame → (X → List ℕ) → List X → List ℕ
framed frame json_of [] = nothing frame
framed frame json_of (x ∷ xs) =
    opening frame ++ json_of x ++ followers frame json_of xs ++ closing frame
