-- Journeys as JSON.
use Rattle.std.specs.Prelude.{ℕ, ℤ, List, ◌++◌, codes, Option, Some, None}
use Rattle.tb_base.specs.TimetableData.{TimetableData, stop_at, arrival_at, departure_at}
use Rattle.tb_base.specs.BestValues.{ChoiceData}
use Rattle.tb_base.specs.Profiles.{OfferData}
use Rattle.tb_base.specs.declared.query.Leg.{Leg}
use Rattle.tb_base.specs.declared.query.Leg.TheVariants as leg
use Rattle.answer_text.specs.Journeys.{stop_name, trip_name}
use Rattle.answer_json.specs.Frames.{count_json, day_json, framed, member_json, moment, string_json}
use Rattle.answer_json.specs.declared.frame.Frame.{Frame}
use Rattle.answer_json.specs.declared.frame.Frame.TheVariants as frame

-- `{"from":STOP,"to":STOP,"seconds":N}`
abbrev pub walk_json : TimetableData → ℕ → ℕ → ℕ → List ℕ
walk_json T from to secs =
    codes "{\"from\":" ++ string_json (stop_name T from)
    ++ member_json (codes "to") (stop_name T to) ++ count_json (codes "seconds") secs ++ codes "}"

-- `STOP,"NAME":TIME,"NAME_seconds":N`
abbrev pub place_json : TimetableData → ℕ → List ℕ → ℤ → List ℕ
place_json T p name time = string_json (stop_name T p) ++ codes "," ++ moment name time

-- where and when one boards a trip
abbrev pub boarding_json : TimetableData → ℕ → ℕ → List ℕ
boarding_json T trip i =
    codes ",\"from\":"
    ++ place_json T (stop_at T trip i) (codes "departure") (departure_at T trip i)

-- where and when one alights
abbrev pub alighting_json : TimetableData → ℕ → ℕ → List ℕ
alighting_json T trip i =
    codes ",\"to\":" ++ place_json T (stop_at T trip i) (codes "arrival") (arrival_at T trip i)

-- `{"trip":TRIP,"from":STOP,"departure":TIME,..,"to":STOP,"arrival":TIME,..}`, with its
-- service day behind the trip's name where that isn't the date
abbrev pub ride_json : TimetableData → ℕ → ℕ → ℕ → List ℕ
ride_json T trip board alight =
    codes "{\"trip\":" ++ string_json (trip_name T trip) ++ day_json T trip
    ++ boarding_json T trip board ++ alighting_json T trip alight ++ codes "}"

abbrev pub leg_json : TimetableData → Leg → List ℕ
leg_json T (leg.Walk from to secs) = walk_json T from to secs
leg_json T (leg.Ride trip board alight) = ride_json T trip board alight

-- the legs in order, as an array
abbrev pub legs_json : TimetableData → List Leg → List ℕ
legs_json T legs = framed frame.Array (leg_json T) legs

-- `,"rides":N,"legs":[..]}`
abbrev pub rides_json : TimetableData → ℕ → List Leg → List ℕ
rides_json T rides legs =
    count_json (codes "rides") rides ++ codes ",\"legs\":" ++ legs_json T legs ++ codes "}"

-- `{"arrive":TIME,..,"rides":N,"legs":[..]}`
abbrev pub choice_json : TimetableData → ChoiceData → List ℕ
choice_json T c =
    codes "{" ++ moment (codes "arrive") c.value.arrive ++ rides_json T c.value.rides c.legs

-- `{"leave":TIME,..,"arrive":TIME,..,"rides":N,"legs":[..]}`
abbrev pub offer_json : TimetableData → OfferData → List ℕ
offer_json T o =
    codes "{" ++ moment (codes "leave") o.slot.leave
    ++ codes "," ++ moment (codes "arrive") o.slot.arrive ++ rides_json T o.slot.rides o.legs

-- `{"leave":TIME,..,"rides":N,"legs":[..]}`
abbrev pub departure_json : TimetableData → ℤ → ℕ → List Leg → List ℕ
departure_json T leave rides legs =
    codes "{" ++ moment (codes "leave") leave ++ rides_json T rides legs

-- the values of a choice and of an offer, in order
abbrev pub choices_json : Frame → TimetableData → List ChoiceData → List ℕ
choices_json frame T choices = framed frame (choice_json T) choices

abbrev pub offers_json : Frame → TimetableData → List OfferData → List ℕ
offers_json frame T offers = framed frame (offer_json T) offers

-- `{"arrive":TIME,..}`, or `{"arrive":null}` where there is no journey
abbrev pub arrival_json : Option ℤ → List ℕ
arrival_json None = codes "{\"arrive\":null}\n"
arrival_json (Some time) = codes "{" ++ moment (codes "arrive") time ++ codes "}\n"

-- `"unknown_stop":NAME`
abbrev pub unknown_member : List ℕ → List ℕ
unknown_member name = codes "\"unknown_stop\":" ++ string_json name

abbrev pub unknown_json : List ℕ → List ℕ
unknown_json name = codes "{" ++ unknown_member name ++ codes "}\n"
