-- What a JSON text claims: the value of a journey, and its legs; or its first fault, by the line at
-- which the same claim would have it in lines: the value is line 1, and a leg a line after it.
use Rattle.std.specs.Prelude.{ℕ, ◌+◌, List, [], ◌∷◌, length, codes, bytes_eq, nat_lt, Option, Some, None, Result, Ok, Err, if◌then◌else◌}
use Rattle.std.specs.Option.{option_and_then}
use Rattle.std.specs.Str.{is_utf8}
use Rattle.json.specs.Find.{as_array, as_number, as_str, get}
use Rattle.json.specs.Json.{Items, Json, document, item, no_items}
use Rattle.gtfs_rows.specs.Steps.{and_then, prepend}
use Rattle.tb_base.specs.BestValues.{ChoiceData}
use Rattle.tb_base.specs.TimetableData.{TimetableData}
use Rattle.tb_base.specs.declared.days.ServiceDay.{ServiceDay}
use Rattle.tb_base.specs.declared.days.ServiceDay.TheVariants as day
use Rattle.tb_base.specs.declared.query.Leg.{Leg}
use Rattle.tb_base.specs.declared.query.Value.{Value}
use Rattle.journey_read.specs.Claims.{claim_with, ends_of, good, ride_named, value_shown, walk_between}
use Rattle.journey_read.specs.declared.claim.JourneyFault.{JourneyFault}
use Rattle.journey_read.specs.declared.claim.JourneyFault.TheVariants as fault
use Rattle.journey_read.specs.declared.rides.Ends.{Ends}

-- The text of the member with a name that is a string, or a number. Of members with one name the
-- last counts, and no other member does.
abbrev pub text_at : List ℕ → Json → Option (List ℕ)
text_at name j = option_and_then as_str (get name j)

abbrev pub number_at : List ℕ → Json → Option (List ℕ)
number_at name j = option_and_then as_number (get name j)

-- `{"from":STOP,"to":STOP,"seconds":N}`
abbrev pub json_walk : TimetableData → ℕ → Json → Result Leg JourneyFault
json_walk T n leg =
    and_then (good n (text_at (codes "from") leg))
    (λ from. and_then (good n (text_at (codes "to") leg))
    (λ to. and_then (good n (number_at (codes "seconds") leg)) (walk_between T n from to)))

-- where and when a ride begins and ends
abbrev pub json_ends : TimetableData → ℕ → Json → Result Ends JourneyFault
json_ends T n leg =
    and_then (good n (text_at (codes "from") leg))
    (λ from. and_then (good n (text_at (codes "departure") leg))
    (λ departure. and_then (good n (text_at (codes "to") leg))
    (λ to. and_then (good n (text_at (codes "arrival") leg)) (ends_of T n from departure to))))

-- the service day that a number names, in days after the date
abbrev pub day_numbered : List ℕ → Option ServiceDay
day_numbered number =
    if bytes_eq number (codes "-1") then Some day.Before
    else if bytes_eq number (codes "1") then Some day.After
    else if bytes_eq number (codes "2") then Some day.SecondAfter
    else None

-- the service day of a ride's trip: the date where there is no such member
abbrev pub day_in : Option Json → Option ServiceDay
day_in None = Some day.Date
day_in (Some j) = option_and_then day_numbered (as_number j)

-- `{"trip":TRIP,"from":STOP,"departure":TIME,"to":STOP,"arrival":TIME}`, or the same with a day
abbrev pub json_ride : TimetableData → ℕ → Json → Json → Result Leg JourneyFault
json_ride T n trip leg =
    and_then (good n (as_str trip))
    (λ name. and_then (good n (day_in (get (codes "day") leg)))
    (λ day. and_then (json_ends T n leg) (ride_named T n name day)))

-- a leg: a ride where it has a trip, else a walk
abbrev pub json_leg_by : TimetableData → ℕ → Option Json → Json → Result Leg JourneyFault
json_leg_by T n None leg = json_walk T n leg
json_leg_by T n (Some trip) leg = json_ride T n trip leg

abbrev pub json_leg : TimetableData → ℕ → Json → Result Leg JourneyFault
json_leg T n leg = json_leg_by T n (get (codes "trip") leg) leg

-- these legs, in order, of which the first is line n
abbrev pub json_legs : TimetableData → ℕ → Items → Result (List Leg) JourneyFault
json_legs T n no_items = Ok []
json_legs T n (item leg legs) =
    and_then (json_leg T n leg) (λ first. prepend (first ∷ []) (json_legs T (n + 1) legs))

-- `"arrive":TIME,"rides":N`, as a value
abbrev pub json_value : Json → Option Value
json_value j =
    option_and_then (λ time. option_and_then (value_shown time) (number_at (codes "rides") j))
    (text_at (codes "arrive") j)

-- `{"arrive":TIME,"rides":N,"legs":[LEG,..]}`
abbrev pub json_claim : TimetableData → Json → Result ChoiceData JourneyFault
json_claim T j =
    and_then (good 1 (json_value j))
    (λ v. and_then (good 1 (option_and_then as_array (get (codes "legs") j)))
    (λ legs. claim_with v [] (json_legs T 2 legs)))

-- the JSON value that bytes are, if they are UTF-8
abbrev pub json_of : List ℕ → Option Json
json_of bytes = if is_utf8 bytes then document bytes else None

-- the claim of a text of at most 1,048,576 bytes, or its first fault: one that is no JSON is bad at
-- line 0
abbrev pub json_claim_of : TimetableData → List ℕ → Result ChoiceData JourneyFault
json_claim_of T bytes =
    if nat_lt 1048576 (length bytes) then Err fault.TooLong
    else and_then (good 0 (json_of bytes)) (json_claim T)
