-- Journeys as texts.
use Rattle.std.specs.Prelude.{ℕ, List, [], ◌∷◌, ◌++◌, codes, flat_map, slice_index_or, Option, Some, None, ℤ}
use Rattle.std.specs.Fmt.{decimal}
use Rattle.tb_base.specs.declared.days.ServiceDay.{ServiceDay}
use Rattle.tb_base.specs.declared.days.ServiceDay.TheVariants as day
use Rattle.tb_base.specs.TimetableData.{TripData, TimetableData, stop_at, arrival_at, departure_at, no_trip}
use Rattle.tb_base.specs.BestValues.{ChoiceData}
use Rattle.tb_base.specs.Profiles.{OfferData}
use Rattle.tb_base.specs.declared.query.Leg.{Leg}
use Rattle.tb_base.specs.declared.query.Leg.TheVariants as leg
use Rattle.tb_base.specs.declared.table.Stop.{Stop}
use Rattle.tb_base.specs.Clock.{time_text}

abbrev pub stop_name : TimetableData → ℕ → List ℕ
stop_name T p = Stop.name (slice_index_or T.stops p (record { name = [] }))

abbrev pub trip_name : TimetableData → ℕ → List ℕ
trip_name T t = TripData.name (slice_index_or T.trips t no_trip)

-- `  walk STOP STOP SECONDS`
abbrev pub walk_text : TimetableData → ℕ → ℕ → ℕ → List ℕ
walk_text T from to secs =
    codes "  walk" ++ (codes " " ++ stop_name T from) ++ (codes " " ++ stop_name T to)
    ++ codes " " ++ decimal secs ++ codes "\n"

-- ` STOP TIME`
abbrev pub place_text : TimetableData → ℕ → ℤ → List ℕ
place_text T p time = (codes " " ++ stop_name T p) ++ codes " " ++ time_text time

-- the service day of a trip
abbrev pub trip_day : TimetableData → ℕ → ServiceDay
trip_day T t = TripData.day (slice_index_or T.trips t no_trip)

-- what stands behind a ride on a trip of a service day: nothing where it is the date
abbrev pub ride_mark : ServiceDay → List ℕ
ride_mark day.Before = codes " day-before"
ride_mark day.Date = []
ride_mark day.After = codes " day-after"
ride_mark day.SecondAfter = codes " day+2"

-- `  ride TRIP STOP DEPARTURE STOP ARRIVAL`
abbrev pub ride_words : TimetableData → ℕ → ℕ → ℕ → List ℕ
ride_words T trip board alight =
    codes "  ride " ++ trip_name T trip
    ++ place_text T (stop_at T trip board) (departure_at T trip board)
    ++ place_text T (stop_at T trip alight) (arrival_at T trip alight)

-- the same, and its service day after it where that isn't the date
abbrev pub ride_text : TimetableData → ℕ → ℕ → ℕ → List ℕ
ride_text T trip board alight =
    ride_words T trip board alight ++ ride_mark (trip_day T trip) ++ codes "\n"

abbrev pub leg_text : TimetableData → Leg → List ℕ
leg_text T (leg.Walk from to secs) = walk_text T from to secs
leg_text T (leg.Ride trip board alight) = ride_text T trip board alight

-- one line a leg, in order
abbrev pub legs_text : TimetableData → List Leg → List ℕ
legs_text T legs = flat_map (leg_text T) legs

-- `arrive TIME rides N`, then the legs
abbrev pub journey_text : TimetableData → ℤ → ℕ → List Leg → List ℕ
journey_text T arrive rides legs =
    codes "arrive " ++ time_text arrive ++ codes " rides " ++ decimal rides ++ codes "\n"
    ++ legs_text T legs

abbrev pub choice_text : TimetableData → ChoiceData → List ℕ
choice_text T c = journey_text T c.value.arrive c.value.rides c.legs

-- what stands for no choice and no offer
abbrev pub no_journey : List ℕ
no_journey = codes "no journey\n"

abbrev pub choices_text : TimetableData → List ChoiceData → List ℕ
choices_text T [] = no_journey
choices_text T (c ∷ cs) = flat_map (choice_text T) (c ∷ cs)

-- `leave TIME `
abbrev pub leave_text : ℤ → List ℕ
leave_text time = codes "leave " ++ time_text time ++ codes " "

-- `leave TIME arrive TIME rides N`, then the legs
abbrev pub offer_text : TimetableData → OfferData → List ℕ
offer_text T o = leave_text o.slot.leave ++ journey_text T o.slot.arrive o.slot.rides o.legs

abbrev pub offers_text : TimetableData → List OfferData → List ℕ
offers_text T [] = no_journey
offers_text T (o ∷ os) = flat_map (offer_text T) (o ∷ os)

-- `arrive TIME`, or that there is no journey
abbrev pub arrival_text : Option ℤ → List ℕ
arrival_text None = no_journey
arrival_text (Some time) = codes "arrive " ++ time_text time ++ codes "\n"

-- `unknown stop NAME`
abbrev pub unknown_text : List ℕ → List ℕ
unknown_text name = codes "unknown stop " ++ name ++ codes "\n"
