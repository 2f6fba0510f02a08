-- The latest departures as a text.
use Rattle.std.specs.Prelude.{ℕ, List, [], ◌∷◌, ◌++◌, codes, flat_map}
use Rattle.std.specs.Fmt.{decimal}
use Rattle.tb_base.specs.TimetableData.{TimetableData}
use Rattle.answer_text.specs.Journeys.{legs_text, no_journey}
use Rattle.tb_base.specs.Clock.{time_text}
use Rattle.arrive_by.specs.Latest.{DepartureData}

-- `leave TIME rides N`, then the legs
abbrev pub departure_text : TimetableData → DepartureData → List ℕ
departure_text T d =
    codes "leave " ++ time_text d.leave ++ codes " rides " ++ decimal d.rides ++ codes "\n"
    ++ legs_text T d.legs

-- each departure, and `no journey` where there is none
abbrev pub departures_text : TimetableData → List DepartureData → List ℕ
departures_text T [] = no_journey
departures_text T (d ∷ ds) = flat_map (departure_text T) (d ∷ ds)
