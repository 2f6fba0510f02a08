-- Places: the stops and the stations, by their names.
use Rattle.std.specs.Prelude.{ℕ, ◌<◌, List, [], ◌∷◌, length, Option, position, bytes_eq, slice_index_or}
use Rattle.std.specs.Option.{option_map, option_or}
use Rattle.tb_base.specs.declared.query.Place.{Place}
use Rattle.tb_base.specs.declared.query.Place.TheVariants.{Stop as StopPlace, Station as StationPlace}
use Rattle.tb_base.specs.TimetableData.{StationData, TimetableData}

-- the stop with the name, else the station with it, where there is one
abbrev pub place_named : TimetableData → List ℕ → Option Place
place_named T name =
    option_or (option_map StopPlace (position (λ s. bytes_eq name s.name) T.stops))
    (option_map StationPlace (position (λ s. bytes_eq name (StationData.name s)) T.stations))

-- the place is one of the timetable
abbrev pub HasPlace : TimetableData → Place → Type 0
HasPlace T (StopPlace p) = p < length T.stops
HasPlace T (StationPlace n) = n < length T.stations

-- the stops of a place: the stop alone, or those of the station
abbrev pub stops_of : TimetableData → Place → List ℕ
stops_of T (StopPlace p) = p ∷ []
stops_of T (StationPlace n) =
    StationData.stops (slice_index_or T.stations n (record { name = []; stops = [] }))
