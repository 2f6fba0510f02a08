-- The made city: a square grid of stops, with trips along its rows and its columns both ways.
use Rattle.std.specs.Prelude.{ℕ, ◌+◌, ◌*◌, ◌-◌, ◌/◌, ◌%◌, List, [], ◌++◌, Some, pos, true, codes, flat_map, map, replicate}
use Rattle.std.specs.Fmt.{decimal}
use Rattle.tb_base.specs.declared.days.ServiceDay.TheVariants as day
use Rattle.tb_base.specs.declared.table.Event.{Event}
use Rattle.tb_base.specs.declared.table.Stop.{Stop}
use Rattle.tb_base.specs.TimetableData.{TimetableData, TripData}
use Rattle.tb_base.specs.Transfers.{numbers_below}
use Rattle.feed_maker.specs.declared.heading.Heading.{Heading}
use Rattle.feed_maker.specs.declared.heading.Heading.TheVariants.{Rightward, Leftward, Downward, Upward}

-- the stop in column x and row y: `Sx-y`
abbrev pub stop_at_crossing : ℕ → ℕ → Stop
stop_at_crossing x y = record { name = codes "S" ++ decimal x ++ codes "-" ++ decimal y }

-- stops are numbered row by row, in a grid with n columns
abbrev pub stop_number : ℕ → ℕ → ℕ → ℕ
stop_number n x y = y * n + x

abbrev pub city_stop : ℕ → ℕ → Stop
city_stop n p = stop_at_crossing (p % n) (p / n)

-- the numbers of the ways that trips head
abbrev pub heading_number : Heading → ℕ
heading_number Rightward = 0
heading_number Leftward = 1
heading_number Downward = 2
heading_number Upward = 3

-- where a trip is at its event e: along row k to the right or to the left, or along column k down
-- or up
abbrev pub stop_along : ℕ → Heading → ℕ → ℕ → ℕ
stop_along n Rightward k e = stop_number n e k
stop_along n Leftward k e = stop_number n (n - 1 - e) k
stop_along n Downward k e = stop_number n k e
stop_along n Upward k e = stop_number n k (n - 1 - e)

-- When trip m of a line is at its event e: the first leaves at 06:00:00 or up to nine minutes
-- later, one follows every ten minutes, and from stop to stop it takes a minute and a half.
abbrev pub time_along : Heading → ℕ → ℕ → ℕ → ℕ
time_along heading k m e = 21600 + 600 * m + 60 * ((k + heading_number heading) % 10) + 90 * e

-- it doesn't wait, and one may board and alight everywhere
abbrev pub city_event : ℕ → Heading → ℕ → ℕ → ℕ → Event
city_event n heading k m e = record {
  stop = stop_along n heading k e;
  arr = pos (time_along heading k m e);
  dep = pos (time_along heading k m e);
  board = true;
  alight = true;
}

-- trip m of the line along row or column k: `DdKkMm`, with the number of its heading
abbrev pub city_trip : ℕ → Heading → ℕ → ℕ → TripData
city_trip n heading k m = record {
  name =
      codes "D" ++ decimal (heading_number heading) ++ codes "K" ++ decimal k ++ codes "M"
      ++ decimal m;
  day = day.Date;
  events = map (city_event n heading k m) (numbers_below n);
}

-- the 90 trips of a line, and those of all lines that head one way
abbrev pub trips_along : ℕ → Heading → ℕ → List TripData
trips_along n heading k = map (city_trip n heading k) (numbers_below 90)

abbrev pub trips_heading : ℕ → Heading → List TripData
trips_heading n heading = flat_map (trips_along n heading) (numbers_below n)

abbrev pub city_trips : ℕ → List TripData
city_trips n =
    trips_heading n Rightward ++ trips_heading n Leftward ++ trips_heading n Downward
    ++ trips_heading n Upward

-- The city with n rows and n columns. At every stop a change takes a minute, and there are no
-- stations and no footpaths.
abbrev pub city : ℕ → TimetableData
city n = record {
  stops = map (city_stop n) (numbers_below (n * n));
  stations = [];
  trips = city_trips n;
  footpaths = record { change = replicate (n * n) (Some 60); paths = replicate (n * n) [] };
}
