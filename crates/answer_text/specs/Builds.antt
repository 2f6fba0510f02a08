-- What is built of a timetable, as texts.
use Rattle.std.specs.Prelude.{ℕ, ◌<◌, List, [], ◌++◌, codes, flat_map, length}
use Rattle.std.specs.Fmt.{decimal}
use Rattle.tb_base.specs.declared.days.ServiceDay.{ServiceDay}
use Rattle.tb_base.specs.declared.days.ServiceDay.TheVariants as day
use Rattle.tb_base.specs.TimetableData.{TimetableData, event_total, path_total}
use Rattle.tb_base.specs.declared.transfer.Transfer.{Transfer}
use Rattle.answer_text.specs.declared.builds.BuildCounts.{BuildCounts}
use Rattle.answer_text.specs.Journeys.{trip_day, trip_name}

-- a label and a number
abbrev pub labelled : List ℕ → ℕ → List ℕ
labelled label n = label ++ decimal n

-- `stops N trips N events N footpaths N`
abbrev pub table_text : TimetableData → List ℕ
table_text T =
    labelled (codes "stops ") (length T.stops) ++ labelled (codes " trips ") (length T.trips)
    ++ labelled (codes " events ") (event_total T)
    ++ labelled (codes " footpaths ") (path_total T.footpaths) ++ codes "\n"

-- `lines N generated N after_uturn N kept N`
abbrev pub counts_text : BuildCounts → List ℕ
counts_text c =
    labelled (codes "lines ") c.lines ++ labelled (codes " generated ") c.generated
    ++ labelled (codes " after_uturn ") c.after_uturn
    ++ labelled (codes " kept ") c.kept ++ codes "\n"

-- both lines
abbrev pub build_text : TimetableData → BuildCounts → List ℕ
build_text T c = table_text T ++ counts_text c

-- what stands behind an event of a trip of a service day: nothing where it is the date
abbrev pub event_mark : ServiceDay → List ℕ
event_mark day.Before = codes "/before"
event_mark day.Date = []
event_mark day.After = codes "/after"
event_mark day.SecondAfter = codes "/+2"

-- `TRIP@I`, and its service day after it where that isn't the date
abbrev pub event_text : TimetableData → ℕ → ℕ → List ℕ
event_text T t i = trip_name T t ++ codes "@" ++ decimal i ++ event_mark (trip_day T t)

-- `TRIP@I TRIP@J`
abbrev pub transfer_text : TimetableData → Transfer → List ℕ
transfer_text T r =
    event_text T r.trip r.at ++ codes " " ++ event_text T r.to_trip r.to_at ++ codes "\n"

-- one line a transfer, in order
abbrev pub transfers_text : TimetableData → List Transfer → List ℕ
transfers_text T row = flat_map (transfer_text T) row

-- both lines, then one line a transfer, list after list
abbrev pub build_list_text : TimetableData → BuildCounts → List (List Transfer) → List ℕ
build_list_text T c rows = build_text T c ++ flat_map (transfers_text T) rows

-- the trips of a transfer exist
pub record HasTrips (T : TimetableData) (r : Transfer) : Type 0 where
  pub trip : r.trip < length T.trips
  pub to_trip : r.to_trip < length T.trips
