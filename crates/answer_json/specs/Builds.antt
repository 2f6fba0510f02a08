-- What is built of a timetable, as JSON.
use Rattle.std.specs.Prelude.{ℕ, List, ◌++◌, codes, flat_map, length}
use Rattle.std.specs.Fmt.{decimal}
use Rattle.tb_base.specs.TimetableData.{TimetableData, event_total, path_total}
use Rattle.tb_base.specs.declared.transfer.Transfer.{Transfer}
use Rattle.answer_text.specs.Journeys.{trip_name}
use Rattle.answer_text.specs.declared.builds.BuildCounts.{BuildCounts}
use Rattle.answer_json.specs.Frames.{count_json, day_json, string_json}

-- `{"stops":N,"trips":N,"events":N,"footpaths":N`
abbrev pub table_json : TimetableData → List ℕ
table_json T =
    codes "{\"stops\":" ++ decimal (length T.stops) ++ count_json (codes "trips") (length T.trips)
    ++ count_json (codes "events") (event_total T)
    ++ count_json (codes "footpaths") (path_total T.footpaths)

-- `,"lines":N,"generated":N,"after_uturn":N,"kept":N}`
abbrev pub counts_json : BuildCounts → List ℕ
counts_json c =
    count_json (codes "lines") c.lines ++ count_json (codes "generated") c.generated
    ++ count_json (codes "after_uturn") c.after_uturn ++ count_json (codes "kept") c.kept
    ++ codes "}"

-- both in one line
abbrev pub build_json : TimetableData → BuildCounts → List ℕ
build_json T c = table_json T ++ counts_json c ++ codes "\n"

-- `{"trip":TRIP,"event":I}`, with its service day behind the trip's name where that isn't the date
abbrev pub event_json : TimetableData → ℕ → ℕ → List ℕ
event_json T t i =
    codes "{\"trip\":" ++ string_json (trip_name T t) ++ day_json T t
    ++ count_json (codes "event") i ++ codes "}"

-- `{"from":EVENT,"to":EVENT}`, in a line
unfoldable pub transfer_json : TimetableData → Transfer → List ℕ
transfer_json T r =
    codes "{\"from\":" ++ event_json T r.trip r.at ++ codes ",\"to\":"
    ++ event_json T r.to_trip r.to_at ++ codes "}\n"

-- one line a transfer, in order
abbrev pub transfers_json : TimetableData → List Transfer → List ℕ
transfers_json T rows = flat_map (transfer_json T) rows

-- the line of what is built, then one line a transfer, list after list
abbrev pub build_list_json : TimetableData → BuildCounts → List (List Transfer) → List ℕ
build_list_json T c lists = build_json T c ++ flat_map (transfers_json T) lists
