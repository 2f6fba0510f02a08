-- Replies as JSON.
use Rattle.std.specs.Prelude.{ℕ, List, [], ◌++◌, codes, length, map, Bool, if◌then◌else◌}
use Rattle.std.specs.Fmt.{decimal}
use Rattle.tb_base.specs.TimetableData.{TimetableData}
use Rattle.tb_base.specs.Transfers.{numbers_below}
use Rattle.reach_all.specs.TimesText.{figure_times, figures_at}
use Rattle.reach_all.specs.declared.figures.Figures.{Figures}
use Rattle.arrive_by.specs.Latest.{DepartureData}
use Rattle.answer_json.specs.Frames.{framed}
use Rattle.answer_json.specs.Journeys.{choices_json, departure_json, offers_json, unknown_member}
use Rattle.answer_json.specs.Reached.{reach_json}
use Rattle.answer_json.specs.Travel.{travel_json}
use Rattle.answer_json.specs.declared.frame.Frame.{Frame}
use Rattle.answer_json.specs.declared.frame.Frame.TheVariants as frame
use Rattle.query_gate.specs.Replies.{reply_text}
use Rattle.query_gate.specs.declared.reply.Reply.{Reply}
use Rattle.query_gate.specs.declared.reply.Reply.TheVariants as reply

-- a departure
unfoldable pub departure_value : TimetableData → DepartureData → List ℕ
departure_value T d = departure_json T d.leave d.rides d.legs

-- each departure, in order
abbrev pub departures_json : Frame → TimetableData → List DepartureData → List ℕ
departures_json frame T ds = framed frame (departure_value T) ds

-- a stop with so many departures and its figures
unfoldable pub figures_json : TimetableData → ℕ → ℕ → Figures → List ℕ
figures_json T departures stop f = travel_json T stop f.reached departures (figure_times f)

abbrev pub stop_json : TimetableData → ℕ → List Figures → ℕ → List ℕ
stop_json T departures figures stop = figures_json T departures stop (figures_at figures stop)

-- each stop, by its number
abbrev pub times_json : Frame → TimetableData → ℕ → List Figures → List ℕ
times_json frame T departures figures =
    framed frame (stop_json T departures figures) (numbers_below (length T.stops))

-- what stands before values: each is a line of its own, or all are the member `values`
abbrev pub before_values : Frame → List ℕ
before_values frame.Lines = []
before_values frame.Array = codes "\"values\":"

-- the one member of a line, or a member
abbrev pub lone_member : Frame → List ℕ → List ℕ
lone_member frame.Lines member = codes "{" ++ member ++ codes "}\n"
lone_member frame.Array member = member

-- `"deferred":N`
abbrev pub deferred_member : ℕ → List ℕ
deferred_member number = codes "\"deferred\":" ++ decimal number

-- `"no_mirror":true`
abbrev pub no_mirror_member : List ℕ
no_mirror_member = codes "\"no_mirror\":true"

-- A reply over a timetable: its values in lines, or that it has none; or the same as one member of
-- an object.
abbrev pub reply_json : Frame → TimetableData → Reply → List ℕ
reply_json frame T (reply.Values choices) =
    before_values frame ++ choices_json frame T choices.items
reply_json frame T (reply.Slots offers) = before_values frame ++ offers_json frame T offers.items
reply_json frame T (reply.Departures ds) = before_values frame ++ departures_json frame T ds.items
reply_json frame T (reply.Reached lists) =
    before_values frame ++ reach_json frame T (map (λ list. list.items) lists.items)
reply_json frame T (reply.Times travel) =
    before_values frame ++ times_json frame T travel.departures travel.figures.items
reply_json frame T (reply.UnknownStop name) = lone_member frame (unknown_member name)
reply_json frame T (reply.Deferred number) = lone_member frame (deferred_member number)
reply_json frame T reply.NoMirror = lone_member frame no_mirror_member

-- a reply as JSON, or as a text
abbrev pub shown_reply : Bool → Frame → TimetableData → Reply → List ℕ
shown_reply json frame T r = if json then reply_json frame T r else reply_text T r
