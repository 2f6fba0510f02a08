-- What a run of lanes beside a publisher gives, as lines of JSON.
use Rattle.std.specs.Prelude.{ℕ, List, ◌++◌, codes, flat_map, Bool, if◌then◌else◌}
use Rattle.std.specs.Fmt.{decimal}
use Rattle.answer_json.specs.Frames.{count_json, string_json}
use Rattle.lane_serve.specs.declared.lane.ReplyText.{ReplyText}
use Rattle.lane_serve.specs.Lanes.{ReportData}
use Rattle.edition_build.specs.Plans.{ItemData}
use Rattle.lane_serve.specs.Served.{ServedData}
use Rattle.edition_build.specs.OutcomeJson.{outcomes_json}
use Rattle.lane_serve.specs.Texts.{served_text}

-- `{"lane":NAME,"request":K,"edition":N,MEMBER}`, with the member that the reply is
unfoldable pub answered_json : List ℕ → ReplyText → List ℕ
answered_json name r =
    codes "{\"lane\":" ++ string_json name ++ count_json (codes "request") r.line
    ++ count_json (codes "edition") r.edition ++ codes "," ++ r.text ++ codes "}\n"

-- one line for each reply of a lane, in order
abbrev pub report_json : ReportData → List ℕ
report_json report = flat_map (answered_json report.name) report.replies

-- `{"closing":N}`
abbrev pub closing_json : ℕ → List ℕ
closing_json last = codes "{\"closing\":" ++ decimal last ++ codes "}\n"

-- the outcomes of the plan's items; each lane's replies; the last edition's number; each lane's
-- closing replies
abbrev pub served_json : List ItemData → ServedData → List ℕ
served_json plan s =
    outcomes_json plan s.outcomes ++ flat_map report_json s.lanes ++ closing_json s.last
    ++ flat_map report_json s.closing

-- the same as JSON, or as a text
abbrev pub served_shown : Bool → List ItemData → ServedData → List ℕ
served_shown json plan s = if json then served_json plan s else served_text plan s
