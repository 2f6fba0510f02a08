-- What a run of lanes beside a publisher gives, as lines of text.
use Rattle.std.specs.Prelude.{ℕ, List, ◌∷◌, ◌++◌, codes, flat_map}
use Rattle.std.specs.Fmt.{decimal}
use Rattle.lane_serve.specs.declared.lane.ReplyText.{ReplyText}
use Rattle.edition_build.specs.OutcomeTexts.{outcomes_text}
use Rattle.lane_serve.specs.Lanes.{ReportData}
use Rattle.edition_build.specs.Plans.{ItemData}
use Rattle.lane_serve.specs.Served.{ServedData}

-- `K edition N`, and the reply's lines
abbrev pub answered_text : ReplyText → List ℕ
answered_text r =
    decimal r.line ++ codes " edition " ++ decimal r.edition ++ codes "\n" ++ r.text

-- `lane NAME`, and the replies in order
abbrev pub report_text : ReportData → List ℕ
report_text report =
    codes "lane " ++ report.name ++ codes "\n" ++ flat_map answered_text report.replies

-- `closing edition N`
abbrev pub closing_text : ℕ → List ℕ
closing_text last = codes "closing edition " ++ decimal last ++ codes "\n"

-- the outcomes of the plan's items; each lane's replies; the last edition's number; each lane's
-- closing replies
abbrev pub served_text : List ItemData → ServedData → List ℕ
served_text plan s =
    outcomes_text plan s.outcomes ++ flat_map report_text s.lanes ++ closing_text s.last
    ++ flat_map report_text s.closing
