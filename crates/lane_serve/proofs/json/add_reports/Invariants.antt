use Rattle.std.proofs.Common.{◌≡◌, ◌++◌, take, flat_map}
use Rattle.lane_serve.specs.Json.{report_json}
use Rattle.lane_serve.proofs.json.add_reports.Given as goal

abbrev pub invariant-loop-report : goal.invariant-loop-report
invariant-loop-report l = l.text ≡ l.fn.text ++ flat_map report_json (take l.report-index l.reports)
