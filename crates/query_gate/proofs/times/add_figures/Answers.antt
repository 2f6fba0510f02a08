use Rattle.std.proofs.Common.{◌≡◌, ◌++◌, List, Option, ℤ, subst}
use Rattle.std.specs.Prelude.{OnOk}
use Rattle.answer_json.specs.Travel.{travel_json}
use Rattle.query_gate.specs.Json.{figures_json}
use Rattle.query_gate.proofs.times.add_figures.Goals as goal

pub returns : goal.returns
unfolding figures_json
returns c =
    subst (λ (times : List (Option ℤ)). OnOk c.add_travel.result (c.add_travel.new.text ≡ c.args.text.now ++ travel_json c.args.table.now c.args.stop c.args.figures.now.reached c.args.departures times)) c.times.ensures c.add_travel.ensures
