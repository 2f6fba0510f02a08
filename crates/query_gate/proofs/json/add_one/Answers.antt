use Rattle.std.proofs.Common.{rules}
use Rattle.query_gate.specs.Json.{departure_value}
use Rattle.query_gate.proofs.json.add_one.Goals as goal

pub returns : goal.returns
unfolding departure_value
returns c = search rules
