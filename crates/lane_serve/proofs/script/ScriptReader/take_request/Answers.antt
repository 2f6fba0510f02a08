use Rattle.std.proofs.Common.{rules}
use Rattle.lane_serve.proofs.Scripts.{one_more}
use Rattle.lane_serve.proofs.script.ScriptReader.take_request.Goals as goal

pub invariant_of-self-2 : goal.invariant_of-self-2
invariant_of-self-2 c =
    one_more c.self.inside.lanes.items c.add_request.new.lanes.items c.in-Some.request c.self.inside.requests
    (search rules) c.self.invariant.0 c.if-self-ge-MOST_REQUESTS.false c.self.invariant.1 (search rules)
    c.in_ok-add_request.ensures.ok
