use Rattle.std.proofs.Common.{◌≡◌, length, rules}
use Rattle.lane_serve.proofs.Scripts.{add_last}
use Rattle.lane_serve.proofs.script.add_request.Goals as goal

pub returns-clause-ok : goal.returns-clause-ok
returns-clause-ok c =
    let n : c.len-last.result ≡ length c.args.lanes.now.items = search rules in
    add_last c.args.lanes.now.items c.len-last.result c.args.request c.behind-lanes.inside.name
    c.behind-lanes.inside.lines.items c.push.new.self.items c.index_mut.result.now
    n (rw n c.requires) c.behind-lanes.view_is c.index_mut.ensures.value c.in_ok-push.ensures.items
