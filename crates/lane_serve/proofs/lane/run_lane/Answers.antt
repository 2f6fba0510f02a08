use Rattle.std.proofs.Common.{rules}
use Rattle.history.proofs.Lists.{extends_trans}
use Rattle.lane_serve.proofs.Runs.{read_as, since_more, so_far_longer, so_far_more}
use Rattle.lane_serve.proofs.lane.run_lane.Goals as goal

pub loop-i-preserved : goal.loop-i-preserved
loop-i-preserved g c =
    let q = c.index-requests-i.result in
    let right = read_as _ _ _ _ c.index-requests-i.is c.in_ok-reply.ensures.right in
    let more = so_far_more c.answer-reply.new.caller.kept.list c.loop-i.caller.kept.list c.answer-reply.ensures.later.0 c.args.requests.now c.loop-i.i q c.loop-i.replies.items c.in_ok-reply.field-0 c.loop-i.invariant.0 c.loop-i-test.true c.in_ok-reply.ensures.line c.in_ok-reply.ensures.edition right in
    let later = extends_trans c.args.caller.now.kept c.loop-i.caller.kept c.answer-reply.new.caller.kept c.answer-reply.ensures.later c.loop-i.invariant.1 in
    let since = since_more c.answer-reply.new.caller.kept.list c.args.caller.now.kept.list later.0 c.loop-i.replies.items c.in_ok-reply.field-0 c.loop-i.invariant.2 c.in_ok-reply.ensures.edition in
    (rw c.in-Ok.ensures.items more, later, rw c.in-Ok.ensures.items since)

pub returns-clause-longer : goal.returns-clause-longer
returns-clause-longer g c = so_far_longer c.loop-i.caller.kept.list c.args.requests.now c.loop-i.i c.loop-i.replies.items (search rules) c.loop-i.invariant.0
