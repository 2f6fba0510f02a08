use Rattle.std.proofs.Common.{arith}
use Rattle.foot_close.proofs.SearchLaws.{search_begun, search_gone, gone_smaller, searched}
use Rattle.foot_close.proofs.search.ChainSearch.run.Goals as goal

pub loop-next-init : goal.loop-next-init
loop-next-init c = search_begun c.args.paths.now c.args.from c.args.self.now c.relax_from.new.self c.requires.sound c.requires.from c.requires.fresh c.in_ok-relax_from.ensures

pub loop-next-preserved : goal.loop-next-preserved
loop-next-preserved c =
    search_gone c.args.paths.now c.args.from c.loop-next.self c.go_on.new.self c.loop-next.next c.waiting_at-reached.result c.requires.sound (omega (arith, c.loop-next.invariant.many, c.waiting_at-reached.ensures.within)) c.loop-next.invariant (omega arith)
    c.waiting_at-reached.ensures.place c.in_ok-go_on.ensures

pub returns-clause-shortest : goal.returns-clause-shortest
returns-clause-shortest c = searched c.args.paths.now c.args.from c.loop-next.self c.loop-next.next c.loop-next.invariant (omega arith)

pub loop-next-smaller : goal.loop-next-smaller
loop-next-smaller c = gone_smaller c.args.paths.now c.loop-next.self c.go_on.new.self c.loop-next.next c.waiting_at-reached.result (omega arith) c.in_ok-go_on.ensures
