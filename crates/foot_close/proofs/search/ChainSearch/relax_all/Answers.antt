use Rattle.foot_close.proofs.Relaxing.{relaxed_more}
use Rattle.foot_close.proofs.search.ChainSearch.relax_all.Goals as goal

pub loop-path-preserved : goal.loop-path-preserved
loop-path-preserved c = relaxed_more c.args.row.now c.loop-path.path-index c.path-item.result c.args.secs c.args.self.now c.loop-path.self c.relax.new.self c.loop-path-test.true c.path-item.is c.loop-path.invariant c.in_ok-relax.ensures
