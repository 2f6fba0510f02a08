use Rattle.std.proofs.Common.{◌∙◌, ap, length}
use Rattle.std.proofs.lemmas.List.{length-set, get_or_default}
use Rattle.footpaths.proofs.BestRuleLaws.{mark_one_more}
use Rattle.footpaths.proofs.best_rules.BestRules.mark_all.Goals as goal

pub loop-stop-preserved : goal.loop-stop-preserved
loop-stop-preserved c =
    let i = c.loop-stop.stop-index in
    let m = Rattle.std.proofs.Common.get_or c.args.stops.now i 0 in
    record {
      many = ap length c.in_ok-mark.ensures ∙ length-set c.loop-stop.self m _ ∙ c.loop-stop.invariant.many;
      marked = mark_one_more c.args.self.now c.loop-stop.self c.mark.new.self c.args.stops.now i m c.args.rank c.args.secs c.requires.distinct c.requires.within c.loop-stop.invariant.many c.loop-stop-test.true (get_or_default c.args.stops.now i 0 m c.loop-stop-test.true) c.in_ok-mark.ensures c.loop-stop.invariant.marked;
    }
