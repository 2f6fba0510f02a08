use Rattle.std.proofs.Common.{inr, sym, subst, arith}
use Rattle.tb_base.specs.Network.{NetData}
use Rattle.tb_base.specs.BestValues.{QueryData}
use Rattle.reach_all.specs.Reach.{IsReach}
use Rattle.reach_all.proofs.Reached.{found-later, of_answer, reach_if_granted}
use Rattle.reach_all.proofs.query.reach_from.Goals as goal

pub run-requires-clause-ready : goal.run-requires-clause-ready
run-requires-clause-ready g c = λ later h.
    let starts = c.in_ok-offers.ensures in
    inr (record { found = found-later (g.S.Scan.net c.args.scan.now).table c.args.query.now.from c.args.query.now.leave 0 later _ (omega arith) starts.found; starts = starts.held })

pub returns-clause-reach : goal.returns-clause-reach
returns-clause-reach g c =
    let N : NetData = g.S.Scan.net c.args.scan.now in
    let Q : QueryData = c.args.query.now in
    let D = c.run.new.desk in
    let offers = c.run.new.also in
    of_answer _ _ (λ rows known. subst (IsReach N.table Q.from Q.leave) (sym known.1)
    (reach_if_granted N Q D c.run.ensures.ridden.0 c.run.ensures.ridden.1 c.requires.no_target offers.refused offers.arrivals known.0 c.run.ensures.met c.run.ensures.ready.0 c.run.ensures.ready.1 c.soundness.ensures.sound c.requires.sufficient))
    c.into_rows.result c.into_rows.ensures
