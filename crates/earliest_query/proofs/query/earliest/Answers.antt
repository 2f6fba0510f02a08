use Rattle.tb_base.specs.Network.{NetData}
use Rattle.segment_queue.specs.Queue.{DeskData}
use Rattle.earliest_query.specs.Ridden.{IsIndexServed}
use Rattle.earliest_query.proofs.Sorting.{are_parts}
use Rattle.earliest_query.proofs.Answering.{answered, served_parts, served_search}
use Rattle.earliest_query.proofs.query.earliest.Goals as goal

pub returns-clause-answered : goal.returns-clause-answered
returns-clause-answered g c =
    answered (g.S.Scan.net c.args.scan.now) c.args.query.now c.run.new.desk c.run.ensures.ridden.0 c.run.ensures.ridden.1 c.soundness.ensures.sound c.requires.sufficient

pub returns-clause-searched : goal.returns-clause-searched
returns-clause-searched g c =
    let N : NetData = g.S.Scan.net c.args.scan.now in
    let Q = c.args.query.now in
    let D : DeskData = c.run.new.desk in
    let round = c.run.ensures.ridden.0 in
    let ridden = c.run.ensures.ridden.1 in
    (served_parts N Q D round ridden, are_parts N Q D round ridden.queue (λ n i. IsIndexServed N Q D n i) ridden.served, served_search N Q D round ridden)
