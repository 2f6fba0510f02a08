use Rattle.query_gate.proofs.Best.{best_choices}
use Rattle.query_gate.proofs.choices.best_choices.Goals as goal

pub returns-clause-best : goal.returns-clause-best
returns-clause-best g c =
    best_choices (g.S.Scan.net c.args.scan.now) c.args.table.now c.requires.table c.args.query.now c.earliest.new.desk c.earliest.ensures.answered (λ cs. cs.items) c.choices.result
    c.choices.ensures.values c.choices.ensures.walks c.choices.ensures.hops
