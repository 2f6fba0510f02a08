use Rattle.std.proofs.Common.{sym}
use Rattle.query_gate.proofs.Best.{offers_of}
use Rattle.query_gate.proofs.offers.best_offers.Goals as goal

pub returns-in-Ok-clause-best : goal.returns-in-Ok-clause-best
returns-in-Ok-clause-best g c =
    let found = c.in-Ok.ensures in
    offers_of (g.S.Scan.net c.args.scan.now) c.args.table.now (sym c.requires.table) c.args.window.now c.in-Ok.offers.items found.slots found.journeys found.hops
