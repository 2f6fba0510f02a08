use Rattle.std.proofs.Common.{sym}
use Rattle.transfer_pack.proofs.Packing.{IsSpotRun, no_spot, spot_run}
use Rattle.transfer_pack.proofs.set.run_behind.Goals as goal

pub run-requires-clause-from : goal.run-requires-clause-from
run-requires-clause-from c =
    let r : IsSpotRun c.args.hops.now c.args.spots.now c.args.k no_spot no_spot = spot_run c.args.hops.now c.args.spots.now c.args.k no_spot no_spot c.requires.bounds c.requires.inside in
    r.from

pub run-requires-clause-to : goal.run-requires-clause-to
run-requires-clause-to c =
    let r : IsSpotRun c.args.hops.now c.args.spots.now c.args.k no_spot no_spot = spot_run c.args.hops.now c.args.spots.now c.args.k no_spot no_spot c.requires.bounds c.requires.inside in
    r.to

pub returns : goal.returns
returns c =
    let r : IsSpotRun c.args.hops.now c.args.spots.now c.args.k no_spot no_spot = spot_run c.args.hops.now c.args.spots.now c.args.k no_spot no_spot c.requires.bounds c.requires.inside in
    rw (c.run.ensures) (sym r.run)
