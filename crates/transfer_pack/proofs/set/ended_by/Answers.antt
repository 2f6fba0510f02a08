use Rattle.std.proofs.Common.{arith}
use Rattle.transfer_pack.proofs.Ended.{no_more}
use Rattle.transfer_pack.proofs.set.ended_by.Goals as goal

pub returns-then-first-spots-clause-within : goal.returns-then-first-spots-clause-within
returns-then-first-spots-clause-within c =
    no_more c.args.spots.now c.args.place c.halved.result.0 c.args.count (omega (arith, c.halved.ensures.within)) c.halved.ensures.ended c.requires.open

pub returns-clause-within : goal.returns-clause-within
returns-clause-within c =
    no_more c.args.spots.now c.args.place c.halved-2.result.0 c.args.count (omega (arith, c.halved-2.ensures.within)) c.halved-2.ensures.ended c.requires.open
