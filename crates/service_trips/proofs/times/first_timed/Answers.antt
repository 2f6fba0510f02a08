use Rattle.std.proofs.Common.{◌∙◌, sym}
use Rattle.service_trips.proofs.Timed.{first_is_here, first_is_later}
use Rattle.service_trips.proofs.times.first_timed.Goals as goal

pub returns-in-Some : goal.returns-in-Some
returns-in-Some c =
    first_is_here c.args.rows.now c.loop-k.k c.index-rows-k.result c.in-Some.times c.loop-k-test.true c.index-rows-k.is c.in-Some.ensures
    ∙ sym c.loop-k.invariant

pub loop-k-preserved : goal.loop-k-preserved
loop-k-preserved c =
    c.loop-k.invariant ∙ first_is_later c.args.rows.now c.loop-k.k c.index-rows-k.result c.loop-k-test.true c.index-rows-k.is c.in_default.ensures
