use Rattle.std.proofs.Common.{refl}
use Rattle.service_trips.proofs.Interpolation.{between_is}
use Rattle.service_trips.proofs.times.between.Goals as goal

pub returns-in-Some-to : goal.returns-in-Some-to
returns-in-Some-to c =
    let from = rw c.in-Some.is at c.requires.from in
    let to = rw c.in-Some-to.is at c.requires.to in
    rw (c.in-Some.is, c.in-Some-to.is)
    (between_is c.in-Some.from c.in-Some-to.to c.args.k c.unsigned_abs-span.result from.0 to.0 from.1.dep to.1.arr c.unsigned_abs-span.ensures.value _ refl)
