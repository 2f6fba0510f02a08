use Rattle.std.proofs.Common.{w32}
use Rattle.std.proofs.lemmas.Int.{to_z-of_z}
use Rattle.line_split.proofs.DepartureLemmas.{earlier_in_all, later_in_all, part-length}
use Rattle.line_split.proofs.lines.first_from.Goals as goal

pub returns-clause-earlier : goal.returns-clause-earlier
returns-clause-earlier c =
    let same = to_z-of_z w32 c.args.time c.ranges.time in
    let most = rw (c.part.ensures, part-length c.args.departures.now c.narrowed-from.result.0 c.narrowed-from.result.1 c.narrowed-from.ensures.within) at c.count_earlier.ensures.bound in
    earlier_in_all c.args.departures.now c.args.time c.narrowed-from.result.0 c.narrowed-from.result.1 c.count_earlier.result c.narrowed-from.ensures.within
    (rw same at c.narrowed-from.ensures.earlier) most (rw (c.part.ensures, same) at c.count_earlier.ensures.earlier)

pub returns-clause-from : goal.returns-clause-from
returns-clause-from c =
    let same = to_z-of_z w32 c.args.time c.ranges.time in
    later_in_all c.args.departures.now c.args.time c.narrowed-from.result.0 c.narrowed-from.result.1 c.count_earlier.result c.narrowed-from.ensures.within
    (rw same at c.narrowed-from.ensures.from) (rw (c.part.ensures, same) at c.count_earlier.ensures.from)
