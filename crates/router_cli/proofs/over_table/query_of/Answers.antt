use Rattle.std.proofs.Common.{ap, length, subst, w32}
use Rattle.std.proofs.lemmas.Int.{to_z-of_z}
use Rattle.query_gate.specs.Questions.{Ends, query_at}
use Rattle.query_gate.specs.Replies.{AreWithin, IsBetween}
use Rattle.router_cli.proofs.over_table.query_of.Goals as goal

pub returns-in-Stops : goal.returns-in-Stops
returns-in-Stops c =
    let T = c.args.table.now in
    let ends : Ends = record { from = c.in-Stops.from.items; to = c.in-Stops.to.items } in
    let there = subst (AreWithin (length T.stops)) c.in-Stops.is c.in_ok-name.ensures.within in (
      ends,
      subst (IsBetween T c.args.from.now c.args.to.now) c.in-Stops.is c.in_ok-name.ensures.between,
      ap (query_at ends) (to_z-of_z w32 c.args.leave c.ranges.leave),
      there.0,
      there.1,
    )
