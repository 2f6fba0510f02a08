use Rattle.std.proofs.Common.{refl, subst, w32}
use Rattle.std.proofs.lemmas.Int.{to_z-of_z}
use Rattle.arrive_by.specs.Latest.{AreLatestDepartures}
use Rattle.query_gate.specs.Questions.{Ends}
use Rattle.query_gate.specs.Replies.{arrival_by}
use Rattle.query_gate.proofs.NamedEnds.{known_ends}
use Rattle.query_gate.proofs.answering.departures_between.Goals as goal

pub returns-in_ok-departures-in-Stops-clause-reply : goal.returns-in_ok-departures-in-Stops-clause-reply
returns-in_ok-departures-in-Stops-clause-reply c =
    let T = c.args.table.now in
    let ends : Ends = record { from = c.in-Stops.from.items; to = c.in-Stops.to.items } in (
      ends,
      known_ends T T c.bytes.result.now c.args.from.now c.bytes-2.result.now c.args.to.now
          refl c.bytes.ensures c.bytes-2.ensures c.in_ok-name.field-0 c.in-Stops.from c.in-Stops.to c.in-Stops.is c.in_ok-name.ensures.between,
      subst (λ z. AreLatestDepartures T (arrival_by ends z) c.in_ok-departures-in-Stops.departures.items)
          (to_z-of_z w32 c.args.arrive c.ranges.arrive) c.in_ok-departures-in-Stops.ensures.latest,
    )
