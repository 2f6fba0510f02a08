use Rattle.std.proofs.Common.{◌<◌, length, subst, to_z, of_z, w32}
use Rattle.std.specs.Prelude.{All}
use Rattle.std.proofs.lemmas.Int.{to_z-of_z}
use Rattle.tb_base.specs.TimetableData.{TimetableData}
use Rattle.edition_store.specs.Editions.{net_of}
use Rattle.query_gate.specs.Questions.{Ends}
use Rattle.query_gate.specs.Replies.{AreBestOffers, AreWithin, window_at}
use Rattle.query_gate.proofs.NamedEnds.{known_ends}
use Rattle.query_gate.proofs.Numbers.{numbers_of_offers}
use Rattle.query_gate.proofs.answering.slots_between.Goals as goal

pub returns-in_ok-offers-in-Stops-clause-reply : goal.returns-in_ok-offers-in-Stops-clause-reply
returns-in_ok-offers-in-Stops-clause-reply g c =
    let ends : Ends = record { from = c.in-Stops.from.items; to = c.in-Stops.to.items } in
    let N = net_of c.args.network.now in
    let offers = c.in_ok-offers-in-Stops.offers.items in
    let known = known_ends c.table-table.result.now c.args.network.now.table c.bytes.result.now c.args.from.now c.bytes-2.result.now c.args.to.now
    c.table-table.ensures c.bytes.ensures c.bytes-2.ensures c.in_ok-name.field-0 c.in-Stops.from c.in-Stops.to c.in-Stops.is c.in_ok-name.ensures.between in (
      ends,
      known,
      subst (λ z. AreBestOffers N (window_at ends z c.args.last) offers) (to_z-of_z w32 c.args.first c.ranges.first)
          (subst (λ z. AreBestOffers N (window_at ends (to_z w32 (of_z w32 c.args.first)) z) offers)
          (to_z-of_z w32 c.args.last c.ranges.last) c.in_ok-offers-in-Stops.ensures.best),
    )

pub returns-in_ok-offers-in-Stops-clause-numbers : goal.returns-in_ok-offers-in-Stops-clause-numbers
returns-in_ok-offers-in-Stops-clause-numbers g c =
    let there = subst (AreWithin (length c.table-table.result.now.stops)) c.in-Stops.is c.in_ok-name.ensures.within in
    let origins = subst (λ (T : TimetableData). All (λ p. p < length T.stops) c.in-Stops.from.items) c.table-table.ensures there.0 in
    numbers_of_offers c.args.network.now.table _ c.soundness.ensures.sound origins c.in_ok-offers-in-Stops.offers.items c.in_ok-offers-in-Stops.ensures.best.journeys
