use Rattle.std.proofs.Common.{◌<◌, length, subst, sym, to_z, of_z, w32}
use Rattle.std.specs.Prelude.{All}
use Rattle.std.proofs.lemmas.Int.{to_z-of_z}
use Rattle.tb_base.specs.BestValues.{ChoiceData}
use Rattle.tb_base.specs.JourneyRules.{HasNumbers}
use Rattle.tb_base.specs.Network.{NetData}
use Rattle.tb_base.specs.Soundness.{IsSound}
use Rattle.edition_store.specs.Editions.{net_of}
use Rattle.segment_queue.specs.Traced.{IsAnswered}
use Rattle.query_gate.specs.Questions.{Ends, query_at}
use Rattle.query_gate.specs.Replies.{AreBestChoices, AreWithin}
use Rattle.query_gate.proofs.Best.{best_of}
use Rattle.query_gate.proofs.NamedEnds.{known_ends}
use Rattle.query_gate.proofs.Numbers.{numbers_of_choices}
use Rattle.query_gate.proofs.answering.values_between.Goals as goal

pub returns-in_ok-choices-in-Stops-clause-reply : goal.returns-in_ok-choices-in-Stops-clause-reply
returns-in_ok-choices-in-Stops-clause-reply g c =
    let N : NetData = net_of c.args.network.now in
    let ends : Ends = record { from = c.in-Stops.from.items; to = c.in-Stops.to.items } in
    let cs = c.in_ok-choices-in-Stops.choices.items in
    let found = c.in_ok-choices-in-Stops.ensures in
    let known = known_ends c.table-table.result.now N.table c.bytes.result.now c.args.from.now c.bytes-2.result.now c.args.to.now
    c.table-table.ensures c.bytes.ensures c.bytes-2.ensures c.in_ok-name.field-0 c.in-Stops.from c.in-Stops.to c.in-Stops.is c.in_ok-name.ensures.between in
    let best = best_of N c.table-table.result.now (sym c.table-table.ensures) (query_at ends (to_z w32 (of_z w32 c.args.leave))) c.earliest.new.desk c.earliest.ensures.answered cs found.values found.walks found.hops in
    (ends, known, subst (λ z. AreBestChoices N (query_at ends z) cs) (to_z-of_z w32 c.args.leave c.ranges.leave) best)

pub returns-in_ok-choices-in-Stops-clause-numbers : goal.returns-in_ok-choices-in-Stops-clause-numbers
returns-in_ok-choices-in-Stops-clause-numbers g c =
    let T = c.table-table.result.now in
    let there = subst (AreWithin (length T.stops)) c.in-Stops.is c.in_ok-name.ensures.within in
    let cs = c.in_ok-choices-in-Stops.choices.items in
    let sound = subst IsSound (sym c.table-table.ensures) c.soundness.ensures.sound in
    subst (λ U. All (λ choice. All (HasNumbers U) (ChoiceData.legs choice)) cs) c.table-table.ensures
    (numbers_of_choices T _ sound there.0 cs c.in_ok-choices-in-Stops.ensures.walks)

pub returns-in_ok-choices-in-Stops-clause-desk : goal.returns-in_ok-choices-in-Stops-clause-desk
returns-in_ok-choices-in-Stops-clause-desk g c =
    let N : NetData = net_of c.args.network.now in
    let ends : Ends = record { from = c.in-Stops.from.items; to = c.in-Stops.to.items } in
    let known = known_ends c.table-table.result.now N.table c.bytes.result.now c.args.from.now c.bytes-2.result.now c.args.to.now
    c.table-table.ensures c.bytes.ensures c.bytes-2.ensures c.in_ok-name.field-0 c.in-Stops.from c.in-Stops.to c.in-Stops.is c.in_ok-name.ensures.between in
    let answered = subst (λ z. IsAnswered N (query_at ends z) c.earliest.new.desk) (to_z-of_z w32 c.args.leave c.ranges.leave) c.earliest.ensures.answered in
    (ends, known, (answered, c.in_ok-choices-in-Stops.ensures.values))
