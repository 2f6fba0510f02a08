use Rattle.std.proofs.Common.{inl, inr, arith}
use Rattle.std.proofs.lemmas.Int.{ints}
use Rattle.tb_base.specs.TimetableData.{TimetableData}
use Rattle.tb_base.specs.BestValues.{QueryData}
use Rattle.earliest_query.proofs.Following.{sound_event}
use Rattle.reach_all.specs.Spreading.{AreSpread}
use Rattle.reach_all.proofs.Reached.{alighted_or_refused, alighting-kept, held_of, spread-next, spread_of}
use Rattle.reach_all.proofs.offers.OffersAtEvent.meet.Goals as goal

pub alight-offered-requires-clause-stop : goal.alight-offered-requires-clause-stop
alight-offered-requires-clause-stop g c =
    let T : TimetableData = (g.S.Scan.net c.args.search.now.scan.now).table in
    let event = sound_event T c.args._segment.now.trip c.args._at c.soundness.ensures.sound c.requires.trip c.requires.at in
    omega (arith, c.requires.stop, event.stop)

pub alight-offered-requires-clause-arr : goal.alight-offered-requires-clause-arr
alight-offered-requires-clause-arr g c =
    let T : TimetableData = (g.S.Scan.net c.args.search.now.scan.now).table in
    let event = sound_event T c.args._segment.now.trip c.args._at c.soundness.ensures.sound c.requires.trip c.requires.at in
    omega (arith, ints, c.requires.arr, event.waits, event.latest)

pub alight-offered-requires-clause-each_stop : goal.alight-offered-requires-clause-each_stop
alight-offered-requires-clause-each_stop g c =
    let T : TimetableData = (g.S.Scan.net c.args.search.now.scan.now).table in
    let Q : QueryData = c.args.search.now.query.now in
    let spread : AreSpread T Q c.args.round c.args.self.now.arrivals = spread_of T Q c.args.round c.args.self.now.arrivals c.args.self.now.refused c.if-self.false c.requires.ready in
    spread.found.each_stop

pub alight-offered-requires-clause-stairs : goal.alight-offered-requires-clause-stairs
alight-offered-requires-clause-stairs g c =
    let T : TimetableData = (g.S.Scan.net c.args.search.now.scan.now).table in
    let Q : QueryData = c.args.search.now.query.now in
    let spread : AreSpread T Q c.args.round c.args.self.now.arrivals = spread_of T Q c.args.round c.args.self.now.arrivals c.args.self.now.refused c.if-self.false c.requires.ready in
    spread.found.stairs

pub returns-then-self : goal.returns-then-self
returns-then-self g c = record {
  ready = λ later le. inl c.if-self.true;
  met = inl c.if-self.true;
  kept = λ t i r was. was;
}

pub returns-clause-ready : goal.returns-clause-ready
returns-clause-ready g c = λ later le.
    let T : TimetableData = (g.S.Scan.net c.args.search.now.scan.now).table in
    let Q : QueryData = c.args.search.now.query.now in
    let trip = c.args._segment.now.trip in
    let old = c.args.self.now.arrivals in
    let new = c.alight-offered.new.arrivals in
    let spread : AreSpread T Q c.args.round old = spread_of T Q c.args.round old c.args.self.now.refused c.if-self.false c.requires.ready in
    let off = alighted_or_refused T Q.from Q.leave trip c.args._segment.now.board c.args._at c.args.round c.requires.reached c.requires.onward old new spread.found c.alight-offered.result c.is_err-self.result c.is_err-self.ensures.value
    c.args.visit.now.stop c.args.visit.now.arr c.args.visit.now.alight c.requires.stop c.requires.arr c.requires.alight c.alight-offered.ensures in
    elim off [ inl refused ↦ inl refused | inr alights ↦ inr (spread-next T Q trip c.args._at c.args.round later old new le spread alights) ]

pub returns-clause-met : goal.returns-clause-met
returns-clause-met g c =
    let T : TimetableData = (g.S.Scan.net c.args.search.now.scan.now).table in
    let Q : QueryData = c.args.search.now.query.now in
    let trip = c.args._segment.now.trip in
    let old = c.args.self.now.arrivals in
    let new = c.alight-offered.new.arrivals in
    let spread : AreSpread T Q c.args.round old = spread_of T Q c.args.round old c.args.self.now.refused c.if-self.false c.requires.ready in
    let off = alighted_or_refused T Q.from Q.leave trip c.args._segment.now.board c.args._at c.args.round c.requires.reached c.requires.onward old new spread.found c.alight-offered.result c.is_err-self.result c.is_err-self.ensures.value
    c.args.visit.now.stop c.args.visit.now.arr c.args.visit.now.alight c.requires.stop c.requires.arr c.requires.alight c.alight-offered.ensures in
    elim off [ inl refused ↦ inl refused | inr alights ↦ inr alights.held ]

pub returns-clause-kept : goal.returns-clause-kept
returns-clause-kept g c = λ t i r was.
    let T : TimetableData = (g.S.Scan.net c.args.search.now.scan.now).table in
    let Q : QueryData = c.args.search.now.query.now in
    let trip = c.args._segment.now.trip in
    let old = c.args.self.now.arrivals in
    let new = c.alight-offered.new.arrivals in
    let spread : AreSpread T Q c.args.round old = spread_of T Q c.args.round old c.args.self.now.refused c.if-self.false c.requires.ready in
    let off = alighted_or_refused T Q.from Q.leave trip c.args._segment.now.board c.args._at c.args.round c.requires.reached c.requires.onward old new spread.found c.alight-offered.result c.is_err-self.result c.is_err-self.ensures.value
    c.args.visit.now.stop c.args.visit.now.arr c.args.visit.now.alight c.requires.stop c.requires.arr c.requires.alight c.alight-offered.ensures in
    elim off [
      | inl refused ↦ inl refused
      | inr alights ↦ inr (alighting-kept T old new t i r alights.kept (held_of T old t i r c.args.self.now.refused c.if-self.false was))
    ]
