use Rattle.std.proofs.Common.{List, map, sym, subst}
use Rattle.tb_base.specs.Network.{NetData}
use Rattle.tb_base.specs.Soundness.{IsSound}
use Rattle.tb_base.specs.Sufficiency.{AreSufficient}
use Rattle.tb_base.specs.BestValues.{QueryData}
use Rattle.tb_base.specs.declared.query.Value.{Value}
use Rattle.segment_queue.specs.declared.desk.Hit.{Hit}
use Rattle.segment_queue.specs.Queue.{DeskData}
use Rattle.earliest_query.specs.Sweeping.{SweepData}
use Rattle.query_gate.specs.Slots.{AreFound, AreLater}
use Rattle.query_gate.proofs.Laters.{hits_found, later_from_swept, swept_so_far}
use Rattle.query_gate.proofs.searching.search.Goals as goal

pub returns-clause-swept : goal.returns-clause-swept
returns-clause-swept g c =
    let Q : QueryData = c.args.query.now in
    let D : DeskData = c.ask.new.desk in
    let S : SweepData = c.ask.new.self in
    swept_so_far (g.S.Scan.net c.args.scan.now) Q D S c.in_ok-ask.ensures.swept

pub returns-clause-found : goal.returns-clause-found
returns-clause-found g c =
    let Q : QueryData = c.args.query.now in
    let D : DeskData = c.ask.new.desk in
    let later : List Value = c.args.sweep.now.values in
    subst (λ T. AreFound T Q later (map (λ (h : Hit). h.value) D.hits)) c.requires.table
    (hits_found (g.S.Scan.net c.args.scan.now).table Q D later c.in_ok-ask.ensures.traced c.in_ok-ask.ensures.stairs c.in_ok-ask.ensures.found)

pub returns-clause-later : goal.returns-clause-later
returns-clause-later g c =
    let Q : QueryData = c.args.query.now in
    let D : DeskData = c.ask.new.desk in
    let S : SweepData = c.ask.new.self in
    let N : NetData = g.S.Scan.net c.args.scan.now in
    subst (λ T. AreLater T Q S.values) c.requires.table
    (later_from_swept N (subst IsSound (sym c.requires.table) c.soundness.ensures) Q D S.levels S.values
    (subst (λ T. AreSufficient T N.hops) (sym c.requires.table) c.requires.sufficient) c.in_ok-ask.ensures.swept)
