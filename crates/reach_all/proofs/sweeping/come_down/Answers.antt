use Rattle.std.proofs.Common.{◌≡◌, ◌∙◌, ◌+◌, List, length, sym, ap, subst, arith, length-append}
use Rattle.tb_base.specs.Network.{NetData}
use Rattle.tb_base.specs.BestValues.{QueryData}
use Rattle.tb_base.specs.declared.query.Value.{Value}
use Rattle.segment_queue.specs.declared.desk.Segment.{Segment}
use Rattle.segment_queue.specs.Queue.{DeskData}
use Rattle.segment_queue.specs.Traced.{segment_of}
use Rattle.earliest_query.specs.Sweeping.{IsSweptTo, SweepData}
use Rattle.earliest_query.proofs.Reaching.{reached_all}
use Rattle.reach_all.specs.Swept.{AreRidden}
use Rattle.reach_all.proofs.Ridden.{down, no_values, parent_before, ridden_earlier, rounds_kept}
use Rattle.reach_all.proofs.sweeping.come_down.Goals as goal

pub ask-requires-clause-later : goal.ask-requires-clause-later
ask-requires-clause-later g c = (c.requires.later.0, c.requires.later.1, c.requires.later.2.sweep)

pub note_rounds-requires-clause-rounds : goal.note_rounds-requires-clause-rounds
note_rounds-requires-clause-rounds g c =
    let before = c.requires.later.2 in
    rounds_kept c.args.desk.now c.ask.new.desk c.args.swept.now.rounds.items c.in_ok-ask.ensures.kept (omega (arith, before.all)) before.noted

pub note_rounds-requires-clause-before : goal.note_rounds-requires-clause-before
note_rounds-requires-clause-before g c =
    let kept = c.in_ok-ask.ensures.kept in
    let before = c.requires.later.2 in
    let long : length c.ask.new.desk.segments ≡ length c.args.desk.now.segments + length kept.0 = ap length kept.1 ∙ length-append c.args.desk.now.segments kept.0 in
    omega (arith, before.all, long, c.in_ok-total.ensures.count)

pub note_rounds-requires-clause-parents : goal.note_rounds-requires-clause-parents
note_rounds-requires-clause-parents g c = λ n below.
    let N : NetData = g.S.Scan.net c.args.scan.now in
    let E : DeskData = c.ask.new.desk in
    let s : Segment = segment_of E.segments n in
    parent_before N.table c.args.query.now E.segments n s.parent s.trip s.board (c.in_ok-ask.ensures.swept.queue.entered n (omega (arith, below, c.in_ok-total.ensures.count)))

pub offer_segments-requires-clause-sound : goal.offer_segments-requires-clause-sound
offer_segments-requires-clause-sound g c = c.in_ok-ask.ensures.swept.queue.sound

pub offer_segments-requires-clause-reached : goal.offer_segments-requires-clause-reached
offer_segments-requires-clause-reached g c =
    reached_all (g.S.Scan.net c.args.scan.now).table c.args.query.now c.ask.new.desk.segments c.in_ok-ask.ensures.swept.queue.entered

pub offer_segments-requires-clause-from : goal.offer_segments-requires-clause-from
offer_segments-requires-clause-from g c =
    let kept = c.in_ok-ask.ensures.kept in
    let long : length c.ask.new.desk.segments ≡ length c.args.desk.now.segments + length kept.0 = ap length kept.1 ∙ length-append c.args.desk.now.segments kept.0 in
    omega (arith, long, c.in_ok-from.ensures.count)

pub offer_segments-requires-clause-ridden : goal.offer_segments-requires-clause-ridden
offer_segments-requires-clause-ridden g c =
    let N : NetData = g.S.Scan.net c.args.scan.now in
    let Q : QueryData = c.args.query.now in
    let E : DeskData = c.ask.new.desk in
    subst (λ n. AreRidden N.table Q c.args.rides E n c.args.swept.now.arrivals) (sym c.in_ok-from.ensures.count)
    (ridden_earlier N.table Q c.requires.later.0 c.requires.later.1 c.args.rides c.args.desk.now E c.args.swept.now.arrivals c.in_ok-ask.ensures.kept c.requires.later.2.ridden)

pub returns-clause-down : goal.returns-clause-down
returns-clause-down g c =
    down (g.S.Scan.net c.args.scan.now) c.args.query.now c.args.rides c.ask.new.desk c.ask.new.self c.note_rounds.new.rounds.items c.offer_segments.new.arrivals c.in_ok-ask.ensures.swept c.in_ok-offer_segments.ensures c.in_ok-note_rounds.ensures.rounds
    (c.in_ok-note_rounds.ensures.all ∙ c.in_ok-total.ensures.count)

pub returns-clause-swept : goal.returns-clause-swept
returns-clause-swept g c =
    let N : NetData = g.S.Scan.net c.args.scan.now in
    let Q : QueryData = c.args.query.now in
    let S : SweepData = c.ask.new.self in
    let swept = c.in_ok-ask.ensures.swept in
    subst (λ (vs : List Value). IsSweptTo N Q c.ask.new.desk S.levels vs) (no_values N.table Q S.values c.requires.no_target swept.gone_on.attained) swept
