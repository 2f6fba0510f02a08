use Rattle.std.proofs.Common.{◌↔◌, ◌∙◌, ◌<◌, ◌≤◌, inl, inr, length, ap, arith, refl}
use Rattle.std.proofs.lemmas.Grind.{common_steps}
use Rattle.tb_base.specs.Network.{NetData}
use Rattle.segment_queue.specs.Queue.{mark_of}
use Rattle.segment_queue.specs.Scans.{trips_from}
use Rattle.segment_queue.proofs.LoweredMarks.{all_to_lower, length-lowered_marks, line_lowered, no_more_to_lower, one_more_lowered, read_above}
use Rattle.segment_queue.proofs.Totals.{index_few}
use Rattle.segment_queue.proofs.desk.lower_marks.Goals as goal

pub returns-then-at-last-clause-trips : goal.returns-then-at-last-clause-trips
returns-then-at-last-clause-trips g c = ap length c.lower.ensures ∙ length-lowered_marks c.args.onward.now c.args.at c.args.marks.now

pub returns-then-at-last-clause-marks : goal.returns-then-at-last-clause-marks
returns-then-at-last-clause-marks g c =
    let N : NetData = g.S.Scan.net c.args.scan.now in
    line_lowered N.table N.lines c.args.trip c.args.at c.args.onward.now c.args.marks.now c.lower.new.self c.requires.divided c.requires.onward c.requires.falling c.requires.there c.requires.room
    (c.requires.last.0 c.if-at-last.true) c.lower.ensures

pub loop-later-init : goal.loop-later-init
loop-later-init g c =
    let N : NetData = g.S.Scan.net c.args.scan.now in
    record { trips = refl; still = all_to_lower N.table N.lines c.args.trip c.args.at c.args.onward.now c.args.marks.now c.requires.divided c.requires.onward c.requires.falling }

pub returns-then-get_or-at-clause-marks : goal.returns-then-get_or-at-clause-marks
returns-then-get_or-at-clause-marks g c =
    let N : NetData = g.S.Scan.net c.args.scan.now in
    let read : (c.args.at < c.get_or.result) ↔ (c.args.at < mark_of N.table c.loop-later.marks c.later-item.result)
    = read_above N.table N.lines c.args.trip c.args.onward.now c.loop-later.later-index c.later-item.result c.args.last c.args.at c.get_or.result c.loop-later.marks
    c.requires.divided c.requires.onward (grind (arith, common_steps)) c.later-item.is c.requires.last c.get_or.ensures.mark in
    let low : mark_of N.table c.loop-later.marks c.later-item.result ≤ c.args.at = grind (arith, c.if-get_or-at.true, read) in
    no_more_to_lower N.table (trips_from N.lines c.args.trip) c.args.onward.now c.loop-later.later-index c.later-item.result c.args.at c.args.marks.now c.loop-later.marks
    c.loop-later.invariant.still (grind (arith, common_steps)) c.later-item.is low

pub put-requires-clause-at : goal.put-requires-clause-at
put-requires-clause-at g c =
    let N : NetData = g.S.Scan.net c.args.scan.now in
    elim c.get_or.ensures.few [
      | inl e ↦ index_few N.table c.args.trip c.args.at c.soundness.ensures.sound c.requires.trip (c.requires.last.0 (omega (arith, e, c.if-get_or-at.false)))
      | inr h ↦ omega (arith, h, c.if-get_or-at.false)
    ]

pub loop-later-preserved : goal.loop-later-preserved
loop-later-preserved g c =
    let N : NetData = g.S.Scan.net c.args.scan.now in
    let read : (c.args.at < c.get_or.result) ↔ (c.args.at < mark_of N.table c.loop-later.marks c.later-item.result)
    = read_above N.table N.lines c.args.trip c.args.onward.now c.loop-later.later-index c.later-item.result c.args.last c.args.at c.get_or.result c.loop-later.marks
    c.requires.divided c.requires.onward (grind (arith, common_steps)) c.later-item.is c.requires.last c.get_or.ensures.mark in
    let above : c.args.at < mark_of N.table c.loop-later.marks c.later-item.result = read.0 (omega (arith, c.if-get_or-at.false)) in
    record {
      trips = grind (arith, common_steps);
      still = one_more_lowered N.table (trips_from N.lines c.args.trip) c.args.onward.now c.loop-later.later-index c.later-item.result c.args.at c.args.marks.now c.loop-later.marks c.put.new.self
          c.loop-later.invariant.still (grind (arith, common_steps)) c.later-item.is (grind (arith, common_steps)) above c.put.ensures;
    }
