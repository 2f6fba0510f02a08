use Rattle.std.proofs.Common.{◌≡◌, inl, inr, length, get_or, subst, arith, pos, ◌+ℤ◌, ◌∙◌}
use Rattle.std.specs.Prelude.{Some}
use Rattle.segment_queue.specs.Scans.{boarding_hop, line_indices_at, no_line_index}
use Rattle.segment_queue.specs.Traced.{round_segments}
use Rattle.earliest_query.proofs.Growing.{extends-long, extends-reached, extends-trans}
use Rattle.earliest_query.proofs.LineBoarding.{covered-by, served}
use Rattle.earliest_query.proofs.search.Search.board_stop.Goals as goal
use Rattle.tb_base.proofs.NumberFacts.{below_or_at}

pub loop-berth-preserved : goal.loop-berth-preserved
loop-berth-preserved g c =
    let T = (g.S.Scan.net c.args.self.now.scan.now).table in
    let indices = line_indices_at T (g.S.Scan.net c.args.self.now.scan.now).lines c.args.stop in
    let E = c.loop-berth.desk in
    let F = c.board_line.new.desk in
    record {
      queue = c.board_line.ensures.queue;
      room = c.board_line.ensures.room ∙ c.loop-berth.invariant.room;
      extends = extends-trans c.args.desk.now E F 1 c.loop-berth.invariant.extends c.board_line.ensures.extends;
      reached = λ k h below is. elim (below_or_at k c.loop-berth.berth below) [
        | inl before ↦ extends-reached T E F 1 (length E.segments) (length F.segments) 1 1 h.trip h.at c.board_line.ensures.extends (c.loop-berth.invariant.reached k h before is) (omega arith) (extends-long E F 1 c.board_line.ensures.extends) (omega arith)
        | inr e ↦ c.board_line.ensures.reached h (subst (λ m. boarding_hop T (get_or indices m no_line_index) (c.args.self.now.query.now.leave +ℤ pos c.args.secs) ≡ Some h) e is)
      ];
      steps = omega (arith, c.loop-berth.invariant.steps, c.board_line.ensures.step);
    }

pub returns-clause-boarded : goal.returns-clause-boarded
returns-clause-boarded g c = λ t b boards not_last here in_time.
    let T = (g.S.Scan.net c.args.self.now.scan.now).table in
    let s = served T (g.S.Scan.net c.args.self.now.scan.now).lines c.args.stop c.soundness.ensures.divided (c.args.self.now.query.now.leave +ℤ pos c.args.secs) t b boards not_last here in_time in
    let D = c.loop-berth.desk in
    covered-by T (round_segments D.segments) (length D.segments) 1 s.hop t b (c.loop-berth.invariant.reached s.index s.hop (omega (arith, s.inside, c.loop-berth-test.false, c.berths-berth-end.ensures)) s.is) s.trip s.at
