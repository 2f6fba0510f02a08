use Rattle.std.proofs.Common.{◌+◌, inl, inr, sym, subst, arith, ◌∙◌, refl}
use Rattle.tb_base.proofs.NumberFacts.{below_or_at}
use Rattle.earliest_query.specs.UnderWay.{AreBoarded}
use Rattle.earliest_query.proofs.Growing.{extends-refl, extends-trans}
use Rattle.earliest_query.proofs.FromOrigins.{are_boarded-kept}
use Rattle.earliest_query.proofs.StopSums.{boards_bounded, boards_join, boards_none}
use Rattle.earliest_query.proofs.search.Search.board_all.Goals as goal
use Rattle.tb_base.specs.Network.{NetData}

pub loop-place-init : goal.loop-place-init
loop-place-init g c = record {
  queue = c.requires.queue;
  extends = extends-refl c.args.desk.now 1;
  room = refl;
  boarded = λ place below. absurd (omega (arith, below));
  steps = boards_none (g.S.Scan.net c.args.self.now.scan.now) c.args.self.now.query.now.from 0 0 c.args.steps.now;
}

pub loop-place-preserved : goal.loop-place-preserved
loop-place-preserved g c =
    let N : NetData = g.S.Scan.net c.args.self.now.scan.now in
    let Q = c.args.self.now.query.now in
    let E = c.loop-place.desk in
    let F = c.board_from.new.desk in
    record {
      queue = c.board_from.ensures.queue;
      room = c.board_from.ensures.room ∙ c.loop-place.invariant.room;
      extends = extends-trans c.args.desk.now E F 1 c.loop-place.invariant.extends c.board_from.ensures.extends;
      boarded = λ place below. elim (below_or_at place c.loop-place.place below) [
        | inl before ↦ are_boarded-kept N.table Q E F place c.board_from.ensures.extends (c.loop-place.invariant.boarded place before)
        | inr e ↦ subst (λ m. AreBoarded N.table Q F m) (sym e) c.board_from.ensures.boarded
      ];
      steps = boards_join N Q.from 0 c.loop-place.place (c.loop-place.place + 1) c.args.steps.now c.loop-place.steps c.board_from.new.steps (omega arith) (omega arith) c.loop-place.invariant.steps c.board_from.ensures.steps;
    }

pub returns-clause-steps : goal.returns-clause-steps
returns-clause-steps g c =
    boards_bounded (g.S.Scan.net c.args.self.now.scan.now) c.args.self.now.query.now.from 0 c.loop-place.place c.args.steps.now c.loop-place.steps c.loop-place.invariant.steps
