use Rattle.std.proofs.Common.{◌≡◌, ◌∙◌, ℕ, inl, inr, length, get_or, sym, ap, subst, arith}
use Rattle.tb_base.specs.declared.table.Path.{Path}
use Rattle.tb_base.specs.TimetableData.{TimetableData}
use Rattle.tb_base.specs.BestValues.{QueryData}
use Rattle.tb_base.specs.Soundness.{IsSoundPath}
use Rattle.tb_base.proofs.NumberFacts.{below_or_at}
use Rattle.segment_queue.specs.Queue.{DeskData}
use Rattle.earliest_query.specs.UnderWay.{IsStopBoarded}
use Rattle.earliest_query.proofs.Growing.{extends-trans}
use Rattle.earliest_query.proofs.Following.{get_or-inside}
use Rattle.earliest_query.proofs.FromOrigins.{boarded-kept, path_walk, walked_to}
use Rattle.earliest_query.proofs.search.Search.start_from.Goals as goal

pub loop-path-init : goal.loop-path-init
loop-path-init g c = record {
  queue = c.in_ok-start_stop.ensures.queue;
  extends = c.in_ok-start_stop.ensures.extends;
  own = c.in_ok-start_stop.ensures.boarded;
  boarded = λ k d below. absurd (omega (arith, below));
  still = c.in_ok-start_stop.ensures.still;
}

pub start_stop-requires-in-loop-path-clause-queue : goal.start_stop-requires-in-loop-path-clause-queue
start_stop-requires-in-loop-path-clause-queue g c = c.loop-path.invariant.queue

pub start_stop-requires-in-loop-path-clause-near : goal.start_stop-requires-in-loop-path-clause-near
start_stop-requires-in-loop-path-clause-near g c =
    let T : TimetableData = (g.S.Scan.net c.args.self.now.scan.now).table in
    let paths = c.walks-path-items.result.now in
    let f : Path = c.path-item.result in
    let k : ℕ = c.loop-path.path-index in
    let read = λ (d : Path). get_or-inside paths k d f c.loop-path-test.true ∙ sym c.path-item.is in
    let sound = subst (IsSoundPath (length T.stops) c.args.origin) (read f) (c.walks-path-items.ensures.sound k f c.loop-path-test.true) in
    record {
      origin = c.args.origin;
      from = c.requires.from;
      walks = path_walk T c.args.origin paths k f c.walks-path-items.ensures.paths c.walks-path-items.ensures.ascending c.loop-path-test.true read sound.away;
    }

pub returns-in_err-start_stop-2-clause-still : goal.returns-in_err-start_stop-2-clause-still
returns-in_err-start_stop-2-clause-still g c = λ h. c.in_err-start_stop-2.ensures.still (c.loop-path.invariant.still h)

pub loop-path-preserved : goal.loop-path-preserved
loop-path-preserved g c =
    let T : TimetableData = (g.S.Scan.net c.args.self.now.scan.now).table in
    let Q : QueryData = c.args.self.now.query.now in
    let E : DeskData = c.loop-path.desk in
    let F : DeskData = c.start_stop-in-loop-path.new.desk in
    let paths = c.walks-path-items.result.now in
    let f : Path = c.path-item.result in
    let k : ℕ = c.loop-path.path-index in
    let read = λ (d : Path). get_or-inside paths k d f c.loop-path-test.true ∙ sym c.path-item.is in
    let more = c.in_ok-start_stop-2.ensures in
    record {
      queue = more.queue;
      extends = extends-trans c.args.desk.now E F 1 c.loop-path.invariant.extends more.extends;
      own = boarded-kept T Q E F c.args.origin 0 more.extends c.loop-path.invariant.own;
      boarded = λ i d below. elim (below_or_at i k below) [
        | inl before ↦ boarded-kept T Q E F (get_or paths i d).to (get_or paths i d).secs more.extends (c.loop-path.invariant.boarded i d before)
        | inr e ↦ subst (λ (p : Path). IsStopBoarded T Q F p.to p.secs) (sym (read d) ∙ ap (λ m. get_or paths m d) (sym e)) more.boarded
      ];
      still = λ h. more.still (c.loop-path.invariant.still h);
    }

pub returns-clause-boarded : goal.returns-clause-boarded
returns-clause-boarded g c = λ stop secs walks.
    let T : TimetableData = (g.S.Scan.net c.args.self.now.scan.now).table in
    let Q : QueryData = c.args.self.now.query.now in
    let D : DeskData = c.loop-path.desk in
    let paths = c.walks-path-items.result.now in
    elim (walked_to T c.args.origin paths stop secs c.walks-path-items.ensures.paths walks) [
      | inl e ↦ subst (λ s. IsStopBoarded T Q D s secs) (sym e.0) (subst (λ x. IsStopBoarded T Q D c.args.origin x) (sym e.1) c.loop-path.invariant.own)
      | inr w ↦
          (let read : (get_or paths w.index w.path) ≡ w.path = w.is w.path in
          subst (λ s. IsStopBoarded T Q D s secs) (ap (λ (p : Path). p.to) read ∙ w.to) (subst (λ x. IsStopBoarded T Q D (get_or paths w.index w.path).to x) (ap (λ (p : Path). p.secs) read ∙ w.secs)
          (c.loop-path.invariant.boarded w.index w.path (omega (arith, w.inside, c.loop-path-test.false)))))
    ]
