use Rattle.std.proofs.Common.{◌≡◌, ◌∙◌, ℕ, ◌<◌, inl, inr, length, get_or, sym, ap, subst, arith}
use Rattle.std.specs.Prelude.{Some}
use Rattle.tb_base.specs.Network.{NetData}
use Rattle.tb_base.specs.declared.table.Path.{Path}
use Rattle.tb_base.specs.TimetableData.{TimetableData}
use Rattle.tb_base.specs.BestValues.{QueryData}
use Rattle.tb_base.specs.Soundness.{IsSoundPath}
use Rattle.tb_base.specs.Walking.{walk}
use Rattle.tb_base.proofs.NumberFacts.{below_or_at}
use Rattle.tb_laws.proofs.Triangles.{walk-same}
use Rattle.segment_queue.specs.Queue.{DeskData}
use Rattle.earliest_query.specs.Choices.{IsFirstChoice}
use Rattle.earliest_query.specs.UnderWay.{BoardsOnce, IsStopBoarded}
use Rattle.earliest_query.proofs.Growing.{extends-trans}
use Rattle.earliest_query.proofs.Following.{get_or-inside}
use Rattle.earliest_query.proofs.FromOrigins.{boarded-kept, earlier_other, origin_is, path_walk, walked_to}
use Rattle.earliest_query.proofs.StopSums.{among_all, among_more, among_start}
use Rattle.earliest_query.proofs.search.Search.board_from.Goals as goal

pub loop-path-init : goal.loop-path-init
loop-path-init g c =
    let N : NetData = g.S.Scan.net c.args.self.now.scan.now in
    let Q : QueryData = c.args.self.now.query.now in
    let o : ℕ = c.index-origins-place.result in
    let is : o ≡ get_or Q.from c.args.place 0 = origin_is c.origins.result.now Q.from c.args.place o c.origins.ensures c.requires.place c.index-origins-place.is in
    record {
      queue = c.board_if_first.ensures.queue;
      extends = c.board_if_first.ensures.extends;
      room = c.board_if_first.ensures.room;
      own = subst (λ s. IsFirstChoice N.table Q.from c.args.place s 0 → IsStopBoarded N.table Q c.board_if_first.new.desk s 0) is c.board_if_first.ensures.boarded;
      boarded = λ k d below. absurd (omega (arith, below));
      steps = among_start N Q.from c.args.place (get_or Q.from c.args.place 0) c.walks-path-items.result.now c.requires.place 0 c.args.steps.now c.board_if_first.new.steps
          (c.requires.origins c.args.place 0 c.requires.place) (walk-same N.table (get_or Q.from c.args.place 0))
          (subst (λ s. BoardsOnce N Q.from c.args.place s 0 c.args.steps.now c.board_if_first.new.steps) is c.board_if_first.ensures.steps);
    }

pub board_if_first-requires-in-loop-path-clause-queue : goal.board_if_first-requires-in-loop-path-clause-queue
board_if_first-requires-in-loop-path-clause-queue g c = c.loop-path.invariant.queue

pub board_if_first-requires-in-loop-path-clause-walks : goal.board_if_first-requires-in-loop-path-clause-walks
board_if_first-requires-in-loop-path-clause-walks g c =
    let T : TimetableData = (g.S.Scan.net c.args.self.now.scan.now).table in
    let Q : QueryData = c.args.self.now.query.now in
    let o : ℕ = c.index-origins-place.result in
    let is : o ≡ get_or Q.from c.args.place 0 = origin_is c.origins.result.now Q.from c.args.place o c.origins.ensures c.requires.place c.index-origins-place.is in
    let paths = c.walks-path-items.result.now in
    let f : Path = c.path-item.result in
    let k : ℕ = c.loop-path.path-index in
    let read = λ (d : Path). get_or-inside paths k d f c.loop-path-test.true ∙ sym c.path-item.is in
    let sound = subst (IsSoundPath (length T.stops) o) (read f) (c.walks-path-items.ensures.sound k f c.loop-path-test.true) in
    subst (λ s. walk T s f.to ≡ Some f.secs) is (path_walk T o paths k f c.walks-path-items.ensures.paths c.walks-path-items.ensures.ascending c.loop-path-test.true read sound.away)

pub loop-path-preserved : goal.loop-path-preserved
loop-path-preserved g c =
    let N : NetData = g.S.Scan.net c.args.self.now.scan.now in
    let Q : QueryData = c.args.self.now.query.now in
    let E : DeskData = c.loop-path.desk in
    let F : DeskData = c.board_if_first-in-loop-path.new.desk in
    let o : ℕ = c.index-origins-place.result in
    let own : ℕ = get_or Q.from c.args.place 0 in
    let is : o ≡ own = origin_is c.origins.result.now Q.from c.args.place o c.origins.ensures c.requires.place c.index-origins-place.is in
    let paths = c.walks-path-items.result.now in
    let f : Path = c.path-item.result in
    let k : ℕ = c.loop-path.path-index in
    let inside : k < length paths = c.loop-path-test.true in
    let read = λ (d : Path). get_or-inside paths k d f inside ∙ sym c.path-item.is in
    let sound = subst (IsSoundPath (length N.table.stops) o) (read f) (c.walks-path-items.ensures.sound k f inside) in
    let walks = subst (λ s. walk N.table s f.to ≡ Some f.secs) is (path_walk N.table o paths k f c.walks-path-items.ensures.paths c.walks-path-items.ensures.ascending inside read sound.away) in
    let more = c.board_if_first-in-loop-path.ensures in
    record {
      queue = more.queue;
      room = more.room ∙ c.loop-path.invariant.room;
      extends = extends-trans c.args.desk.now E F 1 c.loop-path.invariant.extends more.extends;
      own = λ first. boarded-kept N.table Q E F own 0 more.extends (c.loop-path.invariant.own first);
      boarded = λ i d below. elim (below_or_at i k below) [
        | inl before ↦ λ first. boarded-kept N.table Q E F (get_or paths i d).to (get_or paths i d).secs more.extends (c.loop-path.invariant.boarded i d before first)
        | inr e ↦ subst (λ (p : Path). IsFirstChoice N.table Q.from c.args.place p.to p.secs → IsStopBoarded N.table Q F p.to p.secs) (sym (read d) ∙ ap (λ m. get_or paths m d) (sym e)) more.boarded
      ];
      steps = among_more N Q.from c.args.place own paths c.requires.place k f.secs c.args.steps.now c.loop-path.steps c.board_if_first-in-loop-path.new.steps f read sound.to
          (λ e. sound.away (e ∙ sym is)) (λ i d before. earlier_other paths k i d f c.walks-path-items.ensures.ascending before inside read) walks c.loop-path.invariant.steps more.steps;
    }

pub returns-clause-boarded : goal.returns-clause-boarded
returns-clause-boarded g c = λ stop secs walks first.
    let T : TimetableData = (g.S.Scan.net c.args.self.now.scan.now).table in
    let Q : QueryData = c.args.self.now.query.now in
    let D : DeskData = c.loop-path.desk in
    let o : ℕ = c.index-origins-place.result in
    let is : o ≡ get_or Q.from c.args.place 0 = origin_is c.origins.result.now Q.from c.args.place o c.origins.ensures c.requires.place c.index-origins-place.is in
    let paths = c.walks-path-items.result.now in
    elim (walked_to T o paths stop secs c.walks-path-items.ensures.paths (subst (λ s. walk T s stop ≡ Some secs) (sym is) walks)) [
      | inl e ↦
          (let at : stop ≡ get_or Q.from c.args.place 0 = e.0 ∙ is in
          subst (λ s. IsStopBoarded T Q D s secs) (sym at) (subst (λ x. IsStopBoarded T Q D (get_or Q.from c.args.place 0) x) (sym e.1)
          (c.loop-path.invariant.own (subst (λ x. IsFirstChoice T Q.from c.args.place (get_or Q.from c.args.place 0) x) e.1 (subst (λ s. IsFirstChoice T Q.from c.args.place s secs) at first)))))
      | inr w ↦
          (let read : (get_or paths w.index w.path) ≡ w.path = w.is w.path in
          let to : (get_or paths w.index w.path).to ≡ stop = ap (λ (p : Path). p.to) read ∙ w.to in
          let time : (get_or paths w.index w.path).secs ≡ secs = ap (λ (p : Path). p.secs) read ∙ w.secs in
          subst (λ s. IsStopBoarded T Q D s secs) to (subst (λ x. IsStopBoarded T Q D (get_or paths w.index w.path).to x) time
          (c.loop-path.invariant.boarded w.index w.path (omega (arith, w.inside, c.loop-path-test.false))
          (subst (λ x. IsFirstChoice T Q.from c.args.place (get_or paths w.index w.path).to x) (sym time) (subst (λ s. IsFirstChoice T Q.from c.args.place s secs) (sym to) first)))))
    ]

pub returns-clause-steps : goal.returns-clause-steps
returns-clause-steps g c =
    let Q : QueryData = c.args.self.now.query.now in
    among_all (g.S.Scan.net c.args.self.now.scan.now) Q.from c.args.place (get_or Q.from c.args.place 0) c.walks-path-items.result.now c.requires.place c.loop-path.path-index c.args.steps.now c.loop-path.steps c.loop-path.invariant.steps
