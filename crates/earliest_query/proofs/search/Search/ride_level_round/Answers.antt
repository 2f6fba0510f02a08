use Rattle.std.proofs.Common.{◌≡◌, ◌∙◌, ℕ, suc, ◌<◌, length, sym, ap, subst, arith}
use Rattle.tb_base.specs.Network.{NetData}
use Rattle.segment_queue.specs.Queue.{DeskData, Fits}
use Rattle.segment_queue.specs.Traced.{round_of}
use Rattle.earliest_query.specs.Sweeping.{IsSweptQueue}
use Rattle.earliest_query.specs.UnderWay.{Covers, AddsSegments, IsBounded, IsDone}
use Rattle.earliest_query.proofs.Growing.{extends-long, extends-round, extends-trans}
use Rattle.earliest_query.proofs.BestSoFar.{improved-trans}
use Rattle.earliest_query.proofs.SegmentBySegment.{bounded_one_more, followed_one_more}
use Rattle.earliest_query.proofs.search.Search.ride_level_round.Goals as goal

pub read_level_ahead-requires-clause-sound : goal.read_level_ahead-requires-clause-sound
read_level_ahead-requires-clause-sound g c = c.loop-n.invariant.queue.sound

pub read_level_ahead-requires-clause-to : goal.read_level_ahead-requires-clause-to
read_level_ahead-requires-clause-to g c = omega (arith, c.requires.to, extends-long c.args.desk.now c.loop-n.desk (suc c.args.round) c.loop-n.invariant.extends)

pub ride_level-requires-clause-queue : goal.ride_level-requires-clause-queue
ride_level-requires-clause-queue g c = subst (λ d. IsSweptQueue (g.S.Scan.net c.args.self.now.scan.now) c.args.self.now.query.now d c.loop-n.levels) (sym c.read_level_ahead.ensures) c.loop-n.invariant.queue

pub ride_level-requires-clause-segment : goal.ride_level-requires-clause-segment
ride_level-requires-clause-segment g c =
    omega (arith, c.loop-n-test.true, c.requires.to, extends-long c.args.desk.now c.loop-n.desk (suc c.args.round) c.loop-n.invariant.extends, ap (λ (d : DeskData). length d.segments) c.read_level_ahead.ensures)

pub ride_level-requires-clause-round : goal.ride_level-requires-clause-round
ride_level-requires-clause-round g c =
    ap (λ (d : DeskData). round_of d.segments c.loop-n.n) c.read_level_ahead.ensures
    ∙ extends-round c.args.desk.now c.loop-n.desk (suc c.args.round) c.loop-n.invariant.extends c.loop-n.n (omega (arith, c.loop-n-test.true, c.requires.to))
    ∙ c.requires.rounds c.loop-n.n (omega arith) c.loop-n-test.true

pub loop-n-preserved : goal.loop-n-preserved
loop-n-preserved g c =
    let N : NetData = g.S.Scan.net c.args.self.now.scan.now in
    let Q = c.args.self.now.query.now in
    let D : DeskData = c.args.desk.now in
    let E : DeskData = c.loop-n.desk in
    let F : DeskData = c.ride_level.new.desk in
    let top : ℕ = suc c.args.round in
    let k : ℕ = c.loop-n.n in
    let best = c.in_ok-best.best in
    let before = c.loop-n.invariant in
    let ridden = c.in_ok-best.ensures in
    let same : c.read_level_ahead.new.self ≡ E = c.read_level_ahead.ensures in
    let inside : k < length D.segments = omega (arith, c.loop-n-test.true, c.requires.to) in
    let joined : AddsSegments E F top = subst (λ d. AddsSegments d F top) same ridden.extends in
    let followed : (i : ℕ) → Covers E k i → IsDone N F best k i = subst (λ d. (i : ℕ) → Covers d k i → IsDone N F best k i) same ridden.followed in
    let bounded : (i : ℕ) → Covers E k i → IsBounded N.table Q E best k i = subst (λ d. (i : ℕ) → Covers d k i → IsBounded N.table Q d best k i) same ridden.bounded in
    record {
      queue = ridden.queue;
      levels = ridden.levels ∙ before.levels;
      extends = extends-trans D E F top before.extends joined;
      followed = followed_one_more N Q D E F c.args.from k c.args.round c.loop-n.best best inside before.extends joined ridden.improved before.followed followed;
      bounded = bounded_one_more N Q D E F c.args.from k c.args.round c.loop-n.best best inside before.extends joined ridden.improved before.bounded bounded;
      improved = improved-trans N.table Q E F top c.args.round c.args.so_far c.loop-n.best best joined before.improved ridden.improved;
      still = λ fits. c.ride_level.ensures.still (subst (Fits N.table) (sym same) (before.still fits));
      places = omega (arith, before.places, ridden.places);
    }

pub returns-clause-followed : goal.returns-clause-followed
returns-clause-followed g c = λ n i from below covers. c.loop-n.invariant.followed n i from (omega (arith, below, c.loop-n-test.false)) covers

pub returns-clause-bounded : goal.returns-clause-bounded
returns-clause-bounded g c = λ n i from below covers. c.loop-n.invariant.bounded n i from (omega (arith, below, c.loop-n-test.false)) covers
