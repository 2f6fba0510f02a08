use Rattle.std.proofs.Common.{◌≡◌, ◌⊎◌, Some, length, arith, get_or, subst}
use Rattle.std.specs.Prelude.{IfSome, MatchOption}
use Rattle.std.proofs.lemmas.List.{get_or_read}
use Rattle.plain_rounds.specs.Shown.{IsAsNear, secs_by}
use Rattle.plain_rounds.proofs.NearLemmas.{nearest-more, nearest-all, nearest-within}
use Rattle.plain_rounds.proofs.legs.nearest.Goals as goal

pub loop-stop-preserved : goal.loop-stop-preserved
loop-stop-preserved c =
    let i = c.loop-stop.stop-index in
    let new = c.nearer-best.result in
    let here : c.stop-item.result ≡ get_or c.args.stops.now i 0 = get_or_read c.args.stops.now i c.stop-item.result c.loop-stop-test.true c.stop-item.is 0 in
    record {
      nearest = nearest-more (secs_by c.args.table.now c.args.walks.now) c.args.stops.now i c.secs-secs.result
          (subst (λ p. c.secs-secs.result ≡ secs_by c.args.table.now c.args.walks.now p) here c.secs-secs.ensures.secs)
          c.loop-stop.best new
          (subst (λ p. IfSome new (λ n. (c.loop-stop.best ≡ Some n) ⊎ ((n.stop ≡ p) × (c.secs-secs.result ≡ Some n.secs)))) here c.nearer-best.ensures.one)
          c.nearer-best.ensures.best
          (subst (λ p. IfSome c.secs-secs.result (λ s. MatchOption new ⊥ (λ n. IsAsNear n p s))) here c.nearer-best.ensures.new)
          c.loop-stop.invariant.nearest;
      at_most_a_day = nearest-within c.loop-stop.best new c.stop-item.result c.secs-secs.result c.nearer-best.ensures.one c.loop-stop.invariant.at_most_a_day c.secs-secs.ensures.at_most_a_day;
    }

pub returns-clause-nearest : goal.returns-clause-nearest
returns-clause-nearest c =
    let all : c.loop-stop.stop-index ≡ length c.args.stops.now = omega arith in
    nearest-all (secs_by c.args.table.now c.args.walks.now) c.args.stops.now c.loop-stop.stop-index c.loop-stop.best all c.loop-stop.invariant.nearest
