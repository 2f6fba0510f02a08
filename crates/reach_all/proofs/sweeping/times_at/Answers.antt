use Rattle.std.proofs.Common.{◌∙◌, ℕ, List, Option, None, ℤ, pos, ◌≤ℤ◌, map, get_or, sym, subst, arith, to_z, of_z, w32}
use Rattle.std.specs.Prelude.{All}
use Rattle.std.proofs.lemmas.Int.{to_z-of_z}
use Rattle.tb_base.specs.BestValues.{IsLeast}
use Rattle.tb_base.specs.declared.query.Value.{Value}
use Rattle.plain_rounds.proofs.Least.{get_or-inside}
use Rattle.reach_all.specs.Arriving.{lone}
use Rattle.reach_all.specs.Reach.{values_at}
use Rattle.reach_all.specs.Swept.{IsWalkOrRide}
use Rattle.reach_all.proofs.BestTimes.{list_at}
use Rattle.reach_all.proofs.Ranking.{all_more}
use Rattle.reach_all.proofs.sweeping.times_at.Goals as goal

pub time_at-requires-clause-walks : goal.time_at-requires-clause-walks
time_at-requires-clause-walks c =
    let stop : ℕ = c.loop-stop.stop in
    let here = list_at (λ list. list.items) c.args.walks.now stop c.index-walks-stop.result (omega (arith, c.loop-stop-test.true, c.requires.each_stop)) c.index-walks-stop.is in
    subst (λ (vs : List Value). All (λ (v : Value). pos 0 ≤ℤ v.arrive) vs) (here ∙ sym c.as_slice.ensures.value) (c.requires.walks stop)

pub time_at-requires-clause-arrival : goal.time_at-requires-clause-arrival
time_at-requires-clause-arrival c =
    let stop : ℕ = c.loop-stop.stop in
    let arrival : Option ℤ = get_or c.args.arrivals.now stop None in
    let here = list_at lone c.args.arrivals.now stop arrival c.loop-stop-test.true (get_or-inside c.args.arrivals.now stop None arrival c.loop-stop-test.true) in
    subst (λ l. All (λ (v : Value). l ≤ℤ v.arrive) (lone arrival)) (sym (to_z-of_z w32 c.args.leave c.ranges.leave))
    (subst (λ (vs : List Value). All (λ (v : Value). c.args.leave ≤ℤ v.arrive) vs) here (c.requires.arrivals stop))

pub loop-stop-preserved : goal.loop-stop-preserved
loop-stop-preserved c =
    let stop : ℕ = c.loop-stop.stop in
    let leave : ℤ = to_z w32 (of_z w32 c.args.leave) in
    let walks : List (List Value) = map (λ list. list.items) c.args.walks.now in
    let arrivals : List (List Value) = map lone c.args.arrivals.now in
    let walks_here = list_at (λ list. list.items) c.args.walks.now stop c.index-walks-stop.result (omega (arith, c.loop-stop-test.true, c.requires.each_stop)) c.index-walks-stop.is in
    let arrival : Option ℤ = get_or c.args.arrivals.now stop None in
    let arrivals_here = list_at lone c.args.arrivals.now stop arrival c.loop-stop-test.true (get_or-inside c.args.arrivals.now stop None arrival c.loop-stop-test.true) in
    let this : IsLeast (IsWalkOrRide (values_at walks stop) (values_at arrivals stop) leave) c.time_at.result
    = subst (λ (vs : List Value). IsLeast (IsWalkOrRide vs (values_at arrivals stop) leave) c.time_at.result) (c.as_slice.ensures.value ∙ sym walks_here)
    (subst (λ (vs : List Value). IsLeast (IsWalkOrRide c.as_slice.result.now vs leave) c.time_at.result) (sym arrivals_here) c.time_at.ensures) in
    let pushed = c.in_ok-push.ensures {u = tt} in
    let more = all_more (λ p o. IsLeast (IsWalkOrRide (values_at walks p) (values_at arrivals p) leave) o) c.loop-stop.times.items c.push.new.self.items stop c.time_at.result c.loop-stop.invariant.each_stop c.loop-stop.invariant.times this pushed.items in
    record { each_stop = more.0; times = more.1 }

pub returns-clause-times : goal.returns-clause-times
returns-clause-times c = λ p o inside.
    subst (λ l. IsLeast (IsWalkOrRide (values_at (map (λ list. list.items) c.args.walks.now) p) (values_at (map lone c.args.arrivals.now) p) l) (get_or c.loop-stop.times.items p o)) (to_z-of_z w32 c.args.leave c.ranges.leave)
    (c.loop-stop.invariant.times p o (omega (arith, inside, c.loop-stop-test.false)))
