use Rattle.std.proofs.Common.{◌≡◌, ◌∙◌, ℕ, length, set, sym, ap, subst, arith, pos, ◌+ℤ◌}
use Rattle.tb_base.specs.declared.query.Value.{Value}
use Rattle.tb_base.specs.declared.table.Path.{Path}
use Rattle.tb_base.specs.Soundness.{IsSoundPath}
use Rattle.tb_base.specs.TimetableData.{TimetableData}
use Rattle.earliest_query.proofs.Following.{get_or-inside}
use Rattle.earliest_query.proofs.FromOrigins.{path_walk}
use Rattle.reach_all.specs.Reach.{values_at}
use Rattle.reach_all.specs.Arriving.{AreStairs, with_value}
use Rattle.reach_all.proofs.Offering.{offered}
use Rattle.reach_all.proofs.Spread.{offered_all, offered_on, offered_own}
use Rattle.reach_all.proofs.walking.offer_ride.Goals as goal

pub loop-path-init : goal.loop-path-init
loop-path-init g c =
    let T : TimetableData = (g.S.Scan.net c.args.scan.now).table in
    offered_own T c.args.stop c.args.value.now c.walks-path-items.result.now c.args.soonest.now c.offer.new.self
    (offered c.args.stop c.args.value.now c.args.soonest.now c.offer.new.self (omega (arith, c.requires.stop, c.requires.each_stop)) (subst (λ n. AreStairs n c.args.soonest.now) (sym c.requires.rides) c.requires.stairs) c.offer.ensures)

pub offer-requires-in-loop-path-clause-stop : goal.offer-requires-in-loop-path-clause-stop
offer-requires-in-loop-path-clause-stop g c =
    let T : TimetableData = (g.S.Scan.net c.args.scan.now).table in
    let paths = c.walks-path-items.result.now in
    let f : Path = c.path-item.result in
    let read = get_or-inside paths c.loop-path.path-index f f c.loop-path-test.true ∙ sym c.path-item.is in
    let sound = subst (IsSoundPath (length T.stops) c.args.stop) read (c.walks-path-items.ensures.sound c.loop-path.path-index f c.loop-path-test.true) in
    omega (arith, sound.to, c.loop-path.invariant.each_stop, c.requires.each_stop)

pub offer-requires-in-loop-path-clause-rides : goal.offer-requires-in-loop-path-clause-rides
offer-requires-in-loop-path-clause-rides g c = ap (λ (v : Value). v.rides) c.walked_on-there.ensures ∙ c.requires.rides

pub loop-path-preserved : goal.loop-path-preserved
loop-path-preserved g c =
    let T : TimetableData = (g.S.Scan.net c.args.scan.now).table in
    let paths = c.walks-path-items.result.now in
    let f : Path = c.path-item.result in
    let k : ℕ = c.loop-path.path-index in
    let v : Value = c.args.value.now in
    let there : Value = record { arrive = v.arrive +ℤ pos f.secs; rides = v.rides } in
    let E = c.loop-path.soonest in
    let F = c.offer-in-loop-path.new.self in
    let read = λ (d : Path). get_or-inside paths k d f c.loop-path-test.true ∙ sym c.path-item.is in
    let sound = subst (IsSoundPath (length T.stops) c.args.stop) (read f) (c.walks-path-items.ensures.sound k f c.loop-path-test.true) in
    let before = c.loop-path.invariant in
    let is : F ≡ set E f.to (with_value (values_at E f.to) there) = c.offer-in-loop-path.ensures ∙ ap (λ w. set E f.to (with_value (values_at E f.to) w)) c.walked_on-there.ensures in
    offered_on T c.args.stop v paths k c.args.soonest.now E F f before read
    (path_walk T c.args.stop paths k f c.walks-path-items.ensures.paths c.walks-path-items.ensures.ascending c.loop-path-test.true read sound.away)
    (offered f.to there E F (omega (arith, sound.to, before.each_stop, c.requires.each_stop)) before.stairs is)

pub returns : goal.returns
returns g c =
    offered_all (g.S.Scan.net c.args.scan.now).table c.args.stop c.args.value.now c.walks-path-items.result.now c.loop-path.path-index c.args.soonest.now c.loop-path.soonest
    c.walks-path-items.ensures.paths (omega (arith, c.loop-path-test.false)) c.loop-path.invariant
