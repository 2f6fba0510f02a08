use Rattle.std.proofs.Common.{◌≡◌, suc, ◌<◌, ◌≤◌, ◌+◌, length, refl, subst, arith}
use Rattle.std.specs.Prelude.{MatchBool, sum}
use Rattle.plain_rounds.specs.PlainAnswer.{IsRound}
use Rattle.plain_rounds.specs.Rides.{AreArrivals}
use Rattle.plain_rounds.proofs.PlainAnswerLemmas.{arrivals-early, round-arrivals, round-more, best-values, shown-spell}
use Rattle.plain_rounds.proofs.choices.plain_ask.Goals as goal

pub add-requires-clause-early : goal.add-requires-clause-early
add-requires-clause-early c =
    let inv = c.loop-rounds.invariant in
    arrivals-early c.args.table.now c.args.query.now c.soundness.ensures (suc c.loop-rounds.rides) c.ride.new.self.arrivals
    (round-arrivals c.args.table.now c.args.query.now c.loop-rounds.rides c.loop-rounds.rounds c.ride.new.self c.ride.new.self inv.round c.in_ok-ride.ensures.ready c.in_ok-ride.ensures.takes)

pub add-requires-clause-arrivals : goal.add-requires-clause-arrivals
add-requires-clause-arrivals c =
    let inv = c.loop-rounds.invariant in
    let next : suc c.loop-rounds.rides ≡ c.loop-rounds.rides + 1 = omega arith in
    subst (λ n. AreArrivals c.args.table.now c.args.query.now n c.ride.new.self.arrivals) next
    (round-arrivals c.args.table.now c.args.query.now c.loop-rounds.rides c.loop-rounds.rounds c.ride.new.self c.ride.new.self inv.round c.in_ok-ride.ensures.ready c.in_ok-ride.ensures.takes)

pub change-requires-clause-times : goal.change-requires-clause-times
change-requires-clause-times c =
    let inv = c.loop-rounds.invariant in
    arrivals-early c.args.table.now c.args.query.now c.soundness.ensures (suc c.loop-rounds.rides) c.ride.new.self.arrivals
    (round-arrivals c.args.table.now c.args.query.now c.loop-rounds.rides c.loop-rounds.rounds c.ride.new.self c.ride.new.self inv.round c.in_ok-ride.ensures.ready c.in_ok-ride.ensures.takes)

pub loop-rounds-preserved : goal.loop-rounds-preserved
loop-rounds-preserved c =
    let T = c.args.table.now in
    let Q = c.args.query.now in
    let rides = c.loop-rounds.rides in
    let old = c.loop-rounds.rounds in
    let mid = c.ride.new.self in
    let new = c.change.new.self in
    let inv = c.loop-rounds.invariant in
    let next : suc rides ≡ rides + 1 = omega arith in
    let grown : length old.arrivals.ridden.items < length mid.arrivals.ridden.items =
    subst (λ b. MatchBool b (length old.arrivals.ridden.items < length mid.arrivals.ridden.items) (length mid.arrivals.ridden.items ≡ length old.arrivals.ridden.items)) c.if-branch.true c.in_ok-ride.ensures.sooner in
    let boarded_at : sum new.boarded_at.items ≡ sum mid.boarded_at.items = rw c.change.ensures.boarded_at refl in
    let few : suc rides + sum new.boarded_at.items ≤ 10000000 = omega (arith, grown, boarded_at, c.in_ok-ride.ensures.few, inv.round.few) in
    record {
      round = subst (λ n. IsRound T Q n new) next (round-more T Q rides old mid new inv.round c.in_ok-ride.ensures.ready c.in_ok-ride.ensures.takes c.change.ensures.kept c.change.ensures.takes c.change.ensures.arrivals few);
      answer = c.in_ok-add.ensures;
    }

pub returns-clause-values : goal.returns-clause-values
returns-clause-values c =
    let inv = c.loop-rounds.invariant in
    let old = c.loop-rounds.rounds in
    let mid = c.ride.new.self in
    let last : length mid.arrivals.ridden.items ≡ length old.arrivals.ridden.items =
    subst (λ b. MatchBool b (length old.arrivals.ridden.items < length mid.arrivals.ridden.items) (length mid.arrivals.ridden.items ≡ length old.arrivals.ridden.items)) c.if-branch.false c.in_ok-ride.ensures.sooner in
    best-values c.args.table.now c.args.query.now c.loop-rounds.rides old mid mid inv.round c.in_ok-ride.ensures.ready c.in_ok-ride.ensures.takes
    c.loop-rounds.answer.choices.items c.loop-rounds.answer.best inv.answer last c.soundness.ensures

pub returns-clause-journeys : goal.returns-clause-journeys
returns-clause-journeys c = shown-spell c.args.table.now c.args.query.now c.loop-rounds.answer.choices.items c.loop-rounds.invariant.answer.shown
