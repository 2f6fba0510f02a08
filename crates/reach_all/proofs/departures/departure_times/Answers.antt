use Rattle.std.proofs.Common.{◌≡◌, ℤ, ◌+ℤ◌, ◌≤ℤ◌, pos, sym, subst, arith, rules, to_z, of_z, w32}
use Rattle.std.proofs.lemmas.Int.{ints, to_z-of_z}
use Rattle.reach_all.specs.declared.departures.Departures.{Departures}
use Rattle.reach_all.proofs.Departing.{AreFirst, first_all, first_more, in_order, latest, not_before, some_time}
use Rattle.reach_all.proofs.departures.departure_times.Goals as goal

pub loop-time-preserved : goal.loop-time-preserved
loop-time-preserved c =
    let d : Departures = c.args.departures.now in
    let time : ℤ = to_z w32 c.loop-time.time-bits in
    let next : ℤ = to_z w32 (of_z w32 (to_z w32 c.loop-time.time-bits +ℤ to_z w32 d.step)) in
    let last = c.requires.last in
    let fits : to_z w32 (of_z w32 d.last) ≡ d.last = to_z-of_z w32 d.last (search rules) in
    let on : time ≤ℤ d.last = omega (arith, ints, fits, c.loop-time-test.true) in
    let is : next ≡ (time +ℤ pos d.step) = omega (arith, ints, on, last, c.requires.most_step, c.loop-time.invariant.few, c.requires.first) in
    let pushed = c.in_ok-push.ensures {u = tt} in
    subst (λ xs. AreFirst d xs next) (sym pushed.items) (first_more d c.loop-time.times.items time c.loop-time.invariant next is c.requires.first on last c.requires.step)

pub returns-clause-times : goal.returns-clause-times
returns-clause-times c =
    let d : Departures = c.args.departures.now in
    let fits : to_z w32 (of_z w32 d.last) ≡ d.last = to_z-of_z w32 d.last (search rules) in
    first_all d c.loop-time.times.items (to_z w32 c.loop-time.time-bits) c.loop-time.invariant (omega (arith, ints, fits, c.loop-time-test.false))

pub returns-clause-some : goal.returns-clause-some
returns-clause-some c =
    let d : Departures = c.args.departures.now in
    let fits : to_z w32 (of_z w32 d.last) ≡ d.last = to_z-of_z w32 d.last (search rules) in
    some_time d c.loop-time.times.items (first_all d c.loop-time.times.items (to_z w32 c.loop-time.time-bits) c.loop-time.invariant (omega (arith, ints, fits, c.loop-time-test.false)))

pub returns-clause-order : goal.returns-clause-order
returns-clause-order c =
    let d : Departures = c.args.departures.now in
    let fits : to_z w32 (of_z w32 d.last) ≡ d.last = to_z-of_z w32 d.last (search rules) in
    in_order d c.loop-time.times.items (first_all d c.loop-time.times.items (to_z w32 c.loop-time.time-bits) c.loop-time.invariant (omega (arith, ints, fits, c.loop-time-test.false)))

pub returns-clause-not_before : goal.returns-clause-not_before
returns-clause-not_before c =
    let d : Departures = c.args.departures.now in
    let fits : to_z w32 (of_z w32 d.last) ≡ d.last = to_z-of_z w32 d.last (search rules) in
    not_before d c.loop-time.times.items (first_all d c.loop-time.times.items (to_z w32 c.loop-time.time-bits) c.loop-time.invariant (omega (arith, ints, fits, c.loop-time-test.false))) c.requires.first

pub returns-clause-latest : goal.returns-clause-latest
returns-clause-latest c =
    let d : Departures = c.args.departures.now in
    let fits : to_z w32 (of_z w32 d.last) ≡ d.last = to_z-of_z w32 d.last (search rules) in
    latest d c.loop-time.times.items (first_all d c.loop-time.times.items (to_z w32 c.loop-time.time-bits) c.loop-time.invariant (omega (arith, ints, fits, c.loop-time-test.false))) c.requires.last
