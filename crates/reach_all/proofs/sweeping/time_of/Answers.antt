use Rattle.std.proofs.Common.{◌≡◌, ◌∙◌, ◌+◌, ℕ, List, Some, length, get_or, sym, ap, subst, arith, rules, to_z, of_z, w32, ℤ, pos, ◌≤ℤ◌}
use Rattle.std.proofs.lemmas.Int.{to_z-of_z}
use Rattle.tb_base.specs.declared.query.Value.{Value}
use Rattle.plain_rounds.specs.OneRide.{earlier_of}
use Rattle.plain_rounds.proofs.Least.{get_or-inside}
use Rattle.reach_all.specs.Ranks.{IsTimeOf}
use Rattle.reach_all.proofs.BestTimes.{IsTimeOfFirst, time_of_all, time_of_next}
use Rattle.reach_all.proofs.sweeping.time_of.Goals as goal

abbrev no_value : Value
no_value = record { arrive = pos 0; rides = 0 }

pub since-requires-clause-later : goal.since-requires-clause-later
since-requires-clause-later c =
    subst (λ l. l ≤ℤ (get_or c.args.values.now c.loop-value.value-index no_value).arrive) (sym (to_z-of_z w32 c.args.leave c.ranges.leave)) (c.requires.later c.loop-value.value-index no_value c.loop-value-test.true)

pub loop-value-preserved : goal.loop-value-preserved
loop-value-preserved c =
    let values : List Value = c.args.values.now in
    let leave : ℤ = to_z w32 (of_z w32 c.args.leave) in
    let i : ℕ = c.loop-value.value-index in
    let v : Value = get_or values i no_value in
    let since : to_z w32 (of_z w32 c.since.result) ≡ c.since.result = to_z-of_z w32 c.since.result (search rules) in
    subst (λ o. IsTimeOfFirst values leave (i + 1) o) (sym (c.shorter-time.ensures ∙ ap (λ z. earlier_of c.loop-value.time (Some z)) (since ∙ c.since.ensures)))
    (time_of_next values leave i v c.loop-value.time c.loop-value-test.true (get_or-inside values i no_value v c.loop-value-test.true) c.loop-value.invariant)

pub returns : goal.returns
returns c =
    let all : c.loop-value.value-index ≡ length c.args.values.now = omega arith in
    subst (λ l. IsTimeOf c.args.values.now l c.loop-value.time) (to_z-of_z w32 c.args.leave c.ranges.leave)
    (time_of_all c.args.values.now (to_z w32 (of_z w32 c.args.leave)) c.loop-value.value-index no_value c.loop-value.time all c.loop-value.invariant)
