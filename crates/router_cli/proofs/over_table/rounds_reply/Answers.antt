use Rattle.std.proofs.Common.{◌<◌, ◌≤ℤ◌, length, pos, subst, sym, w32}
use Rattle.std.specs.Prelude.{All}
use Rattle.std.proofs.lemmas.Int.{to_z-of_z}
use Rattle.tb_base.specs.BestValues.{QueryData}
use Rattle.query_gate.proofs.Numbers.{numbers_of_choices}
use Rattle.router_cli.specs.Answers.{AreAnyChoices, IsQuery}
use Rattle.router_cli.proofs.AnswerLemmas.{asked_by}
use Rattle.router_cli.proofs.over_table.rounds_reply.Goals as goal

pub plain_ask-requires-clause-origins : goal.plain_ask-requires-clause-origins
plain_ask-requires-clause-origins c =
    let T = c.args.table.now in
    let asked = asked_by T c.bytes.result.now c.args.from.now c.bytes-2.result.now c.args.to.now _ c.args.leave _ c.bytes.ensures c.bytes-2.ensures (to_z-of_z w32 c.args.leave c.ranges.leave) c.in_ok-name.ensures in
    let known = subst (IsQuery T c.args.from.now c.args.to.now c.args.leave) c.in-Query.is asked in
    subst (λ (Q : QueryData). All (λ p. p < length T.stops) Q.from) (sym known.2) known.3

pub plain_ask-requires-clause-targets : goal.plain_ask-requires-clause-targets
plain_ask-requires-clause-targets c =
    let T = c.args.table.now in
    let asked = asked_by T c.bytes.result.now c.args.from.now c.bytes-2.result.now c.args.to.now _ c.args.leave _ c.bytes.ensures c.bytes-2.ensures (to_z-of_z w32 c.args.leave c.ranges.leave) c.in_ok-name.ensures in
    let known = subst (IsQuery T c.args.from.now c.args.to.now c.args.leave) c.in-Query.is asked in
    subst (λ (Q : QueryData). All (λ p. p < length T.stops) Q.to) (sym known.2) known.4

pub plain_ask-requires-clause-time : goal.plain_ask-requires-clause-time
plain_ask-requires-clause-time c =
    let T = c.args.table.now in
    let asked = asked_by T c.bytes.result.now c.args.from.now c.bytes-2.result.now c.args.to.now _ c.args.leave _ c.bytes.ensures c.bytes-2.ensures (to_z-of_z w32 c.args.leave c.ranges.leave) c.in_ok-name.ensures in
    let known = subst (IsQuery T c.args.from.now c.args.to.now c.args.leave) c.in-Query.is asked in
    subst (λ (Q : QueryData). Q.leave ≤ℤ pos 359999) (sym known.2) c.requires

pub returns-in_ok-choices-in-Query-clause-reply : goal.returns-in_ok-choices-in-Query-clause-reply
returns-in_ok-choices-in-Query-clause-reply c =
    let T = c.args.table.now in
    let asked = asked_by T c.bytes.result.now c.args.from.now c.bytes-2.result.now c.args.to.now _ c.args.leave _ c.bytes.ensures c.bytes-2.ensures (to_z-of_z w32 c.args.leave c.ranges.leave) c.in_ok-name.ensures in
    let known = subst (IsQuery T c.args.from.now c.args.to.now c.args.leave) c.in-Query.is asked in
    let choices = c.in_ok-choices-in-Query.choices.items in (
      known.0,
      known.1,
      subst (λ Q. AreAnyChoices T Q choices) known.2
          (record { values = c.in_ok-choices-in-Query.ensures.values; journeys = c.in_ok-choices-in-Query.ensures.walks }),
    )

pub returns-in_ok-choices-in-Query-clause-numbers : goal.returns-in_ok-choices-in-Query-clause-numbers
returns-in_ok-choices-in-Query-clause-numbers c =
    let T = c.args.table.now in
    let asked = asked_by T c.bytes.result.now c.args.from.now c.bytes-2.result.now c.args.to.now _ c.args.leave _ c.bytes.ensures c.bytes-2.ensures (to_z-of_z w32 c.args.leave c.ranges.leave) c.in_ok-name.ensures in
    let known = subst (IsQuery T c.args.from.now c.args.to.now c.args.leave) c.in-Query.is asked in
    let origins = subst (λ (Q : QueryData). All (λ p. p < length T.stops) Q.from) (sym known.2) known.3 in
    numbers_of_choices T c.in-Query.query c.soundness.ensures origins c.in_ok-choices-in-Query.choices.items c.in_ok-choices-in-Query.ensures.walks
