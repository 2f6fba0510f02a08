use Rattle.std.proofs.Common.{◌≡◌, ◌∙◌, ◌<◌, ap, length, subst, sym}
use Rattle.std.specs.Prelude.{All}
use Rattle.std.proofs.lemmas.Result.{IfOk-weaker}
use Rattle.tb_base.specs.BestValues.{ChoiceData, QueryData}
use Rattle.tb_base.specs.JourneyRules.{HasNumbers}
use Rattle.tb_base.specs.TimetableData.{TimetableData}
use Rattle.answer_json.specs.Shown.{shown_choices}
use Rattle.edition_store.specs.Editions.{NetworkData, net_of, network_of}
use Rattle.feed_maker.specs.City.{city}
use Rattle.query_gate.specs.Replies.{AreBestChoices}
use Rattle.query_gate.proofs.Numbers.{numbers_of_choices}
use Rattle.router_cli.specs.Answers.{ShowsKept}
use Rattle.router_cli.specs.Cities.{corner_query}
use Rattle.router_cli.proofs.Corners.{choices_shown, from_inside, to_inside}
use Rattle.router_cli.proofs.made_city.corner_text.Goals as goal

pub choices_in-found-requires-clause-origins : goal.choices_in-found-requires-clause-origins
choices_in-found-requires-clause-origins c =
    let T = c.network-network.result.now.table in
    let made : T ≡ city c.args.side = ap (λ (N : NetworkData). N.table) c.network-network.ensures ∙ c.requires.city in
    subst (λ (Q : QueryData). All (λ p. p < length T.stops) Q.from) (sym c.in_ok-query.ensures) (from_inside T c.args.side made c.requires.side)

pub choices_in-found-requires-clause-targets : goal.choices_in-found-requires-clause-targets
choices_in-found-requires-clause-targets c =
    let T = c.network-network.result.now.table in
    let made : T ≡ city c.args.side = ap (λ (N : NetworkData). N.table) c.network-network.ensures ∙ c.requires.city in
    subst (λ (Q : QueryData). All (λ p. p < length T.stops) Q.to) (sym c.in_ok-query.ensures) (to_inside T c.args.side made c.requires.side)

pub shown_choices-requires : goal.shown_choices-requires
shown_choices-requires c =
    let N = network_of c.args.edition.now in
    let T = N.table in
    let origins = subst (λ (Q : QueryData). All (λ p. p < length T.stops) Q.from) (sym c.in_ok-query.ensures) (from_inside T c.args.side c.requires.city c.requires.side) in
    let best = subst (λ (M : NetworkData). AreBestChoices (net_of M) c.in_ok-query.query c.in_ok-choices.choices.items) c.network-network.ensures c.in_ok-choices.ensures in
    let numbers = numbers_of_choices T c.in_ok-query.query c.soundness.ensures.network.sound origins c.in_ok-choices.choices.items best.journeys in
    subst (λ (U : TimetableData). All (λ choice. All (HasNumbers U) (ChoiceData.legs choice)) c.as_slice.result.now) (sym c.table.ensures) (rw c.as_slice.ensures.value numbers)

pub returns : goal.returns
returns c =
    let N = network_of c.args.edition.now in
    let corners = corner_query c.args.side in
    let found = subst (λ (M : NetworkData). AreBestChoices (net_of M) c.in_ok-query.query c.in_ok-choices.choices.items) c.network-network.ensures c.in_ok-choices.ensures in
    let best = subst (λ Q. AreBestChoices (net_of N) Q c.in_ok-choices.choices.items) c.in_ok-query.ensures found in
    IfOk-weaker c.shown_choices.result _ _
    (λ text shown. subst (λ T. ShowsKept c.args.json T corners text.items) c.requires.city
    (choices_shown c.args.json N c.soundness.ensures.network corners c.in_ok-choices.choices.items best text.items
    (shown ∙ ap (λ T. shown_choices c.args.json T c.as_slice.result.now) c.table.ensures ∙ ap (λ cs. shown_choices c.args.json N.table cs) c.as_slice.ensures.value)))
    c.shown_choices.ensures
