use Rattle.std.proofs.Common.{◌≡◌, ◌∙◌, ◌+◌, Option, Some, List, Err, ap, sym, subst}
use Rattle.tb_base.specs.BestValues.{ChoiceData}
use Rattle.tb_base.specs.declared.query.Leg.{Leg}
use Rattle.journey_read.specs.declared.claim.JourneyFault.TheVariants as fault
use Rattle.journey_read.specs.Claims.{claim_with, claim_with_words, legs_from}
use Rattle.journey_read.proofs.LineSteps.{leg_added, leg_refused, value_refused, value_taken}
use Rattle.journey_read.proofs.reader.claim_with_words.Goals as goal

pub returns-in-Err : goal.returns-in-Err
returns-in-Err c = λ lines.
    let T = c.args.table.now in
    let words = c.args.words.now in
    subst (λ (o : Option ChoiceData). claim_with_words T c.args.line o words lines ≡ Err c.in-Err.fault) (sym c.in-Some.is)
    (leg_refused T c.args.line c.in-Some.claimed words lines c.in-Err.fault c.requires (sym c.leg_of.ensures ∙ c.in-Err.is))

pub returns-in-Ok-push : goal.returns-in-Ok-push
returns-in-Ok-push c = λ lines.
    let T = c.args.table.now in
    let words = c.args.words.now in
    let v = c.claimed.inside.value in
    let before : ChoiceData = record { value = v; legs = c.claimed.inside.legs.items } in
    let was : c.args.claimed ≡ Some before = c.in-Some.is ∙ ap Some (sym c.claimed.view_is) in
    let further = legs_from T (c.args.line + 1) lines in
    subst (λ (o : Option ChoiceData). claim_with_words T c.args.line o words lines ≡ claim_with v c.push.new.self.items further) (sym was)
    (leg_added T c.args.line before words lines c.in-Ok.leg c.requires (sym c.leg_of.ensures ∙ c.in-Ok.is)
    ∙ ap (λ (legs : List Leg). claim_with v legs further) (sym c.in-Ok-push.ensures.items))

pub returns-in-None-value_of : goal.returns-in-None-value_of
returns-in-None-value_of c = λ lines.
    let T = c.args.table.now in
    let words = c.args.words.now in
    subst (λ (o : Option ChoiceData). claim_with_words T c.args.line o words lines ≡ Err (fault.BadLine c.args.line)) (sym c.in-None.is)
    (value_refused T c.args.line words lines c.requires (sym c.value_of.ensures ∙ c.in-None-value_of.is))

pub returns-in-Some-value_of : goal.returns-in-Some-value_of
returns-in-Some-value_of c = λ lines.
    let T = c.args.table.now in
    let words = c.args.words.now in
    let v = c.in-Some-value_of.value in
    let further = legs_from T (c.args.line + 1) lines in
    subst (λ (o : Option ChoiceData). claim_with_words T c.args.line o words lines ≡ claim_with v c.new.result.items further) (sym c.in-None.is)
    (value_taken T c.args.line words lines v c.requires (sym c.value_of.ensures ∙ c.in-Some-value_of.is)
    ∙ ap (λ (legs : List Leg). claim_with v legs further) (sym c.new.ensures.items))
