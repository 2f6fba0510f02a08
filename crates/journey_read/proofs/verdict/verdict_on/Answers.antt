use Rattle.std.proofs.Common.{◌≡◌, ◌∙◌, refl, sym, subst}
use Rattle.tb_base.specs.JourneyRules.{SpellValue}
use Rattle.journey_read.proofs.Values.{own_value, spells_none, spelt_where_none, value_spelt}
use Rattle.journey_read.proofs.Going.{journey_goes_on}
use Rattle.journey_read.proofs.verdict.verdict_on.Goals as goal

pub returns-in-Some-clause-yes : goal.returns-in-Some-clause-yes
returns-in-Some-clause-yes c = (
  λ e. cc,
  λ spell. absurd (spells_none c.args.table.now c.args.query.now c.args.legs.now c.fault.result c.in-Some.broken c.fault.ensures.none c.in-Some.is c.args.claimed.now spell),
)

pub value_of-value-requires-clause-legs : goal.value_of-value-requires-clause-legs
value_of-value-requires-clause-legs c =
    journey_goes_on c.args.table.now c.args.query.now c.soundness.ensures c.args.legs.now c.requires.origins c.requires.leave
    (spelt_where_none c.args.table.now c.args.query.now c.args.legs.now c.fault.result c.fault.ensures.none c.in_default.is)

pub returns-then-same_value : goal.returns-then-same_value
returns-then-same_value c =
    let T = c.args.table.now in
    let Q = c.args.query.now in
    let legs = c.args.legs.now in
    let own = own_value T Q legs (spelt_where_none T Q legs c.fault.result c.fault.ensures.none c.in_default.is) in
    let same : c.value_of-value.result ≡ c.args.claimed.now = c.same_value.ensures.0 c.if-same_value.true in
    let claimed = subst (SpellValue T Q legs) (sym c.value_of-value.ensures ∙ same) own in
    record { verdict = claimed; yes = (λ e. claimed, λ spell. refl) }

pub returns-else-same_value : goal.returns-else-same_value
returns-else-same_value c =
    let T = c.args.table.now in
    let Q = c.args.query.now in
    let legs = c.args.legs.now in
    let own = own_value T Q legs (spelt_where_none T Q legs c.fault.result c.fault.ensures.none c.in_default.is) in
    let other : c.value_of-value.result ≡ c.args.claimed.now → ⊥ = (λ e. let yes = sym c.if-same_value.false ∙ c.same_value.ensures.1 e in cc) in
    record {
      verdict = (subst (SpellValue T Q legs) (sym c.value_of-value.ensures) own, other);
      yes = (λ e. cc, λ spell. absurd (other (c.value_of-value.ensures ∙ sym (value_spelt T Q legs c.args.claimed.now spell))));
    }
