use Rattle.std.proofs.Common.{◌≡◌, ◌∙◌, List, rules, sym, ap, subst, arith, to_z, of_z, w32, ℤ, pos, ◌<ℤ◌}
use Rattle.std.proofs.lemmas.Int.{ints, to_z-of_z}
use Rattle.tb_base.specs.BestValues.{QueryData}
use Rattle.tb_base.specs.declared.query.Value.{Value}
use Rattle.query_gate.specs.Slots.{AreLater}
use Rattle.query_gate.proofs.Laters.{none_later}
use Rattle.query_gate.proofs.searching.begin.Goals as goal
use Rattle.tb_base.proofs.NumberFacts.{≤ℤ-refl}

pub returns-then-query-gt-LAST-clause-later : goal.returns-then-query-gt-LAST-clause-later
returns-then-query-gt-LAST-clause-later g c =
    let T = c.args.table.now in
    let Q : QueryData = c.args.query.now in
    let leave : ℤ = to_z w32 (of_z w32 c.query.inside.leave) in
    let fits : leave ≡ Q.leave = to_z-of_z w32 c.query.inside.leave (search rules) ∙ ap (λ (q : QueryData). q.leave) c.query.view_is in
    let past : pos 359999 <ℤ leave = grind (arith, ints, c.if-query-gt-LAST.true) in
    subst (λ (vs : List Value). AreLater T Q vs) (sym c.in_ok-begin.ensures.no_values) (none_later T c.soundness.ensures Q (subst (λ t. pos 359999 <ℤ t) fits past))

pub search-requires-clause-later : goal.search-requires-clause-later
search-requires-clause-later g c =
    let Q : QueryData = c.args.query.now in
    (Q.leave, ≤ℤ-refl Q.leave, c.in_ok-begin.ensures.begun)
