use Rattle.std.proofs.Common.{◌≡◌, ◌∙◌, ◌-◌, ◌++◌, ◌∷◌, [], ap, sym, length, arith}
use Rattle.std.specs.Prelude.{Some, slice_get}
use Rattle.std.proofs.lemmas.Bool.Decides.{nat_tests}
use Rattle.std.proofs.lemmas.Grind.{common_steps}
use Rattle.history.specs.Lists.{Shown}
use Rattle.edition_store.specs.Editions.{EditionData}
use Rattle.edition_store.proofs.Lists.{one_is}
use Rattle.edition_store.proofs.shelf.Shelf.new.Goals as goal

pub invariant_of-result : goal.invariant_of-result
invariant_of-result g c =
    let front = c.pinned-inside.inside.0.0.front in
    let same = ap (λ p. p.content) c.pinned-inside.view_is ∙ c.pinned.view_is in
    let long = ap (λ (s : Shown EditionData). length s.list) same in
    let one : length front.list ≡ 1 = grind (arith, nat_tests, common_steps, c.if-number-ne1.false, c.number.ensures, long) in
    let x = c.in_ok-share.field-0 in
    let last : slice_get front.list (length front.list - 1) ≡ Some x = c.pinned-inside.invariant.ends ∙ ap Some (sym c.in_ok-share.ensures) in
    let items : c.push.new.self.items ≡ front.list = c.in_ok-push.ensures.items ∙ ap (λ l. l ++ x ∷ []) c.new-editions.ensures.items ∙ one_is front.list x one last in
    ap (λ (s : Shown EditionData). s.list) c.again.ensures ∙ sym items

pub returns : goal.returns
returns g c =
    let front = c.pinned-inside.inside.0.0.front in
    let same = ap (λ p. p.content) c.pinned-inside.view_is ∙ c.pinned.view_is in
    let long = ap (λ (s : Shown EditionData). length s.list) same in
    let one : length front.list ≡ 1 = grind (arith, nat_tests, common_steps, c.if-number-ne1.false, c.number.ensures, long) in
    let x = c.in_ok-share.field-0 in
    let last : slice_get front.list (length front.list - 1) ≡ Some x = c.pinned-inside.invariant.ends ∙ ap Some (sym c.in_ok-share.ensures) in
    let items : c.push.new.self.items ≡ front.list = c.in_ok-push.ensures.items ∙ ap (λ l. l ++ x ∷ []) c.new-editions.ensures.items ∙ one_is front.list x one last in
    items ∙ ap (λ (s : Shown EditionData). s.list) same
