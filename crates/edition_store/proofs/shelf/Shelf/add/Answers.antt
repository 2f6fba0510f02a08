use Rattle.std.proofs.Common.{◌≡◌, ◌∙◌, ◌+◌, ◌-◌, ◌++◌, ◌∷◌, [], ap, sym, length, arith}
use Rattle.std.specs.Prelude.{Some, slice_get}
use Rattle.std.proofs.lemmas.Bool.Decides.{nat_tests}
use Rattle.std.proofs.lemmas.Grind.{common_steps}
use Rattle.history.specs.Lists.{Shown}
use Rattle.edition_store.specs.Editions.{EditionData}
use Rattle.edition_store.proofs.Lists.{next_is}
use Rattle.edition_store.proofs.shelf.Shelf.add.Goals as goal

pub invariant_of-self-2 : goal.invariant_of-self-2
invariant_of-self-2 g c =
    let front = c.pinned-inside.inside.0.0.front in
    let known = c.self.inside.front in
    let same = ap (λ p. p.content) c.pinned-inside.view_is ∙ c.pinned.view_is in
    let long = ap (λ (s : Shown EditionData). length s.list) same in
    let held = ap length c.self.invariant in
    let count : length front.list ≡ length known.list + 1 = grind (arith, nat_tests, common_steps, c.if-number-len.false, c.number.ensures, c.len.ensures, long, held) in
    let x = c.in_ok-share.field-0 in
    let last : slice_get front.list (length front.list - 1) ≡ Some x = c.pinned-inside.invariant.ends ∙ ap Some (sym c.in_ok-share.ensures) in
    let all : known.list ++ x ∷ [] ≡ front.list = next_is known front x c.compare.ensures count last in
    let items : c.push.new.self.items ≡ front.list = c.in_ok-push.ensures.items ∙ ap (λ l. l ++ x ∷ []) (sym c.self.invariant) ∙ all in
    ap (λ (s : Shown EditionData). s.list) c.again.ensures ∙ sym items

pub returns-clause-added : goal.returns-clause-added
returns-clause-added g c =
    let front = c.pinned-inside.inside.0.0.front in
    let known = c.self.inside.front in
    let same = ap (λ p. p.content) c.pinned-inside.view_is ∙ c.pinned.view_is in
    let long = ap (λ (s : Shown EditionData). length s.list) same in
    let held = ap length c.self.invariant in
    let count : length front.list ≡ length known.list + 1 = grind (arith, nat_tests, common_steps, c.if-number-len.false, c.number.ensures, c.len.ensures, long, held) in
    let x = c.in_ok-share.field-0 in
    let last : slice_get front.list (length front.list - 1) ≡ Some x = c.pinned-inside.invariant.ends ∙ ap Some (sym c.in_ok-share.ensures) in
    let all : known.list ++ x ∷ [] ≡ front.list = next_is known front x c.compare.ensures count last in
    let items : c.push.new.self.items ≡ front.list = c.in_ok-push.ensures.items ∙ ap (λ l. l ++ x ∷ []) (sym c.self.invariant) ∙ all in
    items ∙ ap (λ (s : Shown EditionData). s.list) same
