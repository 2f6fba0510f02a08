use Rattle.std.proofs.Common.{◌≡◌, ◌∙◌, ◌∷◌, [], ◌++◌, ◌-◌, List, ap, length, refl, subst, sym}
use Rattle.std.specs.Prelude.{Some, slice_get}
use Rattle.edition_store.specs.Editions.{EditionData}
use Rattle.router_cli.proofs.late_trips.ask_last.Goals as goal

pub returns-in-Ok-whole_with : goal.returns-in-Ok-whole_with
returns-in-Ok-whole_with g c =
    let e = c.args.last in
    let both = c.in-Ok-whole_with.ensures ∙ ap (λ (es : List EditionData). es ++ e ∷ []) c.in-Ok.ensures.list in
    c.ask_whole-text.ensures e (subst (λ (es : List EditionData). slice_get es (length es - 1) ≡ Some e) (sym both) refl)
