use Rattle.std.proofs.Common.{◌∙◌, sym, ap}
use Rattle.edition_store.specs.Editions.{EditionData}
use Rattle.late_edit.specs.Touched.{touched_count}
use Rattle.late_edit.specs.Amending.{edition_lines}
use Rattle.late_edit.proofs.KeptRows.{edition_lines_are}
use Rattle.late_edit.proofs.amending.amended_over.Goals as goal

pub returns-in_ok-edition-in-Ok-clause-redone : goal.returns-in_ok-edition-in-Ok-clause-redone
returns-in_ok-edition-in-Ok-clause-redone c =
    let L = c.args.lines in
    let e = c.in_ok-edition-in-Ok.edition in
    let is = c.in_ok-edition-in-Ok.ensures in
    c.in-Ok.ensures.redone
    ∙ ap (touched_count (edition_lines c.args.old.now)) (edition_lines_are e L (c.requires.lines ∙ sym (ap (λ (x : EditionData). x.table) is)) (sym (ap (λ (x : EditionData). x.lines) is)))
