use Rattle.std.proofs.Common.{◌∙◌, ◌/◌, [], sym, ap, subst, arith, get_or}
use Rattle.line_split.specs.Floors.{AreNoLater, FloorsData}
use Rattle.line_split.proofs.FloorLemmas.{far_later}
use Rattle.line_split.proofs.floors.Floors.far_from.Goals as goal

pub returns-clause-later : goal.returns-clause-later
returns-clause-later c =
    let same = c.row.ensures ∙ ap (λ (f : FloorsData). get_or f.far (c.args.place / 64 / 64) []) c.self.view_is in
    far_later c.args.self.now.far c.args.self.now.near c.args.events.now c.args.place c.requires.far c.requires.whole (omega (arith, c.if-block-ne0.false))
    (λ h. c.if-is_below.ensures (subst (λ floor. AreNoLater floor c.args.events.now) (sym same) h))
