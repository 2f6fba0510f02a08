use Rattle.std.proofs.Common.{◌∙◌, inr, ap, subst}
use Rattle.line_split.specs.Floors.{FloorsData}
use Rattle.line_split.specs.Bitmaps.{IsOutBy}
use Rattle.line_split.proofs.floors.Floors.later_from.Goals as goal

pub returns-then-out-gt0-clause-later : goal.returns-then-out-gt0-clause-later
returns-then-out-gt0-clause-later c = λ k low below inside.
    inr (subst (λ bitmaps. IsOutBy bitmaps c.args.picked.now k) (c.as_slice.ensures.value ∙ ap (λ (f : FloorsData). f.bitmaps) c.self.view_is) (c.out_from-out.ensures.out k low below))
