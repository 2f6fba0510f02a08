use Rattle.std.proofs.Common.{ℕ, List, sym, subst}
use Rattle.tb_base.specs.Lines.{AreDividedInto, AreLines}
use Rattle.tb_base.specs.Sufficiency.{AreSufficient}
use Rattle.tb_base.specs.TimetableData.{TimetableData}
use Rattle.tb_laws.proofs.KeptLaws.{kept_hops_sufficient}
use Rattle.edition_store.proofs.network.Network.with_groups.Goals as goal

pub invariant_of-result : goal.invariant_of-result
invariant_of-result c =
    let T : TimetableData = c.args.table in
    let lines : List (List ℕ) = c.args.lines.lines in
    let divided : AreDividedInto T lines = subst (λ (t : TimetableData). AreDividedInto t lines) c.requires.lines c.soundness-2.ensures.divided in (
      c.requires.lines,
      c.requires.set,
      c.requires.groups,
      record {
        sound = c.soundness.ensures;
        lines = subst (λ (t : TimetableData). AreLines t lines) c.requires.lines c.soundness-2.ensures.lines;
        hops = c.requires.hops;
        sufficient = subst (AreSufficient T) (λ k t i. sym (c.requires.hops t i) k) (kept_hops_sufficient T lines c.soundness.ensures divided);
      },
    )
