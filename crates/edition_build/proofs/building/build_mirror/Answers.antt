use Rattle.std.proofs.Common.{subst, sym}
use Rattle.std.proofs.lemmas.Result.{IfOk-weaker}
use Rattle.edition_store.specs.Mirror.{IsMirror}
use Rattle.edition_build.proofs.building.build_mirror.Goals as goal

pub returns : goal.returns
returns g c =
    IfOk-weaker c.build.result _ _ (λ e same. subst (IsMirror c.args.table.now) (sym same) c.in_ok-mirrored.ensures) c.build.ensures
