use Rattle.std.proofs.Common.{◌<◌, length, arith}
use Rattle.std.proofs.lemmas.Grind.{common_steps}
use Rattle.tb_base.proofs.Lists.{row_added}
use Rattle.transfer_pack.proofs.paths_into.PathsInto.add.Goals as goal
use Rattle.transfer_pack.proofs.paths_into.PathsInto.add.Goals.{in-Ok, in-Err}

pub returns : goal.returns
returns c =
    elim c.match-push.branch [
      | in-Ok w ↦
          let within : c.index.result < length c.self.inside.rows.items = grind (arith, common_steps) in
          rw (w.result-is, ← c.self.view_is, ← c.index.ensures) (row_added (λ v. v.items) c.self.inside.rows.items c.index.result c.index_mut-row.result.now c.push.new.self c.args.path within c.index_mut-row.ensures.value w.in-Ok.ensures.items)
      | in-Err w ↦ rw w.result-is tt
    ]
