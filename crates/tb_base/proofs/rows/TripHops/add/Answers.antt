use Rattle.std.proofs.Common.{◌<◌, length, arith}
use Rattle.std.proofs.lemmas.Grind.{common_steps}
use Rattle.tb_base.proofs.Lists.{row_added}
use Rattle.tb_base.proofs.rows.TripHops.add.Goals as goal
use Rattle.tb_base.proofs.rows.TripHops.add.Goals.{in-Ok, in-Err}

pub returns : goal.returns
returns c =
    elim c.match-push.branch [
      | in-Ok w ↦
          let within : c.args.at < length c.self.inside.lists.items = grind (arith, common_steps) in
          rw (w.result-is, ← c.self.view_is) (row_added (λ v. v.items) c.self.inside.lists.items c.args.at c.index_mut-list.result.now c.push.new.self c.args.hop within c.index_mut-list.ensures.value w.in-Ok.ensures.items)
      | in-Err w ↦ rw w.result-is tt
    ]
