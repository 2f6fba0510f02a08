use Rattle.std.proofs.Common.{◌<◌, length, arith}
use Rattle.std.proofs.lemmas.Grind.{common_steps}
use Rattle.tb_base.proofs.Lists.{row_added}
use Rattle.tb_base.proofs.Nested.{row_kept}
use Rattle.tb_base.proofs.groups.Groups.add.Goals as goal
use Rattle.tb_base.proofs.groups.Groups.add.Goals.{in-Ok, in-Err}

pub returns-clause-added : goal.returns-clause-added
returns-clause-added c =
    elim c.match-push.branch [
      | in-Ok w ↦
          let within : c.args.key < length c.self.inside.rows.items = grind (arith, common_steps) in
          rw (w.result-is, ← c.self.view_is) (row_added (λ v. v.items) c.self.inside.rows.items c.args.key c.index_mut-row.result.now c.push.new.self c.args.place within c.index_mut-row.ensures.value w.in-Ok.ensures.items)
      | in-Err w ↦ rw w.result-is tt
    ]

pub returns-clause-memory : goal.returns-clause-memory
returns-clause-memory c =
    elim c.match-push.branch [
      | in-Ok w ↦ rw w.result-is tt
      | in-Err w ↦ rw (w.result-is, ← c.self.view_is) (row_kept (λ v. v.items) c.self.inside.rows.items c.args.key c.index_mut-row.result.now c.push.new.self c.index_mut-row.ensures.value w.in-Err.ensures.items)
    ]
