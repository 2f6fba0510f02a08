use Rattle.std.proofs.Common.{◌<◌, length, arith}
use Rattle.std.proofs.lemmas.Grind.{common_steps}
use Rattle.tb_base.proofs.Lists.{row_added}
use Rattle.line_split.proofs.nested.Nested.add.Goals as goal

pub returns : goal.returns
returns g c =
    let within : c.args.i < length c.self.inside.rows.items = grind (arith, common_steps) in
    rw (← c.self.view_is) (row_added (λ v. v.items) c.self.inside.rows.items c.args.i c.index_mut-row.result.now c.push.new.self c.args.item within c.index_mut-row.ensures.value c.in_ok-push.ensures.items)
