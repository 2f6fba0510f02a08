use Rattle.std.proofs.Common.{◌∙◌, ap, Some, length, arith}
use Rattle.std.specs.Prelude.{count_by}
use Rattle.tb_base.specs.Walking.{change_between}
use Rattle.foot_close.specs.Closing.{is_lowered}
use Rattle.foot_close.specs.declared.search.Reached.{Reached}
use Rattle.foot_close.proofs.TableLaws.{row_length, row_lowered, whole_row}
use Rattle.foot_close.proofs.table.Table.lowered_from.Goals as goal

pub overflow_add-count : goal.overflow_add-count
overflow_add-count c = omega (arith, ap length c.row-reached-items.ensures, row_length c.args.self.now c.args.from, c.soundness.ensures.sound.few)

pub returns : goal.returns
returns c =
    let P = c.args.self.now in
    let p = c.args.from in
    c.loop-reached.invariant.count
    ∙ (ap (count_by (λ r. is_lowered (change_between P p (Reached.stop r)) (Some (Reached.secs r)))) (whole_row P p c.loop-reached.reached-index c.row-reached-items.result.now c.row-reached-items.ensures c.loop-reached-test.false) ∙ row_lowered P p)
