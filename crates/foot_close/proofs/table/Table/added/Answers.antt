use Rattle.std.proofs.Common.{length, arith}
use Rattle.std.specs.Prelude.{count_by}
use Rattle.footpaths.specs.Footpaths.{numbers}
use Rattle.tb_base.specs.Walking.{change_between}
use Rattle.foot_close.specs.Shortest.{closure_of}
use Rattle.foot_close.specs.Closing.{is_added}
use Rattle.foot_close.proofs.TableLaws.{sum_numbers_more, count_numbers}
use Rattle.foot_close.proofs.table.Table.added.Goals as goal

pub loop-from-preserved : goal.loop-from-preserved
loop-from-preserved c =
    let P = c.args.self.now in
    let more = sum_numbers_more (λ p. count_by (λ q. is_added (change_between P p q) (closure_of P p q)) (numbers (length P.change))) c.loop-from.from in
    let few = count_numbers (λ q. is_added (change_between P c.loop-from.from q) (closure_of P c.loop-from.from q)) (length P.change) in
    record {
      count = omega (arith, c.loop-from.invariant.count, more, c.from-count.ensures, c.added_from.ensures);
      bound = omega (arith, c.loop-from.invariant.bound, few, c.from-count.ensures, c.added_from.ensures, c.soundness.ensures.sound.few);
    }
