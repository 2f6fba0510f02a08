use Rattle.std.proofs.Common.{length}
use Rattle.footpaths.specs.Footpaths.{paths_from}
use Rattle.foot_close.specs.Shortest.{closure_of}
use Rattle.foot_close.proofs.TableLaws.{numbers_push, rows_push}
use Rattle.foot_close.proofs.table.Table.closed_paths.Goals as goal

pub loop-from-preserved : goal.loop-from-preserved
loop-from-preserved c =
    let P = c.args.self.now in
    record {
      change = numbers_push (λ p. closure_of P p p) c.loop-from.change.items c.push.new.self.items c.closed_change.result c.loop-from.from c.loop-from.invariant.change c.in_ok-push.ensures.items c.closed_change.ensures;
      paths = rows_push (λ row. row.items) (paths_from (length P.change) (closure_of P)) c.loop-from.paths.items c.push-in-loop-from.new.self.items c.in_ok-closed_row.field-0 c.loop-from.from c.loop-from.invariant.paths c.in_ok-push-2.ensures.items c.in_ok-closed_row.ensures;
    }
