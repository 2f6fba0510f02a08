use Rattle.std.proofs.Common.{◌≢◌, ◌≡◌, arith}
use Rattle.foot_close.specs.declared.search.Reached.{Reached}
use Rattle.foot_close.specs.Tables.{path_of}
use Rattle.foot_close.proofs.TableLaws.{length_some, length_none, path_there, path_not}
use Rattle.foot_close.proofs.table.other_stops.Goals as goal
use Rattle.foot_close.proofs.table.other_stops.Goals.{then-index, else-index}

pub loop-reached-preserved : goal.loop-reached-preserved
loop-reached-preserved c =
    let r = c.reached-item.result in
    elim c.if-index.branch [
      | then-index w ↦
          let apart : c.args.from ≢ Reached.stop r = (λ e. absurd (omega (arith, e, w.if-index.true))) in
          let more = length_some (path_of c.args.from) c.args.row.now c.loop-reached.reached-index r _ c.loop-reached-test.true c.reached-item.is (path_there c.args.from r apart) in
          record { count = omega (arith, more, w.count-is); bound = omega (arith, w.count-is) }
      | else-index w ↦
          let same : c.args.from ≡ Reached.stop r = omega (arith, w.if-index.false) in
          let more = length_none (path_of c.args.from) c.args.row.now c.loop-reached.reached-index r c.loop-reached-test.true c.reached-item.is (path_not c.args.from r same) in
          record { count = omega (arith, more, w.count-is); bound = omega (arith, w.count-is) }
    ]
