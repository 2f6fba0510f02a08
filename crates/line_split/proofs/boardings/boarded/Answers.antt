use Rattle.std.proofs.Common.{sym, ap, subst, ◌∙◌, take, ◌+◌}
use Rattle.line_split.specs.Layout.{AreBoardings}
use Rattle.line_split.proofs.BerthLemmas.{not_boarded, one_boarded}
use Rattle.line_split.proofs.boardings.boarded.Goals as goal
use Rattle.line_split.proofs.boardings.boarded.Goals.{then-is_boarded+in_ok-push, else-is_boarded}

pub loop-berth-preserved : goal.loop-berth-preserved
loop-berth-preserved c =
    let T = c.args.table.now in
    let lines = c.args.lines.now in
    let k = c.loop-berth.berth-index in
    let b = c.berth-item.result in
    elim c.if-is_boarded.branch [
      | then-is_boarded+in_ok-push w ↦ one_boarded T lines c.args.berths.now k b c.loop-berth-test.true c.berth-item.is c.loop-berth.row.items c.loop-berth.invariant w.boarding_at.result c.if-is_boarded.row.items
          (sym c.is_boarded.ensures ∙ w.if-is_boarded.true) w.boarding_at.ensures.berth w.boarding_at.ensures.boarding (ap (λ r. r.items) w.row-is ∙ w.in_ok-push.ensures.items)
      | else-is_boarded w ↦ subst (λ r. AreBoardings T lines (take (k + 1) c.args.berths.now) r.items) (sym w.row-is) (not_boarded T lines c.args.berths.now k b c.loop-berth-test.true c.berth-item.is c.loop-berth.row.items c.loop-berth.invariant (sym c.is_boarded.ensures ∙ w.if-is_boarded.false))
    ]
