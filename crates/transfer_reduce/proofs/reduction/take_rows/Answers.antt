use Rattle.std.proofs.Common.{◌≡◌, ◌++◌, Bool, false, IsTrue, subst, drop, take}
use Rattle.transfer_reduce.specs.Reduced.{HasRowAt, IsReducedTo, rows_below}
use Rattle.transfer_reduce.proofs.Steps.{event_done}
use Rattle.transfer_reduce.proofs.reduction.take_rows.Goals as goal

clash : (b : Bool) → b ≡ false → IsTrue b → ⊥
clash b f h = cc

pub returns-clause-reduces : goal.returns-clause-reduces
returns-clause-reduces g c = λ lines t n before r.
    let T = c.args.table.now in
    let inv = c.loop-labels.invariant in
    let next = c.loop-labels.next in
    let rows = c.loop-labels.rows in
    let away : HasRowAt c.loop-labels.rows c.loop-labels.next.at c.loop-labels.next.taken → ⊥ = λ h. clash c.has_row.result c.loop-labels-test.false (c.has_row.ensures.1 h) in
    subst (λ m. IsReducedTo T lines t m (before ++ take next.kept rows) c.loop-labels.labels.times × (drop next.taken rows ≡ rows_below T lines t n)) inv.at
    (event_done T c.soundness.ensures lines t before rows c.loop-labels.labels.times n next.at next.taken next.kept away (inv.reduces lines t n before r))
