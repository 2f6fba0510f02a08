use Rattle.std.proofs.Common.{◌≡◌, ◌+◌, ◌++◌, suc, arith, subst, take}
use Rattle.transfer_reduce.specs.Reduced.{IsReducedTo}
use Rattle.transfer_reduce.proofs.Steps.{next_step}
use Rattle.transfer_reduce.proofs.Reaching.{stay_tried}
use Rattle.transfer_reduce.proofs.reduction.take_event.Goals as goal

pub take_rows-requires-clause-tried : goal.take_rows-requires-clause-tried
take_rows-requires-clause-tried g c =
    stay_tried c.args.table.now c.args.trip c.args.done.at c.args.labels.now.times c.offer_stay.new.labels.times c.offer_stay.ensures.none c.offer_stay.ensures.times c.args.tried.now c.requires.tried

pub returns-clause-reduced : goal.returns-clause-reduced
returns-clause-reduced g c =
    let T = c.args.table.now in
    let done = c.args.done in
    let next : c.args.done.at + 1 ≡ suc c.args.done.at = omega arith in
    λ lines n before few left r.
    c.take_rows.ensures.reduces lines c.args.trip n before
    (next_step T c.soundness.ensures lines c.args.trip before c.args.rows.now c.args.labels.now.times c.offer_stay.new.labels.times n done.at done.taken done.kept few left c.offer_stay.ensures.none c.offer_stay.ensures.times
    (subst (λ m. IsReducedTo T lines c.args.trip m (before ++ take done.kept c.args.rows.now) c.args.labels.now.times) next r))
