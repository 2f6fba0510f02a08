use Rattle.std.proofs.Common.{◌∙◌, ◌+◌, ◌≤◌, ◌++◌, sym, arith, subst, map, take, ap}
use Rattle.std.proofs.lemmas.List.{append-nil, with_items_is}
use Rattle.tb_base.specs.Transfers.{candidates_without_u_turns}
use Rattle.tb_laws.specs.Rows.{transfer_by_hop}
use Rattle.transfer_reduce.specs.Reduced.{IsReducedTo}
use Rattle.transfer_reduce.proofs.reduction.reduce_event.Goals as goal

pub returns-clause-reduced : goal.returns-clause-reduced
returns-clause-reduced g c = λ lines before is r.
    let T = c.args.table.now in
    let t = c.args.trip in
    let at = c.args.at in
    let least : 0 ≤ c.args.at = omega arith in
    let first = subst (λ ys. IsReducedTo T lines t (at + 1) ys c.args.labels.now.times) (sym (append-nil before)) r in
    let both = c.take_event-done.ensures.reduced lines 0 before least (c.as_mut_slice.ensures.value ∙ is ∙ sym (append-nil (map (transfer_by_hop t at) (candidates_without_u_turns T lines t at)))) first in
    let now = with_items_is c.args.rows.now c.take_event-done.new.rows (c.take_event-done.auto.rows ∙ c.as_mut_slice.ensures.len) in
    subst (λ ys. IsReducedTo T lines t at (before ++ ys) c.take_event-done.new.labels.times) (sym (c.truncate.ensures.items ∙ ap (take c.take_event-done.result.kept) now)) both.0
