use Rattle.std.proofs.Common.{◌∙◌, sym, ap, subst, true, false, get_or, ◌+◌}
use Rattle.std.proofs.lemmas.List.{get_or_default}
use Rattle.tb_base.specs.declared.transfer.Transfer.{Transfer}
use Rattle.transfer_reduce.specs.Reduced.{Reduces}
use Rattle.transfer_reduce.proofs.Steps.{take_step}
use Rattle.transfer_reduce.proofs.reduction.take_row.Goals as goal

pub returns-then-not-offer_hop-clause-reduces : goal.returns-then-not-offer_hop-clause-reduces
returns-then-not-offer_hop-clause-reduces g c =
    let read = c.index-rows-done.result in
    let x = get_or c.args.rows.now c.args.done.taken read in
    let is = get_or_default c.args.rows.now c.args.done.taken read x c.requires.taken in
    let here = ap (λ (r : Transfer). r.at) (get_or_default c.args.rows.now c.args.done.taken read (record { trip = 0; at = 0; to_trip = 0; to_at = 0 }) c.requires.taken) ∙ c.requires.here.1 in
    λ lines t n before r.
    take_step c.args.table.now c.soundness.ensures lines t before c.args.rows.now c.args.labels.now.times c.offer_hop.new.labels.times n c.args.done.at c.args.done.taken c.args.done.kept x
    c.requires.taken c.requires.kept is here c.offer_hop.ensures.shown false (λ ess shown. sym c.if-not-offer_hop.true ∙ c.offer_hop.ensures.sooner ess shown) r

pub returns-clause-reduces : goal.returns-clause-reduces
returns-clause-reduces g c =
    let read = c.index-rows-done.result in
    let x = get_or c.args.rows.now c.args.done.taken read in
    let is = get_or_default c.args.rows.now c.args.done.taken read x c.requires.taken in
    let here = ap (λ (r : Transfer). r.at) (get_or_default c.args.rows.now c.args.done.taken read (record { trip = 0; at = 0; to_trip = 0; to_at = 0 }) c.requires.taken) ∙ c.requires.here.1 in
    let moved = c.put_row.ensures read in
    λ lines t n before r.
    subst (λ rows. Reduces c.args.table.now lines t before rows c.offer_hop.new.labels.times n c.args.done.at (c.args.done.taken + 1) (c.args.done.kept + 1)) (sym moved)
    (take_step c.args.table.now c.soundness.ensures lines t before c.args.rows.now c.args.labels.now.times c.offer_hop.new.labels.times n c.args.done.at c.args.done.taken c.args.done.kept x
    c.requires.taken c.requires.kept is here c.offer_hop.ensures.shown true (λ ess shown. sym c.if-not-offer_hop.false ∙ c.offer_hop.ensures.sooner ess shown) r)
