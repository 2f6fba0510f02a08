use Rattle.std.proofs.Common.{◌≡◌, ◌≢◌, length, arith}
use Rattle.std.proofs.lemmas.Bool.Decides.{nat_tests}
use Rattle.journey_read.proofs.Faults.{on_none, on_some, none_where_spelt}
use Rattle.journey_read.proofs.rules.fault.Goals as goal

pub returns-then-is_empty-clause-none : goal.returns-then-is_empty-clause-none
returns-then-is_empty-clause-none c =
    let empty : length c.args.legs.now ≡ 0 = grind (arith, nat_tests, c.if-is_empty.ensures) in
    none_where_spelt c.args.table.now c.args.query.now c.soundness.ensures c.args.legs.now c.requires.origins c.fault_of_none.result
    (on_none c.args.table.now c.args.query.now c.args.legs.now c.fault_of_none.result empty c.fault_of_none.ensures)

pub returns-clause-none : goal.returns-clause-none
returns-clause-none c =
    let some : length c.args.legs.now ≢ 0 = grind (arith, nat_tests, c.if-is_empty.ensures) in
    none_where_spelt c.args.table.now c.args.query.now c.soundness.ensures c.args.legs.now c.requires.origins c.first_broken.result
    (on_some c.args.table.now c.args.query.now c.args.legs.now c.first_broken.result some c.first_broken.ensures)
