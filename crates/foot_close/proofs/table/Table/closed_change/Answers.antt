use Rattle.std.proofs.Common.{◌≡◌, arith}
use Rattle.foot_close.specs.declared.search.Reached.{Reached}
use Rattle.foot_close.proofs.TableLaws.{near_secs, own_found, own_none}
use Rattle.foot_close.proofs.table.Table.closed_change.Goals as goal

pub overflow_cast-result : goal.overflow_cast-result
overflow_cast-result c =
    (let day = near_secs c.args.self.now c.args.from c.loop-reached.reached-index c.reached-item.result c.row-reached-items.result.now c.row-reached-items.ensures c.loop-reached-test.true c.reached-item.is c.requires.near in omega (arith, day))

pub returns-then-index : goal.returns-then-index
returns-then-index c =
    let same : Reached.stop c.reached-item.result ≡ c.args.from = omega (arith, c.if-index.true) in
    own_found c.args.self.now c.args.from c.loop-reached.reached-index c.reached-item.result c.row-reached-items.result.now c.row-reached-items.ensures c.requires.from c.loop-reached-test.true c.reached-item.is same c.loop-reached.invariant

pub returns : goal.returns
returns c = own_none c.args.self.now c.args.from c.loop-reached.reached-index c.row-reached-items.result.now c.row-reached-items.ensures c.requires.from c.loop-reached-test.false c.loop-reached.invariant
