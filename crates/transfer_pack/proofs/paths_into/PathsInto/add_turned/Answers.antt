use Rattle.std.proofs.Common.{◌<◌, length, length-set, subst, sym, arith}
use Rattle.tb_base.specs.declared.table.Path.{Path}
use Rattle.transfer_pack.proofs.Paths.{back, path_added, total_added}
use Rattle.transfer_pack.proofs.paths_into.PathsInto.add_turned.Goals as goal

pub loop-path-preserved : goal.loop-path-preserved
loop-path-preserved c =
    let a = c.in_ok-add.ensures in
    let i = c.loop-path.invariant in
    let f = c.path-item.result in
    let here : f.to < length c.args.self.now = subst (λ (g : Path). g.to < length c.args.self.now) (sym c.path-item.is) (c.requires c.loop-path.path-index f c.loop-path-test.true) in
    let below : f.to < length c.loop-path.self = rw i.stops here in
    let one = total_added c.loop-path.self c.add.new.self f.to (back c.args.p f) below a in
    record {
      stops = rw a (simp length-set i.stops);
      rows = path_added c.args.p c.args.paths.now c.loop-path.path-index f c.loop-path.self c.args.self.now c.add.new.self c.loop-path-test.true c.path-item.is below a i.rows;
      total = omega (arith, one, i.total);
    }
