use Rattle.std.proofs.Common.{length-set}
use Rattle.tb_base.proofs.OnePlace.{place_added}
use Rattle.tb_base.proofs.groups.Groups.by_key.Goals as goal

pub loop-i-preserved : goal.loop-i-preserved
loop-i-preserved c =
    let e = c.in-Ok.ensures.added in
    let inv = c.loop-i.invariant in
    record {
      many = rw e (simp length-set inv.many);
      places = λ key h. place_added c.args.keys.now c.loop-i.groups c.add.new.self c.loop-i.i key c.args.count (c.requires.keys c.loop-i.i c.loop-i-test.true) inv.many e inv.places h;
    }
