use Rattle.std.proofs.Common.{◌≡◌, ◌≤◌, ◌-◌, length, take, drop, arith}
use Rattle.std.proofs.lemmas.List.{take_all}
use Rattle.std.proofs.lemmas.Grind.{common_steps}
use Rattle.tb_io.proofs.Pieces.{appends_more, take_both}
use Rattle.tb_io.proofs.put.put_all.Goals as goal

pub loop-at-preserved : goal.loop-at-preserved
loop-at-preserved g c = record {
  within = grind (arith, common_steps);
  faults = grind (arith, common_steps);
  written = rw (take_both c.loop-at.at c.in-Ok.count c.args.bytes.now c.loop-at.invariant.within)
      (appends_more _ _ _ _ _ c.loop-at.invariant.written (let whole : take (length c.args.bytes.now - c.loop-at.at) (drop c.loop-at.at c.args.bytes.now) ≡ drop c.loop-at.at c.args.bytes.now = take_all _ _ (grind (arith, common_steps)) in rw whole at c.in-Ok.ensures.bytes));
}
