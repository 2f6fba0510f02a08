use Rattle.std.proofs.Common.{◌≡◌, subst, arith, map, suc, ◌-◌, ◌++◌, flat_map}
use Rattle.tb_base.specs.Transfers.{candidates, numbers_down, transfers_of}
use Rattle.tb_laws.specs.Rows.{transfer_by_hop}
use Rattle.transfer_make.proofs.ByBerth.{events_more}
use Rattle.transfer_make.proofs.make.Goals as goal

pub loop-at-preserved : goal.loop-at-preserved
loop-at-preserved c =
    let T = c.args.table.now in
    let t = c.args.trip in
    let inv = c.loop-at.invariant in
    let one_less : c.loop-at.at ≡ suc (c.loop-at.at - 1) = omega arith in
    record {
      within = omega (arith, inv.within);
      rows = events_more (λ i. map (transfer_by_hop c.args.trip i) (candidates c.args.table.now c.args.lines.now.lines c.args.trip i)) (c.loop-at.at - 1) c.loop-at.rows.items _ c.add_event.new.rows.items
          (subst (λ k. transfers_of T (candidates T c.args.lines.now.lines t) t ≡ c.loop-at.rows.items ++ flat_map (λ i. map (transfer_by_hop t i) (candidates T c.args.lines.now.lines t i)) (numbers_down k)) one_less inv.rows)
          c.in_ok-add_event.ensures;
    }
