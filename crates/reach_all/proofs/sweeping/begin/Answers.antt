use Rattle.std.proofs.Common.{◌≡◌, ◌∙◌, List, [], length, replicate, sym, ap, subst}
use Rattle.tb_base.specs.Network.{NetData}
use Rattle.tb_base.specs.declared.query.Value.{Value}
use Rattle.segment_queue.specs.Queue.{DeskData}
use Rattle.reach_all.specs.Swept.{AreRidden, AreRounds}
use Rattle.reach_all.proofs.Ridden.{ridden_none, rounds_none}
use Rattle.reach_all.proofs.sweeping.begin.Goals as goal

pub returns-clause-down : goal.returns-clause-down
returns-clause-down g c = λ rides.
    let N : NetData = g.S.Scan.net c.args.scan.now in
    let D : DeskData = c.begin.new.desk in
    let lists : List (List Value) = c.in_ok-arrivals.arrivals in
    let none : length D.segments ≡ 0 = ap length c.begin.ensures.no_segments in
    record {
      sweep = c.in_ok-begin.ensures.begun;
      ridden = subst (λ n. AreRidden N.table c.args.query.now rides D n lists) (sym none) (ridden_none N.table c.args.query.now rides D lists (c.in_ok-arrivals.ensures ∙ ap (λ n. replicate n []) c.shape.ensures.stops));
      noted = subst (AreRounds D) (sym c.new-2.ensures.items) (rounds_none D);
      all = ap length c.new-2.ensures.items ∙ sym none;
    }
