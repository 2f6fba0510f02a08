use Rattle.std.proofs.Common.{◌≡◌, ◌∙◌, ℕ, replicate, length, ap, arith}
use Rattle.segment_queue.proofs.Settled.{one_group}
use Rattle.segment_queue.proofs.walk_groups.one_group.Goals as goal

pub returns : goal.returns
returns c =
    let all : c.loop-stop._stop ≡ length c.args.table.now.stops = omega (arith, c.loop-stop-test.false, c.loop-stop.auto._stop-end, c.stop_count-stop-end.ensures) in
    one_group c.args.table.now c.loop-stop.groups.items c.soundness.ensures (c.loop-stop.invariant ∙ ap (λ n. replicate {A = ℕ} n 0) all)
