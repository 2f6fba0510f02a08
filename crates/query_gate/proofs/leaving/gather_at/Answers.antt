use Rattle.std.proofs.Common.{◌≡◌, length, subst, arith, pos, ◌+ℤ◌}
use Rattle.tb_base.specs.Network.{NetData}
use Rattle.tb_base.specs.declared.table.Path.{Path}
use Rattle.segment_queue.specs.Scans.{line_indices_at}
use Rattle.query_gate.specs.Leaving.{DepartsAt, HaveJoined, IsWithin}
use Rattle.query_gate.proofs.Gathering.{LeavesByLine, lines_gathered}
use Rattle.query_gate.proofs.Joining.{joined_more}
use Rattle.query_gate.proofs.leaving.gather_at.Goals as goal

pub loop-berth-preserved : goal.loop-berth-preserved
loop-berth-preserved g c =
    joined_more (LeavesByLine (g.S.Scan.net c.args.scan.now) c.args.window.now c.args.path.now) c.loop-berth.berth c.args.times.now.items c.loop-berth.times.items c.gather_line.new.times.items c.loop-berth.invariant c.in_ok-gather_line.ensures

pub returns : goal.returns
returns g c =
    let N : NetData = g.S.Scan.net c.args.scan.now in
    let path : Path = c.args.path.now in
    let all : c.loop-berth.berth ≡ length (line_indices_at N.table N.lines path.to) = omega (arith, c.berths-berth-end.ensures) in
    subst (λ U. HaveJoined (λ n. IsWithin c.args.window.now n × DepartsAt U path.to (n +ℤ pos path.secs)) c.args.times.now.items c.loop-berth.times.items) c.requires.table
    (lines_gathered N c.args.window.now path c.soundness.ensures.divided c.loop-berth.berth c.args.times.now.items c.loop-berth.times.items all c.loop-berth.invariant)
