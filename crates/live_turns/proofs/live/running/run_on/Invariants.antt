use Rattle.std.proofs.Common.{◌≡◌, ◌<◌}
use Rattle.history.specs.Lists.{Extends}
use Rattle.live_turns.proofs.Turns.{IsSoFar}
use Rattle.live_turns.specs.LiveTurns.{IsLiveTurn}
use Rattle.live_turns.proofs.live.running.run_on.Given as goal

abbrev pub invariant-loop-turn : goal.invariant-loop-turn
invariant-loop-turn g l =
    IsSoFar (IsLiveTurn l.fn.side.mode) l.fn.intake.most (g.S.Source.left l.fn.source) (g.S.Source.left l.source) l.intake
    (g.O.Sink.written l.fn.sink) (g.O.Sink.written l.sink) l.fn.side l.side
    × (l.side.mode ≡ l.fn.side.mode) × (0 < l.side.lanes) × Extends l.side.live.kept l.fn.side.live.kept
    × (g.S.Source.faults l.source ≡ g.S.Source.faults l.fn.source) × (g.O.Sink.faults l.sink ≡ g.O.Sink.faults l.fn.sink)
