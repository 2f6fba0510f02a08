use Rattle.std.proofs.Common.{◌≡◌, ◌∙◌, ◌++◌, ◌<◌, refl, sym, subst, rules}
use Rattle.history.proofs.Lists.{extends_self, extends_trans}
use Rattle.tb_io.proofs.Pieces.{consumes_more}
use Rattle.live_turns.specs.Turns.{IsTurnOf}
use Rattle.live_turns.proofs.Turns.{closes, goes_on, start}
use Rattle.live_turns.specs.LiveTurns.{FailsToGoOn, IsLiveTurn}
use Rattle.live_turns.proofs.LiveRuns.{cut_by}
use Rattle.live_turns.proofs.live.running.run_on.Goals as goal

pub loop-turn-init : goal.loop-turn-init
loop-turn-init g c = (
  start (IsLiveTurn c.args.side.now.mode) (g.S.Source.left c.args.source.now) (g.O.Sink.written c.args.sink.now) c.args.intake.now c.args.side.now c.requires.begins,
  refl,
  c.requires.lanes,
  extends_self c.args.side.now.live.kept,
  refl,
  refl,
)

pub loop-turn-preserved : goal.loop-turn-preserved
loop-turn-preserved g c =
    let l = c.loop-turn in
    let i = l.invariant in
    let n = c.next_turn.new in
    let left = g.S.Source.left in
    let written = g.O.Sink.written in
    let a = c.args.side.now in
    let turn = subst (λ m. IsTurnOf (IsLiveTurn m) (left l.source) (left n.source) l.intake n.intake (written l.sink) (written n.sink) l.side n.side c.in-Ok-true.field-0) i.1 c.in-Ok-true.ensures.turn in
    let source : g.S.Source.faults n.source ≡ g.S.Source.faults l.source = search rules in
    let sink : g.O.Sink.faults n.sink ≡ g.O.Sink.faults l.sink = search rules in (
      goes_on (IsLiveTurn a.mode) c.args.intake.now.most (left c.args.source.now) (left l.source) (left n.source) l.intake n.intake (written c.args.sink.now) (written l.sink) (written n.sink) a l.side n.side c.in-Ok-true.field-0 i.0 turn c.in-Ok-true.field-0-test,
      c.next_turn.ensures.mode ∙ i.1,
      subst (λ k. 0 < k) (sym c.in-Ok-true.ensures.lanes) i.2,
      extends_trans a.live.kept l.side.live.kept n.side.live.kept c.next_turn.ensures.later i.3,
      source ∙ i.4,
      sink ∙ i.5,
    )

pub returns-in-Ok-false-clause-whole : goal.returns-in-Ok-false-clause-whole
returns-in-Ok-false-clause-whole g c =
    let l = c.loop-turn in
    let i = l.invariant in
    let n = c.next_turn.new in
    let left = g.S.Source.left in
    let written = g.O.Sink.written in
    let a = c.args.side.now in
    let turn = subst (λ m. IsTurnOf (IsLiveTurn m) (left l.source) (left n.source) l.intake n.intake (written l.sink) (written n.sink) l.side n.side c.in-Ok-false.field-0) i.1 c.in-Ok-false.ensures.turn in
    closes (IsLiveTurn a.mode) c.args.intake.now.most (left c.args.source.now) (left l.source) (left n.source) l.intake n.intake (written c.args.sink.now) (written l.sink) (written n.sink) a l.side n.side c.in-Ok-false.field-0 i.0 turn c.in-Ok-false.field-0-test

pub returns-in-Err-clause-cut : goal.returns-in-Err-clause-cut
returns-in-Err-clause-cut g c =
    let l = c.loop-turn in
    let i = l.invariant in
    let n = c.next_turn.new in
    let left = g.S.Source.left in
    let written = g.O.Sink.written in
    let a = c.args.side.now in
    let failed = subst (λ m. FailsToGoOn c.in-Err.cause m (left l.source) (left n.source) l.intake n.intake (written l.sink) (written n.sink) l.side n.side) i.1 c.in-Err.ensures.failed in
    cut_by a.mode c.in-Err.cause c.args.intake.now.most (left c.args.source.now) (left l.source) (left n.source) l.intake n.intake (written c.args.sink.now) (written l.sink) (written n.sink) a l.side n.side i.0 failed

pub returns-in-Err-clause-taken : goal.returns-in-Err-clause-taken
returns-in-Err-clause-taken g c =
    let h = c.loop-turn.invariant.0 in
    let t = c.next_turn.ensures.taken in
    let left = g.S.Source.left in
    (h.bytes ++ t.0, consumes_more (left c.args.source.now) (left c.loop-turn.source) (left c.next_turn.new.source) h.bytes t.0 h.taken t.1)
