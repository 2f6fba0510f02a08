use Rattle.std.proofs.Common.{refl}
use Rattle.history.proofs.Lists.{extends_self}
use Rattle.live_turns.proofs.LiveRuns.{fails_on, none_come}
use Rattle.live_turns.proofs.live.running.next_turn.Goals as goal

pub returns-in-Ok-clause-failed : goal.returns-in-Ok-clause-failed
returns-in-Ok-clause-failed g c =
    fails_on c.args.side.now.mode c.in-Err.cause _ _ _ _ _ _ _ _ _ c.in-Ok.lines.items c.in-Ok.more c.as_slice.ensures.value c.in-Ok.ensures.comes c.in-Err.ensures.failed

pub returns-clause-failed : goal.returns-clause-failed
returns-clause-failed g c =
    let side = c.args.side.now in
    (refl, extends_self side.live.kept, none_come side.mode (g.S.Source.left c.args.source.now) (g.S.Source.left c.next_lines.new.source) c.args.intake.now c.next_lines.new.self side)
