use Rattle.std.proofs.Common.{◌≡◌, ◌+◌, ◌++◌, take, flat_map}
use Rattle.std.specs.Prelude.{All, sum_by}
use Rattle.live_turns.specs.declared.live.saying.Asked.{Asked}
use Rattle.live_turns.specs.LiveLines.{HasWantedTimes, asked_from, live_counts, live_gives}
use Rattle.live_turns.proofs.live.turn.hear_all.Given as goal

abbrev pub invariant-loop-line : goal.invariant-loop-line
invariant-loop-line g l =
    (l.asked.items ≡ asked_from l.mode l.fn.next (take l.line-index l.lines))
    × All (λ (a : Asked). HasWantedTimes a.wanted) l.asked.items
    × (l.next ≡ l.fn.next + sum_by (live_counts l.mode) (take l.line-index l.lines))
    × (l.giver ≡ l.fn.giver ++ flat_map (live_gives l.mode) (take l.line-index l.lines))
