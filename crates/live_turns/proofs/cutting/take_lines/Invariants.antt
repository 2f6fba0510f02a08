use Rattle.std.proofs.Common.{◌≡◌, ◌++◌, ◌≤◌, length, vec_len}
use Rattle.live_turns.specs.Coming.{begun_by, ended}
use Rattle.live_turns.proofs.cutting.take_lines.Given as goal

abbrev pub invariant-loop-fed : goal.invariant-loop-fed
invariant-loop-fed l =
    (ended l.most l.fn.begun.items l.piece ≡ l.lines.items ++ ended l.most l.begun.items l.text)
    × (begun_by l.most l.fn.begun.items l.piece ≡ begun_by l.most l.begun.items l.text)
    × (vec_len l.begun ≤ l.most)

abbrev pub decreases-loop-fed : goal.decreases-loop-fed
decreases-loop-fed l = length l.text
