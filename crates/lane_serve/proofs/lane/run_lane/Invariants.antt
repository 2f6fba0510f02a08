use Rattle.std.proofs.Common.{◌≤◌, length}
use Rattle.std.specs.Prelude.{All}
use Rattle.history.specs.Lists.{Extends}
use Rattle.lane_serve.specs.declared.lane.ReplyText.{ReplyText}
use Rattle.lane_serve.proofs.Runs.{IsSoFar}
use Rattle.lane_serve.proofs.lane.run_lane.Given as goal

abbrev pub invariant-loop-i : goal.invariant-loop-i
invariant-loop-i g l =
    IsSoFar l.caller.kept.list l.requests l.i l.replies.items
    × Extends l.caller.kept l.fn.caller.kept
    × All (λ (r : ReplyText). length l.fn.caller.kept.list ≤ r.edition) l.replies.items
