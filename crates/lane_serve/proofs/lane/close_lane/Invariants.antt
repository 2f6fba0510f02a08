use Rattle.std.proofs.Common.{◌≡◌, take, true}
use Rattle.history.specs.Lists.{Extends}
use Rattle.lane_serve.specs.Lanes.{IsClosing, to_close}
use Rattle.lane_serve.proofs.lane.close_lane.Given as goal

abbrev pub invariant-loop-i : goal.invariant-loop-i
invariant-loop-i g l =
    IsClosing l.last (to_close 1 (take l.i l.requests) (take l.i l.replies)) l.closing.items
    × (l.caller.kept ≡ record { list = l.last; closed = true })
    × Extends l.caller.kept l.fn.caller.kept
