use Rattle.std.proofs.Common.{◌≡◌, ◌++◌, length, take}
use Rattle.lane_serve.specs.Served.{AreServed}
use Rattle.lane_serve.proofs.run.close_all.Given as goal

abbrev pub invariant-loop-seated : goal.invariant-loop-seated
invariant-loop-seated g l =
    (l.i ≡ length l.yielded) × (l.yielded ++ l.seated-iterator.rest.items ≡ l.fn.seats.items)
    × AreServed l.last (take l.i l.lanes) l.reports.items l.closings.items
    × (goal.iterator-loop-seated g).can_next l.seated-iterator × (goal.iterator-loop-seated g).is_finite l.seated-iterator
