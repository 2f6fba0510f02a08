use Rattle.std.proofs.Common.{◌≡◌, take}
use Rattle.lane_serve.specs.Sides.{HasTakenSoFar}
use Rattle.lane_serve.proofs.plan.publish_rest.Given as goal

abbrev pub invariant-loop-i : goal.invariant-loop-i
invariant-loop-i g l =
    HasTakenSoFar (g.F.Folder.files l.fn.folder) l.building (take l.i l.plan) l.outcomes.items (g.P.Publishes.list l.publisher) l.day
    × (g.F.Folder.files l.folder ≡ g.F.Folder.files l.fn.folder)
    × (g.F.Folder.faults l.folder ≡ g.F.Folder.faults l.fn.folder)
