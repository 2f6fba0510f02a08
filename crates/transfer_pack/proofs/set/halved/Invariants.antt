use Rattle.std.proofs.Common.{◌+◌, ◌<◌, ◌≤◌, length}
use Rattle.std.specs.List.{AllWithin}
use Rattle.transfer_pack.proofs.set.halved.Given as goal

abbrev pub invariant-loop-left : goal.invariant-loop-left
invariant-loop-left l =
    (l.first + l.left ≤ length l.spots)
    × AllWithin (λ s. s.end ≤ l.place) l.spots 0 l.first
    × AllWithin (λ s. l.place < s.end) l.spots (l.first + l.left) (length l.spots)

abbrev pub decreases-loop-left : goal.decreases-loop-left
decreases-loop-left l = l.left
