use Rattle.std.proofs.Common.{◌≡◌, ◌≤◌, ◌+◌, length, vec_len}
use Rattle.query_gate.specs.Dealing.{AreDealt}
use Rattle.query_gate.proofs.dealing.seat.Given as goal

abbrev pub invariant-loop-desk : goal.invariant-loop-desk
invariant-loop-desk g l =
    AreDealt 0 l.places.items l.from × (l.from ≤ l.whole) × (l.left ≡ length l.desk-iterator.rest.items)
    × (l.left ≡ 0 → l.from ≡ l.whole) × (vec_len l.places + l.left ≡ vec_len l.fn.desks)
