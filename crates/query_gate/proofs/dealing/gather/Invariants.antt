use Rattle.std.proofs.Common.{◌≡◌, ◌+◌, length, take, vec_len}
use Rattle.query_gate.specs.Dealing.{AreAnswered, AreReplies}
use Rattle.query_gate.proofs.dealing.gather.Given as goal

abbrev pub invariant-loop-place : goal.invariant-loop-place
invariant-loop-place g l =
    AreAnswered (g.O.Office.right l._office) l.requests l.at l.place-iterator.rest.items (length l.requests)
    × AreReplies (g.O.Office.right l._office) (take l.at l.requests) l.all.items
    × (vec_len l.desks + length l.place-iterator.rest.items ≡ vec_len l.fn.places)
