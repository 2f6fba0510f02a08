use Rattle.std.proofs.Common.{◌≡◌, vec_len}
use Rattle.query_gate.proofs.dealing.desks_for.Given as goal

abbrev pub invariant-loop-lane : goal.invariant-loop-lane
invariant-loop-lane l = vec_len l.desks ≡ l._lane
