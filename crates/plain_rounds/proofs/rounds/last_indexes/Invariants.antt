use Rattle.std.proofs.Common.{◌≡◌, map, take}
use Rattle.plain_rounds.specs.Rounds.{last_index}
use Rattle.plain_rounds.proofs.rounds.last_indexes.Given as goal

abbrev pub invariant-loop-t : goal.invariant-loop-t
invariant-loop-t l = l.boarded_at.items ≡ map last_index (take l.t l.table.trips)
