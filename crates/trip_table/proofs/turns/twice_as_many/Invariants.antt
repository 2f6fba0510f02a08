use Rattle.std.proofs.Common.{◌≡◌, ◌+◌, ◌<◌, ℕ, length, get_or}
use Rattle.trip_table.proofs.turns.twice_as_many.Given as goal

abbrev pub invariant-loop-i : goal.invariant-loop-i
invariant-loop-i l = record {
  long : length l.more.items ≡ l.i;
  more : (k : ℕ) → k < l.i → get_or l.more.items k 0 ≡ get_or l.steps k 0 + get_or l.steps (get_or l.far k 0) 0;
}
