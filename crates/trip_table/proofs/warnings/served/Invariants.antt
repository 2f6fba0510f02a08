use Rattle.std.proofs.Common.{◌≡◌, ◌<◌, ℕ, take, get_or, length, false}
use Rattle.trip_table.specs.Warnings.{is_served}
use Rattle.trip_table.proofs.warnings.served.Given as goal

abbrev pub invariant-loop-time : goal.invariant-loop-time
invariant-loop-time l = record {
  many : length l.marks.items ≡ l.platforms;
  marks : (p : ℕ) → p < l.platforms → get_or l.marks.items p false ≡ is_served (take l.time-index l.times) p;
}
