use Rattle.std.proofs.Common.{◌≡◌, ◌<◌, ℕ, length, get_or, []}
use Rattle.tb_base.specs.KeyPlaces.{places_before}
use Rattle.tb_base.proofs.groups.Groups.by_key.Given as goal

abbrev pub invariant-loop-i : goal.invariant-loop-i
invariant-loop-i l = record {
  many : length l.groups ≡ l.count;
  places : (key : ℕ) → key < l.count → get_or l.groups key [] ≡ places_before l.keys l.i key;
}
