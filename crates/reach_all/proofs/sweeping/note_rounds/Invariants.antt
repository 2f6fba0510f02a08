use Rattle.std.proofs.Common.{◌≡◌, length}
use Rattle.reach_all.specs.Swept.{AreRounds}
use Rattle.reach_all.proofs.sweeping.note_rounds.Given as goal

abbrev pub invariant-loop-n : goal.invariant-loop-n
invariant-loop-n l = record {
  rounds : AreRounds l.desk l.rounds.items;
  all : length l.rounds.items ≡ l.n;
}
