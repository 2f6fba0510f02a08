use Rattle.std.specs.Option.{option_copied}
use Rattle.journey_read.specs.Known.{IsKnown}
use Rattle.journey_read.proofs.Passes.{IsPassed}
use Rattle.journey_read.proofs.rules.first_broken.Given as goal

abbrev pub invariant-loop-n : goal.invariant-loop-n
invariant-loop-n l = record {
  passed : IsPassed l.table l.query l.legs l.n (option_copied l.previous) (option_copied l.earlier);
  previous : IsKnown l.table (option_copied l.previous);
  earlier : IsKnown l.table (option_copied l.earlier);
}
