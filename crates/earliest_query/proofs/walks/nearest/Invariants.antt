use Rattle.std.proofs.Common.{◌≤◌, take}
use Rattle.std.specs.Prelude.{IfSome}
use Rattle.earliest_query.specs.Choices.{IsNearest}
use Rattle.earliest_query.proofs.walks.nearest.Given as goal

abbrev pub invariant-loop-target : goal.invariant-loop-target
invariant-loop-target g l = record {
  nearest : IsNearest (g.S.Scan.net l.scan).table l.p (take l.target-index l.targets) l.best;
  at_most_a_day : IfSome l.best (λ f. f.secs ≤ 86400);
}
