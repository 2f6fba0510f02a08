use Rattle.std.proofs.Common.{◌≡◌, ◌≤◌, length, map}
use Rattle.footpaths.specs.Footpaths.{numbers}
use Rattle.foot_close.specs.Searching.{IsFresh}
use Rattle.foot_close.specs.Tables.{reached_from}
use Rattle.foot_close.proofs.ClosedLaws.{total_before}
use Rattle.foot_close.proofs.table.reach_all.Given as goal

abbrev pub invariant-loop-from : goal.invariant-loop-from
invariant-loop-from l = record {
  fresh : IsFresh (length l.given.change) l.search;
  rows : map (λ row. row.items) l.rows.items ≡ map (reached_from l.given) (numbers l.from);
  total : l.total ≡ total_before l.given l.from;
  few : l.total ≤ 2000000;
}
