use Rattle.std.proofs.Common.{◌≡◌, ◌+◌, ◌≤◌, [], length, map}
use Rattle.trip_table.specs.LeftFeed.{sift}
use Rattle.trip_table.specs.References.{wrong_twice}
use Rattle.trip_table.specs.Sieves.{after}
use Rattle.trip_table.proofs.distinct.without_twins.Given as goal

abbrev pub invariant-loop-row : goal.invariant-loop-row
invariant-loop-row g l = record {
  ids : l.ids ≡ map g.R.Identified.id l.kept.items;
  passes : after l.fn.told.items (sift (wrong_twice g.R.Identified.id g.R.Identified.duplicate) [] l.fn.rows.items)
      ≡ after l.told.items (sift (wrong_twice g.R.Identified.id g.R.Identified.duplicate) l.kept.items l.row-iterator.rest.items);
  few : length l.kept.items + length l.row-iterator.rest.items ≤ length l.fn.rows.items;
}
