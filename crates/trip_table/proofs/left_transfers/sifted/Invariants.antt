use Rattle.std.proofs.Common.{◌≡◌, []}
use Rattle.footpaths.specs.Links.{wrong_transfer}
use Rattle.trip_table.specs.Ends.{KnowsEnds}
use Rattle.trip_table.specs.LeftFeed.{sift}
use Rattle.trip_table.specs.Sieves.{after}
use Rattle.trip_table.proofs.left_transfers.sifted.Given as goal

abbrev pub invariant-loop-row : goal.invariant-loop-row
invariant-loop-row l = record {
  passes : after l.fn.told.items (sift (wrong_transfer l.stops []) [] l.fn.rows.items) ≡ after l.told.items (sift (wrong_transfer l.stops []) l.kept.items l.row-iterator.rest.items);
  knows : KnowsEnds l.ids l.seen l.kept.items;
}
