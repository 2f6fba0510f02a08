use Rattle.std.proofs.Common.{◌≡◌, take, fold, length, []}
use Rattle.tb_base.specs.Lines.{place_trip}
use Rattle.line_split.specs.Buckets.{AreBucketed}
use Rattle.line_split.specs.Floors.{AreFloors}
use Rattle.line_split.proofs.place.place_trips.Given as goal

abbrev pub invariant-loop-trip : goal.invariant-loop-trip
invariant-loop-trip l = record {
  placed : l.lines ≡ fold (place_trip l.table) [] (take l.trip-index l.order);
  room : length l.buckets ≡ l.count;
  bucketed : AreBucketed l.table l.numbers l.lines l.buckets;
  floors : AreFloors l.table l.lines l.buckets l.floors.items;
}
