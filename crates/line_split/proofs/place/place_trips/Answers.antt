use Rattle.std.proofs.Common.{◌∙◌, ap, sym, subst, refl, length, replicate, []}
use Rattle.line_split.specs.Floors.{AreFloors}
use Rattle.line_split.specs.Buckets.{AreBucketed}
use Rattle.line_split.proofs.Placing.{bucketed_yet}
use Rattle.line_split.proofs.FloorLemmas.{no_floors_yet, replicated}
use Rattle.line_split.proofs.place.place_trips.Goals as goal

pub loop-trip-init : goal.loop-trip-init
loop-trip-init c =
    let T = c.args.table.now in
    let count = c.args.count in
    let floors = c.in_ok-floors.floors.items in
    record {
      placed = c.new-lines.ensures;
      room = ap length c.in_ok-buckets.ensures ∙ replicated [] count;
      bucketed = subst (λ ls. AreBucketed T c.args.numbers.now ls c.in_ok-buckets.buckets) (sym c.new-lines.ensures)
          (subst (λ bs. AreBucketed T c.args.numbers.now [] bs) (sym c.in_ok-buckets.ensures) (bucketed_yet T c.args.numbers.now count));
      floors = subst (λ ls. AreFloors T ls c.in_ok-buckets.buckets floors) (sym c.new-lines.ensures)
          (subst (λ bs. AreFloors T [] bs floors) (sym c.in_ok-buckets.ensures)
          (subst (λ fs. AreFloors T [] (replicate count []) fs) (sym c.in_ok-floors.ensures) (no_floors_yet T count count refl)));
    }
