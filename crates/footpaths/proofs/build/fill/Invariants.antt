use Rattle.std.proofs.Common.{◌≡◌, ◌<◌, ◌≤◌, ℕ, [], None, length, map, get_or}
use Rattle.std.specs.Prelude.{filter_map, sum_by}
use Rattle.tb_base.specs.declared.table.Path.{Path}
use Rattle.footpaths.specs.Footpaths.{path_to, numbers, secs_between}
use Rattle.footpaths.specs.BestRules.{slot}
use Rattle.footpaths.proofs.build.fill.Given as goal

abbrev pub invariant-loop-stop : goal.invariant-loop-stop
invariant-loop-stop l = record {
  marks : length l.marks ≡ l.count;
  many : length l.rows ≡ l.count;
  clear : (p : ℕ) → slot l.marks p ≡ None;
  change : l.change.items ≡ map (λ p. secs_between l.linked.stops l.options l.linked.links p p) (numbers l.stop);
  rows : (p : ℕ) → p < l.count → get_or l.rows p [] ≡ filter_map (λ q. path_to p q (secs_between l.linked.stops l.options l.linked.links p q)) (numbers l.stop);
  few : sum_by (λ row. length {A = Path} row) l.rows ≤ 2000000;
}
