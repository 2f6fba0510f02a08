use Rattle.std.proofs.Common.{◌≡◌, length, drop, map, option_map, ◌++◌}
use Rattle.command_line.specs.Plans.{planned_items}
use Rattle.command_line.proofs.plan.planned_items.Given as goal

abbrev pub invariant-loop-word : goal.invariant-loop-word
invariant-loop-word l = record {
  items : planned_items (map (λ word. word.now) l.words) ≡ option_map (λ rest. l.items.items ++ rest) (planned_items (map (λ word. word.now) (drop l.word-index l.words)));
  count : length l.items.items ≡ l.word-index;
}
