use Rattle.std.proofs.Common.{◌≡◌, ◌++◌, flat_map, take}
use Rattle.reach_all.specs.Text.{value_text}
use Rattle.reach_all.proofs.text.add_values.Given as goal

abbrev pub invariant-loop-value : goal.invariant-loop-value
invariant-loop-value l = l.text ≡ l.fn.text ++ flat_map value_text (take l.value-index l.values)
