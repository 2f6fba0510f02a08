use Rattle.std.proofs.Common.{◌≡◌, ◌++◌, take, map, flat_map}
use Rattle.answer_text.specs.Builds.{build_text, transfers_text}
use Rattle.answer_text.proofs.builds.build_list_text.Given as goal

abbrev pub invariant-loop-rows : goal.invariant-loop-rows
invariant-loop-rows l = l.text ≡ build_text l.table l.fn.counts ++ flat_map (transfers_text l.table) (map (λ row. row.items) (take l.rows-index l.lists))
