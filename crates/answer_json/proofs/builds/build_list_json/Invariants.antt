use Rattle.std.proofs.Common.{◌≡◌, ◌++◌, take, map, flat_map}
use Rattle.answer_json.specs.Builds.{build_json, transfers_json}
use Rattle.answer_json.proofs.builds.build_list_json.Given as goal

abbrev pub invariant-loop-rows : goal.invariant-loop-rows
invariant-loop-rows l = l.text ≡ build_json l.table l.fn.counts ++ flat_map (transfers_json l.table) (map (λ row. row.items) (take l.rows-index l.lists))
