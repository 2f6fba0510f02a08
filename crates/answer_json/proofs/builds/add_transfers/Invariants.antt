use Rattle.std.proofs.Common.{◌≡◌, ◌++◌, take}
use Rattle.answer_json.specs.Builds.{transfers_json}
use Rattle.answer_json.proofs.builds.add_transfers.Given as goal

abbrev pub invariant-loop-row : goal.invariant-loop-row
invariant-loop-row l = l.text ≡ l.fn.text ++ transfers_json l.table (take l.row-index l.rows)
