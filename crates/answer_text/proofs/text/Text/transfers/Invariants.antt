use Rattle.std.proofs.Common.{◌≡◌, ◌++◌, take}
use Rattle.answer_text.specs.Builds.{transfers_text}
use Rattle.answer_text.proofs.text.Text.transfers.Given as goal

abbrev pub invariant-loop-row : goal.invariant-loop-row
invariant-loop-row l = l.self ≡ l.fn.self ++ transfers_text l.table (take l.row-index l.rows)
