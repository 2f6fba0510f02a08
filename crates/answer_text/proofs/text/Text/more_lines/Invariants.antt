use Rattle.std.proofs.Common.{◌≡◌, ◌++◌, take, flat_map}
use Rattle.answer_text.specs.Checks.{more_line}
use Rattle.answer_text.proofs.text.Text.more_lines.Given as goal

abbrev pub invariant-loop-number : goal.invariant-loop-number
invariant-loop-number l = l.self ≡ l.fn.self ++ flat_map (more_line l.told) (take l.number-index l.numbers)
