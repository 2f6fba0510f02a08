use Rattle.std.proofs.Common.{◌≡◌, ◌++◌, take, flat_map}
use Rattle.answer_json.specs.Checks.{more_json_line}
use Rattle.answer_json.proofs.checks.add_more_lines.Given as goal

abbrev pub invariant-loop-number : goal.invariant-loop-number
invariant-loop-number l = l.text ≡ l.fn.text ++ flat_map (more_json_line l.told) (take l.number-index l.numbers)
