use Rattle.std.proofs.Common.{◌≡◌, ◌++◌, take, flat_map}
use Rattle.answer_text.specs.Checks.{fault_line}
use Rattle.answer_text.proofs.text.Text.fault_lines.Given as goal

abbrev pub invariant-loop-fault : goal.invariant-loop-fault
invariant-loop-fault l = l.self ≡ l.fn.self ++ flat_map fault_line (take l.fault-index l.faults)
