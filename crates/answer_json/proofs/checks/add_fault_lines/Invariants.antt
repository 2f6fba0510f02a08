use Rattle.std.proofs.Common.{◌≡◌, ◌++◌, take, flat_map}
use Rattle.answer_json.specs.Checks.{fault_json_line}
use Rattle.answer_json.proofs.checks.add_fault_lines.Given as goal

abbrev pub invariant-loop-fault : goal.invariant-loop-fault
invariant-loop-fault l = l.text ≡ l.fn.text ++ flat_map fault_json_line (take l.fault-index l.faults)
