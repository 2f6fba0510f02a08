use Rattle.std.proofs.Common.{◌≡◌, take}
use Rattle.answer_text.specs.Checks.{bad_rows}
use Rattle.answer_text.proofs.checks.bad_rows.Given as goal

abbrev pub invariant-loop-fault : goal.invariant-loop-fault
invariant-loop-fault l = l.rows ≡ bad_rows (take l.fault-index l.faults) l.file
