use Rattle.std.proofs.Common.{◌≡◌, ◌++◌, take}
use Rattle.answer_json.specs.Checks.{left_members}
use Rattle.answer_json.proofs.checks.add_left_members.Given as goal

abbrev pub invariant-loop-file : goal.invariant-loop-file
invariant-loop-file l = l.text ≡ l.fn.text ++ left_members l.faults (take l.file-index l.files)
