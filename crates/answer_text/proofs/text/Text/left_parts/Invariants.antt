use Rattle.std.proofs.Common.{◌≡◌, ◌++◌, drop, false}
use Rattle.answer_text.specs.Checks.{left_parts}
use Rattle.answer_text.proofs.text.Text.left_parts.Given as goal

-- what is said of all files is what was said of the first ones, and then of the others
abbrev pub invariant-loop-file : goal.invariant-loop-file
invariant-loop-file l =
    l.fn.self ++ left_parts false l.faults l.files
    ≡ l.self ++ left_parts l.later l.faults (drop l.file-index l.files)
