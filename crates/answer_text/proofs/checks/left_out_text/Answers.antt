use Rattle.std.proofs.Common.{◌≢◌, ◌∙◌, arith, length}
use Rattle.std.proofs.lemmas.Bool.Decides.{nat_tests}
use Rattle.answer_text.proofs.Checked.{left_out_joined}
use Rattle.answer_text.proofs.checks.left_out_text.Goals as goal

pub returns : goal.returns
returns c =
    let some : length c.args.faults.now ≢ 0 = grind (arith, nat_tests, c.if-is_empty.ensures) in
    c.into_bytes-2.ensures ∙ left_out_joined c.args.faults.now c.new-text.result c.add.new.self c.left_parts.new.self c.add-2.new.self some
    c.new-text.ensures c.in_ok-add.ensures.added c.in_ok-left_parts.ensures c.in_ok-add-2.ensures.added
