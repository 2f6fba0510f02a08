use Rattle.std.proofs.Common.{◌≢◌, ◌∙◌, arith, length}
use Rattle.std.proofs.lemmas.Bool.Decides.{nat_tests}
use Rattle.answer_json.proofs.Checked.{left_out_joined}
use Rattle.answer_json.proofs.checks.left_out_json.Goals as goal

pub returns : goal.returns
returns c =
    let some : length c.args.faults.now ≢ 0 = grind (arith, nat_tests, c.if-is_empty.ensures) in
    c.into_bytes-2.ensures ∙ left_out_joined c.args.faults.now c.new-text.result c.add.new.self c.add_left_members.new.text c.add-2.new.self some
    c.new-text.ensures c.in_ok-add.ensures.added c.in_ok-add_left_members.ensures c.in_ok-add-2.ensures.added
