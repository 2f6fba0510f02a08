use Rattle.answer_json.proofs.Checked.{more_joined}
use Rattle.answer_json.proofs.checks.add_more.Goals as goal

pub returns : goal.returns
returns c =
    more_joined c.add-2.result c.args.number c.args.more c.from.result c.args.text.now c.add.new.self c.number.new.self c.add_count.new.text c.add-2.new.self
    c.if-more-eq0.false c.from.ensures c.in_ok-add.ensures.added c.in_ok-number.ensures.added c.in_ok-add_count.ensures c.add-2.ensures.added
