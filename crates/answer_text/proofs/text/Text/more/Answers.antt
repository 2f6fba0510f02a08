use Rattle.answer_text.proofs.Checked.{more_joined}
use Rattle.answer_text.proofs.text.Text.more.Goals as goal

pub returns : goal.returns
returns c =
    more_joined c.add.result c.args.number c.args.more c.from.result c.from-2.result c.args.self.now c.labelled.new.self c.labelled-2.new.self c.add.new.self
    c.if-more-eq0.false c.from.ensures c.from-2.ensures c.in_ok-labelled.ensures c.in_ok-labelled-2.ensures c.add.ensures.added
