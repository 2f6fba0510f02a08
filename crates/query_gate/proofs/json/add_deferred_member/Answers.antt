use Rattle.std.proofs.Common.{codes}
use Rattle.std.specs.Fmt.{decimal}
use Rattle.answer_text.proofs.Joined.{last_joined}
use Rattle.query_gate.proofs.json.add_deferred_member.Goals as goal

pub returns : goal.returns
returns c =
    last_joined c.number.result c.args.text.now c.add.new.self c.number.new.self (codes "\"deferred\":") (decimal c.args.number) c.in_ok-add.ensures.added c.number.ensures.added
