use Rattle.std.proofs.Common.{◌++◌, codes}
use Rattle.std.specs.Fmt.{decimal}
use Rattle.answer_text.proofs.Joined.{joined, last_joined}
use Rattle.lane_serve.proofs.json.add_closing.Goals as goal

pub returns : goal.returns
returns c =
    let s = c.args.text.now in
    let a = codes "{\"closing\":" in
    let two = joined s c.add.new.self c.number.new.self a (decimal c.args.last) c.in_ok-add.ensures.added c.in_ok-number.ensures.added in
    last_joined c.add-2.result s c.number.new.self c.add-2.new.self (a ++ decimal c.args.last) (codes "}\n") two c.add-2.ensures.added
