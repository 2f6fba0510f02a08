use Rattle.std.proofs.Common.{◌++◌, codes}
use Rattle.answer_json.specs.Frames.{count_json}
use Rattle.answer_text.proofs.Joined.{joined, last_joined}
use Rattle.router_cli.specs.LateTrips.{amended_json}
use Rattle.router_cli.proofs.late_trips.add_amended.Goals as goal

pub returns : goal.returns
unfolding amended_json
returns c =
    let s = c.args.text.now in
    let a = codes "{\"edition\":2" in
    let redone = count_json (codes "redone") c.args.redone in
    let kept = count_json (codes "kept") c.args.kept in
    let two = joined s c.add.new.self c.add_count.new.text a redone c.in_ok-add.ensures.added c.in_ok-add_count.ensures in
    let three = joined s c.add_count.new.text c.add_total.new.text (a ++ redone) kept two c.in_ok-add_total.ensures in
    last_joined c.add-2.result s c.add_total.new.text c.add-2.new.self (a ++ redone ++ kept) (codes "}\n") three c.add-2.ensures.added
