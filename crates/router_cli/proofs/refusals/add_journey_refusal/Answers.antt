use Rattle.std.proofs.Common.{◌++◌, codes}
use Rattle.answer_text.proofs.Joined.{joined, last_joined}
use Rattle.router_cli.specs.Refusals.{journey_fault_json, status_head}
use Rattle.router_cli.proofs.refusals.add_journey_refusal.Goals as goal

pub returns : goal.returns
returns c =
    let s = c.args.text.now in
    let head = status_head 9 (codes "journey refused") in
    let fault = journey_fault_json c.args.fault in
    let two = joined s c.add_head.new.text c.add.new.self head (codes ",\"fault\":") c.in_ok-add_head.ensures c.in_ok-add.ensures.added in
    let three = joined s c.add.new.self c.add_journey_fault.new.text (head ++ codes ",\"fault\":") fault two c.in_ok-add_journey_fault.ensures in
    last_joined c.add-2.result s c.add_journey_fault.new.text c.add-2.new.self (head ++ codes ",\"fault\":" ++ fault) (codes "}\n") three c.add-2.ensures.added
