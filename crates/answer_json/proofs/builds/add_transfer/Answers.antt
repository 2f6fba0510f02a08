use Rattle.std.proofs.Common.{◌++◌, codes}
use Rattle.answer_text.proofs.Joined.{joined, last_joined}
use Rattle.answer_json.specs.Builds.{event_json, transfer_json}
use Rattle.answer_json.proofs.builds.add_transfer.Goals as goal

pub returns : goal.returns
unfolding transfer_json
returns c =
    let s = c.args.text.now in
    let T = c.args.table.now in
    let r = c.args.row.now in
    let a = codes "{\"from\":" in
    let b = a ++ event_json T r.trip r.at in
    let d = b ++ codes ",\"to\":" in
    let e = d ++ event_json T r.to_trip r.to_at in
    let two = joined s c.add.new.self c.add_event.new.text a (event_json T r.trip r.at) c.in_ok-add.ensures.added c.in_ok-add_event.ensures in
    let three = joined s c.add_event.new.text c.add-2.new.self b (codes ",\"to\":") two c.in_ok-add-2.ensures.added in
    let four = joined s c.add-2.new.self c.add_event-2.new.text d (event_json T r.to_trip r.to_at) three c.in_ok-add_event-2.ensures in
    last_joined c.add-3.result s c.add_event-2.new.text c.add-3.new.self e (codes "}\n") four c.add-3.ensures.added
