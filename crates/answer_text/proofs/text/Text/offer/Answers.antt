use Rattle.std.proofs.Common.{◌≡◌, ◌++◌, rules}
use Rattle.std.specs.Prelude.{OnOk}
use Rattle.answer_text.specs.Journeys.{journey_text, leave_text}
use Rattle.answer_text.proofs.Joined.{last_joined}
use Rattle.answer_text.proofs.text.Text.offer.Goals as goal

pub returns : goal.returns
returns c =
    let o = c.args.offer.now in
    let leave : c.leave.new.self ≡ c.args.self.now ++ leave_text o.slot.leave = search rules in
    let journey : OnOk c.journey.result (c.journey.new.self ≡ c.leave.new.self ++ journey_text c.args.table.now o.slot.arrive o.slot.rides o.legs) = search rules in
    last_joined c.journey.result c.args.self.now c.leave.new.self c.journey.new.self (leave_text o.slot.leave) (journey_text c.args.table.now o.slot.arrive o.slot.rides o.legs) leave journey
