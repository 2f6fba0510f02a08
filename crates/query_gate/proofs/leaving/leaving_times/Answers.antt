use Rattle.std.proofs.Common.{◌≡◌, ℕ, List, [], length, get_or, arith, ℤ}
use Rattle.std.proofs.lemmas.List.Elements.{at_read}
use Rattle.tb_base.specs.Profiles.{WindowData}
use Rattle.query_gate.specs.Leaving.{HaveJoined, IsWithin, LeavesFor}
use Rattle.query_gate.proofs.Gathering.{all_gathered, origins_gathered}
use Rattle.query_gate.proofs.Joining.{joined_more}
use Rattle.query_gate.proofs.leaving.leaving_times.Goals as goal

pub loop-origin-preserved : goal.loop-origin-preserved
loop-origin-preserved g c =
    let T = c.args.table.now in
    let W : WindowData = c.args.window.now in
    let origins : List ℕ = c.origins-origin-items.result.now in
    let times : List ℤ = c.loop-origin.times.items in
    let new : List ℤ = c.gather_from.new.times.items in
    joined_more (λ k n. IsWithin W n × LeavesFor T (get_or origins k 0) n) c.loop-origin.origin-index [] times new c.loop-origin.invariant
    (at_read origins (λ o. HaveJoined (λ n. IsWithin W n × LeavesFor T o n) times new) c.loop-origin.origin-index c.origin-item.result c.loop-origin-test.true c.origin-item.is c.in_ok-gather_from.ensures 0)

pub returns : goal.returns
returns g c =
    let T = c.args.table.now in
    let W : WindowData = c.args.window.now in
    let origins : List ℕ = c.origins-origin-items.result.now in
    let all : c.loop-origin.origin-index ≡ length origins = omega arith in
    all_gathered T W c.loop-origin.times.items c.put_in_order.new.times.items
    (origins_gathered T W origins c.origins-origin-items.ensures c.loop-origin.origin-index c.loop-origin.times.items all c.loop-origin.invariant)
    c.put_in_order.ensures.same c.put_in_order.ensures.rise
