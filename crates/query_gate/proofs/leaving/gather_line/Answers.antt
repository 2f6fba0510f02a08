use Rattle.std.proofs.Common.{◌≡◌, ◌∙◌, ◌∷◌, ◌++◌, [], List, Option, rules, sym, ap, subst, arith, to_z, of_z, w32, ℤ, pos, ◌+ℤ◌, ◌-ℤ◌, refl}
use Rattle.std.proofs.lemmas.Int.{ints, to_z-of_z}
use Rattle.tb_base.specs.Network.{NetData}
use Rattle.tb_base.specs.declared.table.Path.{Path}
use Rattle.tb_base.specs.Profiles.{WindowData}
use Rattle.query_gate.proofs.Departures.{not_past}
use Rattle.query_gate.proofs.Gathering.{AreGathered, gather_begun, gather_ended, gather_less, gather_more, gather_past, next_departs}
use Rattle.query_gate.proofs.Laters.{departs_within}
use Rattle.query_gate.proofs.leaving.gather_line.Goals as goal

pub loop-next-init : goal.loop-next-init
loop-next-init g c =
    let N : NetData = g.S.Scan.net c.args.scan.now in
    let W : WindowData = c.args.window.now in
    let path : Path = c.args.path.now in
    let first : to_z w32 (of_z w32 c.window.inside.first) ≡ W.first = to_z-of_z w32 c.window.inside.first (search rules) ∙ ap (λ (w : WindowData). w.first) c.window.view_is in
    let bound = c.requires.first in
    let since : ℤ = to_z w32 (of_z w32 (to_z w32 (of_z w32 c.window.inside.first) +ℤ to_z w32 path.secs)) in
    let is : since ≡ (W.first +ℤ pos path.secs) = omega (arith, ints, first, bound, c.requires.secs) in
    gather_begun N W path c.args.berth c.soundness.ensures.divided c.requires.berth c.args.times.now.items since c.line_departure-next.result is c.line_departure-next.ensures

pub overflow_sub-time : goal.overflow_sub-time
overflow_sub-time g c =
    let N : NetData = g.S.Scan.net c.args.scan.now in
    let d : ℤ = c.in-Some.departure in
    let within = departs_within N.table c.soundness.ensures.sound c.args.path.now.to d
    (next_departs N c.args.window.now c.args.path.now c.args.berth c.soundness.ensures.divided c.requires.berth c.args.times.now.items c.loop-next.times.items c.loop-next.next c.loop-next.invariant d c.in-Some.is) in
    omega (arith, ints, within.0, within.1, c.requires.secs)

pub returns-then-is_past : goal.returns-then-is_past
returns-then-is_past g c =
    let N : NetData = g.S.Scan.net c.args.scan.now in
    let path : Path = c.args.path.now in
    let d : ℤ = c.in-Some.departure in
    let within = departs_within N.table c.soundness.ensures.sound path.to d
    (next_departs N c.args.window.now path c.args.berth c.soundness.ensures.divided c.requires.berth c.args.times.now.items c.loop-next.times.items c.loop-next.next c.loop-next.invariant d c.in-Some.is) in
    let time : ℤ = to_z w32 (of_z w32 (to_z w32 (of_z w32 d) -ℤ to_z w32 path.secs)) in
    let is : time ≡ (d -ℤ pos path.secs) = omega (arith, ints, within.0, within.1, c.requires.secs) in
    gather_past N c.args.window.now path c.args.berth c.soundness.ensures.divided c.requires.berth c.args.times.now.items c.loop-next.times.items c.loop-next.next c.loop-next.invariant d c.in-Some.is time is (c.if-is_past.ensures.0 refl)

pub overflow_add-departure : goal.overflow_add-departure
overflow_add-departure g c =
    let N : NetData = g.S.Scan.net c.args.scan.now in
    let d : ℤ = c.in-Some.departure in
    let within = departs_within N.table c.soundness.ensures.sound c.args.path.now.to d
    (next_departs N c.args.window.now c.args.path.now c.args.berth c.soundness.ensures.divided c.requires.berth c.args.times.now.items c.loop-next.times.items c.loop-next.next c.loop-next.invariant d c.in-Some.is) in
    omega (arith, ints, within.0, within.1)

pub loop-next-preserved : goal.loop-next-preserved
loop-next-preserved g c =
    let N : NetData = g.S.Scan.net c.args.scan.now in
    let W : WindowData = c.args.window.now in
    let path : Path = c.args.path.now in
    let d : ℤ = c.in-Some.departure in
    let old : List ℤ = c.args.times.now.items in
    let times : List ℤ = c.loop-next.times.items in
    let then : Option ℤ = c.line_departure-next-in-Some.result in
    let within = departs_within N.table c.soundness.ensures.sound path.to d
    (next_departs N W path c.args.berth c.soundness.ensures.divided c.requires.berth old times c.loop-next.next c.loop-next.invariant d c.in-Some.is) in
    let time : ℤ = to_z w32 (of_z w32 (to_z w32 (of_z w32 d) -ℤ to_z w32 path.secs)) in
    let is : time ≡ (d -ℤ pos path.secs) = omega (arith, ints, within.0, within.1, c.requires.secs) in
    let since : ℤ = to_z w32 (of_z w32 (to_z w32 (of_z w32 d) +ℤ pos 1)) in
    let since_is : since ≡ (d +ℤ pos 1) = omega (arith, ints, within.0, within.1) in
    let pushed = c.in_ok-push.ensures {u = tt} in
    let all : ◌≡◌ {A = List ℤ} c.push.new.self.items (times ++ time ∷ []) = pushed.items in
    subst (λ xs. AreGathered N W path c.args.berth old xs then) (sym all)
    (gather_more N W path c.args.berth c.soundness.ensures.divided c.requires.berth old times c.loop-next.next c.loop-next.invariant d c.in-Some.is time since then is (not_past W.last time c.if-is_past.ensures) since_is c.line_departure-next-in-Some.ensures)

pub loop-next-smaller : goal.loop-next-smaller
loop-next-smaller g c =
    let N : NetData = g.S.Scan.net c.args.scan.now in
    let W : WindowData = c.args.window.now in
    let path : Path = c.args.path.now in
    let d : ℤ = c.in-Some.departure in
    let old : List ℤ = c.args.times.now.items in
    let times : List ℤ = c.loop-next.times.items in
    let then : Option ℤ = c.line_departure-next-in-Some.result in
    let within = departs_within N.table c.soundness.ensures.sound path.to d
    (next_departs N W path c.args.berth c.soundness.ensures.divided c.requires.berth old times c.loop-next.next c.loop-next.invariant d c.in-Some.is) in
    let time : ℤ = to_z w32 (of_z w32 (to_z w32 (of_z w32 d) -ℤ to_z w32 path.secs)) in
    let is : time ≡ (d -ℤ pos path.secs) = omega (arith, ints, within.0, within.1, c.requires.secs) in
    let since : ℤ = to_z w32 (of_z w32 (to_z w32 (of_z w32 d) +ℤ pos 1)) in
    let since_is : since ≡ (d +ℤ pos 1) = omega (arith, ints, within.0, within.1) in
    gather_less N W path c.args.berth c.soundness.ensures.divided c.requires.berth old times c.loop-next.next c.loop-next.invariant d c.in-Some.is time since (W.last +ℤ pos path.secs) then is (not_past W.last time c.if-is_past.ensures) since_is refl c.line_departure-next-in-Some.ensures

pub returns : goal.returns
returns g c =
    gather_ended (g.S.Scan.net c.args.scan.now) c.args.window.now c.args.path.now c.args.berth c.soundness.ensures.divided c.requires.berth c.args.times.now.items c.loop-next.times.items c.loop-next.next c.loop-next.invariant c.in_default.is
