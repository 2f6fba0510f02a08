use Rattle.std.proofs.Common.{◌≡◌, length, ap, sym, arith}
use Rattle.transfer_pack.specs.Packed.{PackedHops}
use Rattle.transfer_pack.proofs.Packing.{spot_inside}
use Rattle.transfer_pack.proofs.set.Set.out.Goals as goal

pub run_behind-requires-clause-inside : goal.run_behind-requires-clause-inside
run_behind-requires-clause-inside c =
    let inside = spot_inside c.self.inside.hops c.self.inside.spots.items c.args.self.now c.event-event.result c.self.invariant.0 (ap (λ (S : PackedHops). S.runs) (sym c.self.view_is)) c.event-event.ensures.inside in
    let long : length c.as_slice.result.now ≡ length c.self.inside.spots.items = ap length c.as_slice.ensures.value in
    omega (arith, inside, long)
