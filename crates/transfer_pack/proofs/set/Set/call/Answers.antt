use Rattle.std.proofs.Common.{◌∙◌, ap, sym, arith}
use Rattle.std.proofs.lemmas.Grind.{common_steps}
use Rattle.transfer_pack.specs.Packed.{PackedHops}
use Rattle.transfer_pack.proofs.Packing.{call_found, spot_inside}
use Rattle.transfer_pack.proofs.set.Set.call.Goals as goal

pub overflow_add-event : goal.overflow_add-event
overflow_add-event c =
    let inside = spot_inside c.self.inside.hops c.self.inside.spots.items c.args.self.now c.event-event.result c.self.invariant.0 (ap (λ (S : PackedHops). S.runs) (sym c.self.view_is)) c.event-event.ensures.inside in
    grind (arith, common_steps, inside)

pub index-requires : goal.index-requires
index-requires c =
    let inside = spot_inside c.self.inside.hops c.self.inside.spots.items c.args.self.now c.event-event.result c.self.invariant.0 (ap (λ (S : PackedHops). S.runs) (sym c.self.view_is)) c.event-event.ensures.inside in
    grind (arith, common_steps, inside)

pub returns : goal.returns
returns c =
    let inside = spot_inside c.self.inside.hops c.self.inside.spots.items c.args.self.now c.event-event.result c.self.invariant.0 (ap (λ (S : PackedHops). S.runs) (sym c.self.view_is)) c.event-event.ensures.inside in
    c.call.ensures ∙ call_found c.args.self.now _ c.self.inside.spots.items c.args.trip c.args.at c.event-event.result c.index.result.now c.self.view_is c.self.invariant.2 c.requires.trip c.requires.at c.event-event.ensures.number inside c.index.ensures
