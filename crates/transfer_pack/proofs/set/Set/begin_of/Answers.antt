use Rattle.std.proofs.Common.{◌∙◌, ◌+◌, get_or, ap, sym, arith}
use Rattle.std.proofs.lemmas.Grind.{common_steps}
use Rattle.transfer_pack.specs.Packed.{PackedHops}
use Rattle.transfer_pack.specs.Spots.{ends_in}
use Rattle.transfer_pack.specs.declared.set.Spot.{Spot}
use Rattle.transfer_pack.proofs.Packing.{end_at, spot_inside}
use Rattle.transfer_pack.proofs.set.Set.begin_of.Goals as goal

pub index-requires : goal.index-requires
index-requires c =
    let inside = spot_inside c.self.inside.hops c.self.inside.spots.items c.args.self.now c.event.result c.self.invariant.0 (ap (λ (S : PackedHops). S.runs) (sym c.self.view_is)) c.event.ensures.inside in
    grind (arith, common_steps, inside)

pub returns : goal.returns
returns c =
    let spots = c.self.inside.spots.items in
    let inside = spot_inside c.self.inside.hops spots c.args.self.now c.event.result c.self.invariant.0 (ap (λ (S : PackedHops). S.runs) (sym c.self.view_is)) c.event.ensures.inside in
    ap (λ (s : Spot). s.end) c.index.ensures
    ∙ end_at spots c.event.result c.index.result.now (omega (arith, inside))
    ∙ ap (λ k. get_or (ends_in spots) k 0) c.event.ensures.number
    ∙ ap (λ (S : PackedHops). get_or S.bounds (get_or c.args.self.now.starts c.args.trip 0 + c.args.at) 0) c.self.view_is
