use Rattle.std.proofs.Common.{◌≡◌, ℕ, ◌+◌, ◌<◌, length, get_or, sym, subst, arith}
use Rattle.std.proofs.lemmas.Grind.{common_steps}
use Rattle.tb_base.specs.TimetableData.{events_of}
use Rattle.transfer_pack.specs.Packed.{FitsRuns, PackedHops}
use Rattle.transfer_pack.proofs.Packing.{run_inside, spots_counted}
use Rattle.transfer_pack.proofs.set.Set.event.Goals as goal

-- the list of the event is one of the runs
start_inside : (S S' : PackedHops) (t i start n : ℕ) → S ≡ S' → FitsRuns S → n ≡ t → t < length S'.table.trips → i < length (events_of S'.table t) → start ≡ get_or S.starts n start → start + i < length S.runs
start_inside S S' t i start n same fits is trip at there =
    run_inside S t i start fits (subst (λ (x : PackedHops). t < length x.table.trips) (sym same) trip) (subst (λ (x : PackedHops). i < length (events_of x.table t)) (sym same) at) (subst (λ k. start ≡ get_or S.starts k start) is there)

pub overflow_add-result : goal.overflow_add-result
overflow_add-result c =
    let inside = start_inside _ _ c.args.trip c.args.at c.index-2.result.now c.index.result c.self.view_is c.self.invariant.1 c.index.ensures c.requires.trip c.requires.at c.index-2.ensures in
    let counted = spots_counted c.self.inside.hops c.self.inside.spots.items c.self.invariant.0 in
    grind (arith, common_steps, inside, counted)
