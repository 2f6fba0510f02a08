use Rattle.std.proofs.Common.{◌≡◌, ◌∙◌, ℕ, suc, ◌+◌, ◌-◌, ◌≤◌, List, length, get_or, refl, ap, sym, subst, drop, take, arith}
use Rattle.std.proofs.lemmas.Grind.{common_steps}
use Rattle.tb_base.specs.TimetableData.{events_of}
use Rattle.transfer_pack.specs.declared.set.Spot.{Spot}
use Rattle.transfer_pack.specs.Packed.{PackedHops, begin_of, hops_before, packed}
use Rattle.transfer_pack.specs.Spots.{ends_in}
use Rattle.transfer_pack.proofs.Ended.{part_end, part_long}
use Rattle.transfer_pack.proofs.Packing.{spot_inside}
use Rattle.transfer_pack.proofs.Stretches.{IsOver, before_count, over_seen}
use Rattle.transfer_pack.proofs.set.Set.spots_of.Goals as goal

pub overflow_add-first : goal.overflow_add-first
overflow_add-first c =
    let inside = spot_inside c.self.inside.hops c.self.inside.spots.items c.args.self.now c.event-first.result c.self.invariant.0 (ap (λ (S : PackedHops). S.runs) (sym c.self.view_is)) c.event-first.ensures.inside in
    grind (arith, common_steps, inside)

pub overflow_add-last : goal.overflow_add-last
overflow_add-last c =
    let inside = spot_inside c.self.inside.hops c.self.inside.spots.items c.args.self.now c.event-last.result c.self.invariant.0 (ap (λ (S : PackedHops). S.runs) (sym c.self.view_is)) c.event-last.ensures.inside in
    grind (arith, common_steps, inside)

pub part-requires-clause-to : goal.part-requires-clause-to
part-requires-clause-to c =
    let inside = spot_inside c.self.inside.hops c.self.inside.spots.items c.args.self.now c.event-last.result c.self.invariant.0 (ap (λ (S : PackedHops). S.runs) (sym c.self.view_is)) c.event-last.ensures.inside in
    omega (arith, inside, ap length c.as_slice.ensures.value)

pub returns-clause-count : goal.returns-clause-count
returns-clause-count c =
    let inside = spot_inside c.self.inside.hops c.self.inside.spots.items c.args.self.now c.event-last.result c.self.invariant.0 (ap (λ (S : PackedHops). S.runs) (sym c.self.view_is)) c.event-last.ensures.inside in
    let long = part_long c.self.inside.spots.items (c.event-first.result + 1) (c.event-last.result + 2) c.part.result.now
    (c.part.ensures ∙ ap (λ (xs : List Spot). take (c.event-last.result + 2 - (c.event-first.result + 1)) (drop (c.event-first.result + 1) xs)) c.as_slice.ensures.value)
    (omega (arith, inside)) in
    omega (arith, long, c.event-first.ensures.number, c.event-last.ensures.number, c.event_count.ensures, c.requires.some)

pub returns-clause-ends : goal.returns-clause-ends
returns-clause-ends c = λ i d below.
    let S : PackedHops = c.args.self.now in
    let t : ℕ = c.args.trip in
    let a : ℕ = get_or S.starts t 0 in
    let spots : List Spot = c.self.inside.spots.items in
    let first : ℕ = c.event-first.result in
    let last : ℕ = c.event-last.result in
    let inside = spot_inside c.self.inside.hops spots S last c.self.invariant.0 (ap (λ (x : PackedHops). x.runs) (sym c.self.view_is)) c.event-last.ensures.inside in
    let is = c.part.ensures ∙ ap (λ (xs : List Spot). take (last + 2 - (first + 1)) (drop (first + 1) xs)) c.as_slice.ensures.value in
    let within : last + 2 ≤ length spots = omega (arith, inside) in
    let long = part_long spots (first + 1) (last + 2) c.part.result.now is within in
    let many : length c.part.result.now ≡ length (events_of S.table t) = omega (arith, long, c.event-first.ensures.number, c.event-last.ensures.number, c.event_count.ensures, c.requires.some) in
    let there : (get_or c.part.result.now i d).end ≡ begin_of S t (i + 1) = part_end spots (first + 1) (last + 2) c.part.result.now is within i d (omega (arith, below, long))
    ∙ ap (λ k. get_or (ends_in spots) k 0) (place first a i c.event-first.ensures.number)
    ∙ ap (λ (x : PackedHops). get_or x.bounds (a + (i + 1)) 0) c.self.view_is in
    let over : IsOver S t 0 ((i + 1) - 1) = over_seen _ _ t 0 ((i + 1) - 1) c.self.view_is c.self.invariant.0 refl c.self.invariant.1 c.requires.trip (omega arith) (omega (arith, below, many)) in
    let order : begin_of S t 0 ≤ begin_of S t (i + 1) = subst (λ k. begin_of S t 0 ≤ begin_of S t k) (back i) over.order in
    let counted : length (hops_before (packed S) t 0 (i + 1)) ≡ begin_of S t (i + 1) - begin_of S t 0 = before_count S t 0 (i + 1) (omega arith) (λ past. over) in
    omega (arith, there, order, counted)
  where
    place : (n a i : ℕ) → n ≡ a + 0 → (n + 1) + i ≡ a + (i + 1)
    place n a i e = omega (arith, e)

    back : (i : ℕ) → suc ((i + 1) - 1) ≡ i + 1
    back i = omega arith
