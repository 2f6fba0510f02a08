use Rattle.std.proofs.Common.{◌≡◌, ◌∙◌, ℕ, suc, ◌+◌, ◌-◌, ◌<◌, ◌≤◌, ◌⊎◌, inl, inr, List, length, get_or, refl, subst, sym, ap, drop, take, arith}
use Rattle.std.proofs.lemmas.Grind.{common_steps}
use Rattle.std.proofs.lemmas.List.{length-map}
use Rattle.transfer_pack.specs.declared.set.Spot.{Spot}
use Rattle.transfer_pack.specs.Packed.{PackedHops, begin_of, hops_over, packed}
use Rattle.transfer_pack.proofs.Ended.{IsAt, open_last, part_long, part_rise, placed}
use Rattle.transfer_pack.proofs.Packing.{spot_inside}
use Rattle.transfer_pack.proofs.Stretches.{IsOver, before_count, hop_found, over_count, over_seen}
use Rattle.transfer_pack.proofs.set.Set.event_of.Goals as goal
use Rattle.transfer_pack.proofs.set.Set.event_of.Goals.{After-ended_by}

pub overflow_add-next : goal.overflow_add-next
overflow_add-next c =
    let inside = spot_inside c.self.inside.hops c.self.inside.spots.items c.args.self.now c.event-next.result c.self.invariant.0 (ap (λ (S : PackedHops). S.runs) (sym c.self.view_is)) c.event-next.ensures.inside in
    grind (arith, common_steps, inside)

pub overflow_add-end : goal.overflow_add-end
overflow_add-end c =
    let inside = spot_inside c.self.inside.hops c.self.inside.spots.items c.args.self.now c.event-end.result c.self.invariant.0 (ap (λ (S : PackedHops). S.runs) (sym c.self.view_is)) c.event-end.ensures.inside in
    grind (arith, common_steps, inside)

pub part-behind-requires-clause-from : goal.part-behind-requires-clause-from
part-behind-requires-clause-from c =
    let inside = spot_inside c.self.inside.hops c.self.inside.spots.items c.args.self.now c.event-next.result c.self.invariant.0 (ap (λ (S : PackedHops). S.runs) (sym c.self.view_is)) c.event-next.ensures.inside in
    omega (arith, inside, ap length c.as_slice-spots.ensures.value)

-- the place is that of one of the hops
within : (S : PackedHops) (t first last place : ℕ) → IsOver S t first last → place < length (hops_over (packed S) t first last) → place < begin_of S t (suc last) - begin_of S t first
within S t first last place whole below = omega (arith, below, over_count S t first last whole)

pub overflow_add-begin : goal.overflow_add-begin
overflow_add-begin c =
    let low = within c.args.self.now c.args.trip c.args.first c.args.last c.args.place (over_seen _ _ c.args.trip c.args.first c.args.last c.self.view_is c.self.invariant.0 refl c.self.invariant.1 c.requires.trip c.requires.order c.requires.last) c.requires.place in
    let begin = c.begin_of-begin.ensures in
    let end = c.end_of-end.ensures in
    grind (arith, common_steps, low, begin, end)

-- the spots behind the first event's
behind_is : (spots lent part : List Spot) (S : PackedHops) (t first n : ℕ) → part ≡ take (length lent - (n + 1)) (drop (n + 1) lent) → lent ≡ spots → n ≡ get_or S.starts t 0 + first → part ≡ take (length spots - (get_or S.starts t 0 + first + 1)) (drop (get_or S.starts t 0 + first + 1) spots)
behind_is spots lent part S t first n is same number =
    is
    ∙ ap (λ (xs : List Spot). take (length xs - (n + 1)) (drop (n + 1) xs)) same
    ∙ ap (λ k. take (length spots - (k + 1)) (drop (k + 1) spots)) number

pub ended_by-requires-clause-rising : goal.ended_by-requires-clause-rising
ended_by-requires-clause-rising c =
    part_rise c.self.inside.spots.items (get_or c.args.self.now.starts c.args.trip 0 + c.args.first + 1) (length c.self.inside.spots.items) c.part-behind.result.now
    (behind_is c.self.inside.spots.items c.as_slice-spots.result.now c.part-behind.result.now c.args.self.now c.args.trip c.args.first c.event-next.result c.part-behind.ensures c.as_slice-spots.ensures.value c.event-next.ensures.number)
    (omega arith) (length c.self.inside.hops) c.self.invariant.0 (length-map c.self.inside.spots.items (λ (s : Spot). s.end))

pub ended_by-requires-clause-within : goal.ended_by-requires-clause-within
ended_by-requires-clause-within c =
    let inside = spot_inside c.self.inside.hops c.self.inside.spots.items c.args.self.now c.event-end.result c.self.invariant.0 (ap (λ (S : PackedHops). S.runs) (sym c.self.view_is)) c.event-end.ensures.inside in
    let long = part_long c.self.inside.spots.items (get_or c.args.self.now.starts c.args.trip 0 + c.args.first + 1) (length c.self.inside.spots.items) c.part-behind.result.now
    (behind_is c.self.inside.spots.items c.as_slice-spots.result.now c.part-behind.result.now c.args.self.now c.args.trip c.args.first c.event-next.result c.part-behind.ensures c.as_slice-spots.ensures.value c.event-next.ensures.number) (omega arith) in
    omega (arith, long, inside, c.event-end.ensures.number, c.event-next.ensures.number, c.requires.order)

pub ended_by-requires-clause-open : goal.ended_by-requires-clause-open
ended_by-requires-clause-open c = λ k d from_k below.
    let inside = spot_inside c.self.inside.hops c.self.inside.spots.items c.args.self.now c.event-end.result c.self.invariant.0 (ap (λ (S : PackedHops). S.runs) (sym c.self.view_is)) c.event-end.ensures.inside in
    let from_last : c.args.last - c.args.first ≤ k = omega (arith, c.event-end.ensures.number, c.event-next.ensures.number, from_k) in
    let up = part_rise c.self.inside.spots.items (get_or c.args.self.now.starts c.args.trip 0 + c.args.first + 1) (length c.self.inside.spots.items) c.part-behind.result.now
    (behind_is c.self.inside.spots.items c.as_slice-spots.result.now c.part-behind.result.now c.args.self.now c.args.trip c.args.first c.event-next.result c.part-behind.ensures c.as_slice-spots.ensures.value c.event-next.ensures.number)
    (omega arith) (length c.self.inside.hops) c.self.invariant.0 (length-map c.self.inside.spots.items (λ (s : Spot). s.end)) in
    let behind = open_last c.args.self.now c.self.inside.spots.items c.part-behind.result.now c.args.trip c.args.first c.args.last c.args.place 0
    (ap (λ (x : PackedHops). x.bounds) c.self.view_is)
    (behind_is c.self.inside.spots.items c.as_slice-spots.result.now c.part-behind.result.now c.args.self.now c.args.trip c.args.first c.event-next.result c.part-behind.ensures c.as_slice-spots.ensures.value c.event-next.ensures.number)
    (omega (arith, inside, c.event-end.ensures.number)) c.requires.order
    (within c.args.self.now c.args.trip c.args.first c.args.last c.args.place (over_seen _ _ c.args.trip c.args.first c.args.last c.self.view_is c.self.invariant.0 refl c.self.invariant.1 c.requires.trip c.requires.order c.requires.last) c.requires.place)
    up k d from_last below in
    omega (arith, c.begin_of-begin.ensures, behind)

over_these : (c : After-ended_by) (first last : ℕ) → first ≤ last → last ≤ c.args.last → IsOver c.args.self.now c.args.trip first last
over_these c first last order within = over_seen _ _ c.args.trip first last c.self.view_is c.self.invariant.0 refl c.self.invariant.1 c.requires.trip order (omega (arith, within, c.requires.last))

found : (c : After-ended_by) → IsAt c.args.self.now c.args.trip c.args.first c.args.last c.args.place (c.args.first + c.ended_by.result)
found c =
    let inside = spot_inside c.self.inside.hops c.self.inside.spots.items c.args.self.now c.event-end.result c.self.invariant.0 (ap (λ (S : PackedHops). S.runs) (sym c.self.view_is)) c.event-end.ensures.inside in
    placed c.args.self.now c.self.inside.spots.items c.part-behind.result.now c.args.trip c.args.first c.args.last c.args.place c.ended_by.result
    (ap (λ (x : PackedHops). x.bounds) c.self.view_is)
    (behind_is c.self.inside.spots.items c.as_slice-spots.result.now c.part-behind.result.now c.args.self.now c.args.trip c.args.first c.event-next.result c.part-behind.ensures c.as_slice-spots.ensures.value c.event-next.ensures.number)
    (omega (arith, inside, c.event-end.ensures.number)) c.requires.order
    (within c.args.self.now c.args.trip c.args.first c.args.last c.args.place (over_seen _ _ c.args.trip c.args.first c.args.last c.self.view_is c.self.invariant.0 refl c.self.invariant.1 c.requires.trip c.requires.order c.requires.last) c.requires.place)
    (omega (arith, c.ended_by.ensures.within, c.event-end.ensures.number, c.event-next.ensures.number))
    (λ k d low below. omega (arith, c.ended_by.ensures.ended k d low below, c.begin_of-begin.ensures))
    (λ k d low below. omega (arith, c.ended_by.ensures.open k d low below, c.begin_of-begin.ensures))

pub returns-clause-last : goal.returns-clause-last
returns-clause-last c = (found c).within

pub returns-clause-begun : goal.returns-clause-begun
returns-clause-begun c =
    let at : ℕ = c.args.first + c.ended_by.result in
    let is : IsAt c.args.self.now c.args.trip c.args.first c.args.last c.args.place at = found c in
    let count = before_count c.args.self.now c.args.trip c.args.first at (omega arith) (λ past. over_these c c.args.first (at - 1) (omega (arith, past)) (omega (arith, is.within))) in
    omega (arith, count, is.low)

pub returns-clause-ends : goal.returns-clause-ends
returns-clause-ends c =
    let at : ℕ = c.args.first + c.ended_by.result in
    let is : IsAt c.args.self.now c.args.trip c.args.first c.args.last c.args.place at = found c in
    omega (arith, is.high, over_count c.args.self.now c.args.trip c.args.first at (over_these c c.args.first at (omega arith) is.within))

pub returns-clause-hop : goal.returns-clause-hop
returns-clause-hop c = λ h got.
    let S : PackedHops = c.args.self.now in
    let at : ℕ = c.args.first + c.ended_by.result in
    let is : IsAt S c.args.trip c.args.first c.args.last c.args.place at = found c in
    let whole : IsOver S c.args.trip c.args.first c.args.last = over_these c c.args.first c.args.last c.requires.order (omega arith) in
    hop_found S c.args.trip c.args.first c.args.last at c.args.place h whole (over_these c at at (omega arith) is.within) is.low is.high
    (elim (before_or_last at c.args.last is.within) [
      | inl before ↦ (over_these c (suc at) c.args.last (omega (arith, before)) (omega arith)).order
      | inr same ↦ subst (λ k. begin_of S c.args.trip (suc at) ≤ begin_of S c.args.trip (suc k)) same (omega arith)
    ])
    got
  where
    before_or_last : (n m : ℕ) → n ≤ m → (n < m) ⊎ (n ≡ m)
    before_or_last n m h = grind arith
