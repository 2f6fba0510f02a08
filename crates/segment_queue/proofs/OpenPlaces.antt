-- Places of hops that were not passed are written down.
use Rattle.std.proofs.Common.{◌≡◌, ℕ, ◌+◌, ◌<◌, ◌≤◌, ◌⊎◌, inl, inr, List, [], ◌∷◌, ◌++◌, length, set, take, sym, subst, arith, Option, Some, None}
use Rattle.std.specs.Prelude.{All, Contains, IsSomeAnd, slice_get, slice_index_or, unwrap_or}
use Rattle.std.proofs.lemmas.List.{take-set, take_more_set}
use Rattle.std.proofs.lemmas.List.Elements.{All-push, All-weaker, Contains-append_left, Contains-append_right}
use Rattle.std.proofs.lemmas.Option.{get_or_from_slice_get, slice_get_within}
use Rattle.tb_base.specs.Network.{NetData}
use Rattle.tb_base.specs.Soundness.{IsSound}
use Rattle.tb_base.specs.declared.transfer.Hop.{Hop}
use Rattle.tb_base.proofs.NumberFacts.{below_or_at}
use Rattle.segment_queue.specs.Queue.{DeskData, IsInStep, last_index, mark_of}
use Rattle.segment_queue.specs.Scans.{HoldOpen}
use Rattle.segment_queue.proofs.Totals.{long_few}

same_hop : (hops : List Hop) (k place : ℕ) (h hop : Hop) → k ≡ place → slice_get hops k ≡ Some h → slice_get hops place ≡ Some hop → hop ≡ h
same_hop hops k place h hop e a b = cc

module _ (P : Hop → Type 0) (hops : List Hop) (from place count : ℕ) (places : List ℕ) (hop : Hop) (inside : count < length places) (is : slice_get hops place ≡ Some hop) (within : All (λ k. k < place) (take count places)) (left : HoldOpen P hops from place (take count places)) where
  abbrev written : List ℕ
  written = set places count place

  -- the hop was passed: its place is not kept
  pub passed_within : All (λ k. k < place + 1) (take count written)
  passed_within = subst (All (λ k. k < place + 1)) (sym (take-set places count place)) (All-weaker (λ k. k < place) (λ k. k < place + 1) (λ k h. omega (arith, h)) (take count places) within)

  pub passed_open : P hop → HoldOpen P hops from (place + 1) (take count written)
  passed_open passed k h low high got = subst (λ ks. P h ⊎ Contains ks k) (sym (take-set places count place)) (elim (below_or_at k place high) [
    | inl earlier ↦ left k h low earlier got
    | inr e ↦ inl (subst P (same_hop hops k place h hop e got is) passed)
  ])

  kept : take (count + 1) written ≡ take count places ++ place ∷ []
  kept = take_more_set places count place inside

  -- it was not: its place is kept
  pub kept_within : All (λ k. k < place + 1) (take (count + 1) written)
  kept_within = subst (All (λ k. k < place + 1)) (sym kept) (All-push (λ k. k < place + 1) (take count places) place (All-weaker (λ k. k < place) (λ k. k < place + 1) (λ k h. omega (arith, h)) (take count places) within) (omega arith))

  pub kept_open : HoldOpen P hops from (place + 1) (take (count + 1) written)
  kept_open k h low high got = subst (λ ks. P h ⊎ Contains ks k) (sym kept) (elim (below_or_at k place high) [
    | inl earlier ↦ elim (left k h low earlier got) [
      | inl passed ↦ inl passed
      | inr one ↦ inr (Contains-append_left (take count places) (place ∷ []) k one)
    ]
    | inr e ↦ inr (Contains-append_right (take count places) (place ∷ []) k (0, omega arith, sym e))
  ])

by_mark : (o : Option ℕ) (last at : ℕ) → IsSomeAnd o (λ m. m ≤ at) → unwrap_or o last ≤ at
by_mark (Some m) last at h = h
by_mark None last at h = absurd h

-- whoever was passed, by the words of the marks, was passed
pub marked_open : (N : NetData) (D : DeskData) (hops : List Hop) (from to : ℕ) (places : List ℕ) → IsSound N.table → IsInStep N D → All (λ h. h.trip < length N.table.trips) hops
    → HoldOpen (λ h. IsSomeAnd (slice_index_or D.marks h.trip None) (λ m. m ≤ h.at) ⊎ (10000000 ≤ h.at)) hops from to places → HoldOpen (λ h. mark_of N.table D.marks h.trip ≤ h.at) hops from to places
marked_open N D hops from to places sound step trips left k h low high got =
    let inside : h.trip < length N.table.trips = subst (λ (x : Hop). x.trip < length N.table.trips) (get_or_from_slice_get hops k h h got) (trips k h (slice_get_within hops k h got)) in
    elim (left k h low high got) [
      | inl passed ↦ elim passed [
        | inl marked ↦ inl (by_mark (slice_index_or D.marks h.trip None) (last_index N.table h.trip) h.at marked)
        | inr past ↦ inl (omega (arith, past, step.marks h.trip inside, long_few N.table h.trip sound inside))
      ]
      | inr one ↦ inr one
    ]
