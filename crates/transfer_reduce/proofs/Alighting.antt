-- Arrivals along a trip, index by index.
use Rattle.std.proofs.Common.{◌≡◌, ◌∙◌, sym, ap, subst, ℕ, ◌+◌, ◌<◌, ◌≤◌, ◌⊎◌, inl, inr, true, List, ℤ, ◌≤ℤ◌, Option, arith}
use Rattle.std.specs.Prelude.{IsTrue}
use Rattle.transfer_pack.specs.declared.calls.Call.{Call}
use Rattle.transfer_pack.specs.CallsOf.{call_of}
use Rattle.tb_base.specs.TimetableData.{TimetableData, event_at}
use Rattle.tb_base.proofs.NumberFacts.{below_or_at}
use Rattle.transfer_reduce.specs.Reached.{AreLowered, AreReached, IsAlighting, IsBy, IsReachedOnFoot}

-- between an index and itself there is none
pub none_lowered : (T : TimetableData) (t from : ℕ) (times : List (Option ℤ)) → AreLowered T t from from times times
none_lowered T t from times p x = (λ h. inl h, back)
  where
    back : IsBy times p x ⊎ IsAlighting T t from from p x → IsBy times p x
    back (inl h) = h
    back (inr a) = absurd (omega (arith, a.first, a.last))

-- one call more
pub lowered_more : (T : TimetableData) (t from at : ℕ) (old mid new : List (Option ℤ)) (c : Call) → from ≤ at → c ≡ call_of (event_at T t at) → AreLowered T t from at old mid
    → ((p : ℕ) (x : ℤ) → (IsBy new p x → IsBy mid p x ⊎ (IsTrue c.alight × (c.stop ≡ p) × (c.arr ≤ℤ x))) × (IsBy mid p x ⊎ (IsTrue c.alight × (c.stop ≡ p) × (c.arr ≤ℤ x)) → IsBy new p x)) → AreLowered T t from (at + 1) old new
lowered_more T t from at old mid new c order is before one p x = (λ h. forth ((one p x).0 h), back)
  where
    here : IsTrue c.alight × (c.stop ≡ p) × (c.arr ≤ℤ x) → IsAlighting T t from (at + 1) p x
    here h =
        let k = subst (λ (d : Call). (d.alight ≡ true) × (d.stop ≡ p) × (d.arr ≤ℤ x)) is h in
        record { at = at; first = order; last = omega arith; alights = k.0; stop = k.1; by = k.2 }

    forth : IsBy mid p x ⊎ (IsTrue c.alight × (c.stop ≡ p) × (c.arr ≤ℤ x)) → IsBy old p x ⊎ IsAlighting T t from (at + 1) p x
    forth (inr h) = inr (here h)
    forth (inl h) = elim ((before p x).0 h) [ inl k ↦ inl k | inr a ↦ inr (record { at = a.at; first = a.first; last = omega (arith, a.last); alights = a.alights; stop = a.stop; by = a.by }) ]

    own : (a : IsAlighting T t from (at + 1) p x) → (a.at < at) ⊎ (a.at ≡ at) → IsBy new p x
    own a (inl less) = (one p x).1 (inl ((before p x).1 (inr (record { at = a.at; first = a.first; last = less; alights = a.alights; stop = a.stop; by = a.by }))))
    own a (inr e) =
        let k : ((event_at T t at).alight ≡ true) × ((event_at T t at).stop ≡ p) × ((event_at T t at).arr ≤ℤ x) =
        subst (λ i. ((event_at T t i).alight ≡ true) × ((event_at T t i).stop ≡ p) × ((event_at T t i).arr ≤ℤ x)) e (a.alights, a.stop, a.by) in
        (one p x).1 (inr (subst (λ (d : Call). (d.alight ≡ true) × (d.stop ≡ p) × (d.arr ≤ℤ x)) (sym is) k))

    back : IsBy old p x ⊎ IsAlighting T t from (at + 1) p x → IsBy new p x
    back (inl h) = (one p x).1 (inl ((before p x).1 (inl h)))
    back (inr a) = own a (below_or_at a.at at a.last)

-- at the end of a loop
pub lowered_until : (T : TimetableData) (t from at to : ℕ) (old new : List (Option ℤ)) → to ≤ at → (at ≤ to) ⊎ (at ≡ from) → AreLowered T t from at old new → AreLowered T t from to old new
lowered_until T t from at to old new past until lowered p x = by_case until
  where
    by_case : (at ≤ to) ⊎ (at ≡ from) → (IsBy new p x → IsBy old p x ⊎ IsAlighting T t from to p x) × (IsBy old p x ⊎ IsAlighting T t from to p x → IsBy new p x)
    by_case (inl h) = subst (λ n. (IsBy new p x → IsBy old p x ⊎ IsAlighting T t from n p x) × (IsBy old p x ⊎ IsAlighting T t from n p x → IsBy new p x)) (let e : at ≡ to = omega (arith, h, past) in e) (lowered p x)
    by_case (inr e) = (λ h. elim ((lowered p x).0 h) [ inl k ↦ inl k | inr a ↦ absurd (omega (arith, a.first, a.last, e)) ], back)
      where
        back : IsBy old p x ⊎ IsAlighting T t from to p x → IsBy new p x
        back (inl h) = (lowered p x).1 (inl h)
        back (inr a) = absurd (omega (arith, a.first, a.last, e, past))

pub reached_more : (T : TimetableData) (times : List (Option ℤ)) (t from at : ℕ) (c : Call) → c ≡ call_of (event_at T t at) → AreReached T times t from at → (IsTrue c.alight → IsReachedOnFoot T times c.stop c.arr) → AreReached T times t from (at + 1)
reached_more T times t from at c is before one i first last alights = by_case (below_or_at i at last)
  where
    by_case : (i < at) ⊎ (i ≡ at) → IsReachedOnFoot T times (event_at T t i).stop (event_at T t i).arr
    by_case (inl less) = before i first less alights
    by_case (inr e) = subst (λ (d : Call). (d.alight ≡ true) → IsReachedOnFoot T times d.stop d.arr) (is ∙ ap (λ k. call_of (event_at T t k)) (sym e)) one alights
