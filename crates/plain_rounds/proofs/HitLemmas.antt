-- The earliest of some hits, more looked at.
use Rattle.std.proofs.Common.{◌≡◌, ℕ, ◌<◌, ◌≤◌, ◌+◌, ◌⊎◌, inl, inr, List, length, get_or, sym, ap, subst, ◌∙◌, arith, Option, None, Some, ℤ, pos, ◌+ℤ◌, ◌≤ℤ◌}
use Rattle.std.specs.Prelude.{IfSome, IsSomeAnd, MatchOption, Contains, unwrap_or}
use Rattle.std.proofs.lemmas.Int.{ints}
use Rattle.tb_base.specs.TimetableData.{TimetableData}
use Rattle.tb_base.specs.Walking.{walk}
use Rattle.tb_laws.proofs.CandidateLaws.{some_and}
use Rattle.plain_rounds.specs.declared.hits.TargetArrival.{TargetArrival}
use Rattle.plain_rounds.specs.declared.labels.StopLabel.{StopLabel}
use Rattle.plain_rounds.specs.declared.legs.Near.{Near}
use Rattle.plain_rounds.specs.Hits.{IsEarliest, IsHitFrom, IsDueFrom}
use Rattle.plain_rounds.specs.Shown.{IsNearest, IsNearestOf}
use Rattle.plain_rounds.proofs.Least.{get_or-inside}
use Rattle.plain_rounds.proofs.NearLemmas.{nearest-shown}
use Rattle.tb_base.proofs.NumberFacts.{below_or_at, ≤ℤ-trans}

pub earliest-same : (P Q : TargetArrival → Type 0) (D E : ℤ → Type 0) → ((h : TargetArrival) → P h → Q h) → ((t : ℤ) → E t → D t) → (o : Option TargetArrival) → IsEarliest P D o → IsEarliest Q E o
earliest-same P Q D E f g None h = λ t due. h t (g t due)
earliest-same P Q D E f g (Some x) h = (f x h.0, λ t due. h.1 t (g t due))

-- the earlier of two
pub earliest-then : (P Q : TargetArrival → Type 0) (D E : ℤ → Type 0) (a b r : Option TargetArrival) → IfSome r (λ h. (a ≡ Some h) ⊎ (b ≡ Some h)) → IfSome a (λ x. MatchOption r ⊥ (λ h. h.arrive ≤ℤ x.arrive)) → IfSome b (λ x. MatchOption r ⊥ (λ h. h.arrive ≤ℤ x.arrive)) →
    IsEarliest P D a → IsEarliest Q E b → IsEarliest (λ h. P h ⊎ Q h) (λ t. D t ⊎ E t) r
earliest-then P Q D E None None None one first second h k = λ t due. elim due [ inl d ↦ h t d | inr e ↦ k t e ]
earliest-then P Q D E (Some x) b None one first second h k = absurd first
earliest-then P Q D E None (Some y) None one first second h k = absurd second
earliest-then P Q D E a b (Some r) one first second h k = (had one, λ t due. within t due)
  where
    at_some : {x y : TargetArrival} → Some x ≡ Some y → x ≡ y
    at_some e = cc

    hit_of : (R : TargetArrival → Type 0) (F : ℤ → Type 0) (o : Option TargetArrival) → o ≡ Some r → IsEarliest R F o → R r
    hit_of R F None e h = cc
    hit_of R F (Some x) e h = subst R (at_some e) h.0

    had : (a ≡ Some r) ⊎ (b ≡ Some r) → P r ⊎ Q r
    had (inl e) = inl (hit_of P D a e h)
    had (inr e) = inr (hit_of Q E b e k)

    within_one : (R : TargetArrival → Type 0) (F : ℤ → Type 0) (o : Option TargetArrival) → IfSome o (λ x. r.arrive ≤ℤ x.arrive) → IsEarliest R F o → (t : ℤ) → F t → r.arrive ≤ℤ t
    within_one R F None le h t due = absurd (h t due)
    within_one R F (Some x) le h t due = ≤ℤ-trans r.arrive x.arrive t le (h.1 t due)

    within : (t : ℤ) → D t ⊎ E t → r.arrive ≤ℤ t
    within t (inl d) = within_one P D a first h t d
    within t (inr e) = within_one Q E b second k t e

-- one more of some that are looked at in turn
pub earliest-more : (P : ℕ → TargetArrival → Type 0) (D : ℕ → ℤ → Type 0) (i : ℕ) (a b r : Option TargetArrival) → IfSome r (λ h. (a ≡ Some h) ⊎ (b ≡ Some h)) → IfSome a (λ x. MatchOption r ⊥ (λ h. h.arrive ≤ℤ x.arrive)) → IfSome b (λ x. MatchOption r ⊥ (λ h. h.arrive ≤ℤ x.arrive)) →
    IsEarliest (λ h. (k : ℕ) × (k < i) × P k h) (λ t. (k : ℕ) × (k < i) × D k t) a → IsEarliest (P i) (D i) b → IsEarliest (λ h. (k : ℕ) × (k < i + 1) × P k h) (λ t. (k : ℕ) × (k < i + 1) × D k t) r
earliest-more P D i a b r one first second h k =
    earliest-same (λ h. ((k : ℕ) × (k < i) × P k h) ⊎ P i h) (λ h. (k : ℕ) × (k < i + 1) × P k h) (λ t. ((k : ℕ) × (k < i) × D k t) ⊎ D i t) (λ t. (k : ℕ) × (k < i + 1) × D k t)
    (λ x p. elim p [ inl q ↦ (q.0, omega (arith, q.1), q.2) | inr q ↦ (i, omega arith, q) ])
    (λ t d. by_case t d.0 d.2 (below_or_at d.0 i d.1)) r
    (earliest-then (λ h. (k : ℕ) × (k < i) × P k h) (P i) (λ t. (k : ℕ) × (k < i) × D k t) (D i) a b r one first second h k)
  where
    by_case : (t : ℤ) (j : ℕ) → D j t → (j < i) ⊎ (j ≡ i) → ((k : ℕ) × (k < i) × D k t) ⊎ D i t
    by_case t j d (inl below) = inl (j, below, d)
    by_case t j d (inr e) = inr (subst (λ n. D n t) e d)

-- all numbers of a list in turn
pub earliest-contained : (P : ℕ → TargetArrival → Type 0) (D : ℕ → ℤ → Type 0) (ns : List ℕ) (i : ℕ) → i ≡ length ns → (o : Option TargetArrival) →
    IsEarliest (λ h. (k : ℕ) × (k < i) × P (get_or ns k 0) h) (λ t. (k : ℕ) × (k < i) × D (get_or ns k 0) t) o → IsEarliest (λ h. (n : ℕ) × Contains ns n × P n h) (λ t. (n : ℕ) × Contains ns n × D n t) o
earliest-contained P D ns i all o h =
    earliest-same (λ h. (k : ℕ) × (k < i) × P (get_or ns k 0) h) (λ h. (n : ℕ) × Contains ns n × P n h) (λ t. (k : ℕ) × (k < i) × D (get_or ns k 0) t) (λ t. (n : ℕ) × Contains ns n × D n t)
    (λ x p. let inside : p.0 < length ns = omega (arith, all, p.1) in (get_or ns p.0 0, (p.0, inside, get_or-inside ns p.0 (get_or ns p.0 0) 0 inside), p.2))
    (λ t d. (d.1.0, omega (arith, all, d.1.1), subst (λ n. D n t) (sym (get_or-inside ns d.1.0 0 d.0 d.1.1 ∙ d.1.2)) d.2)) o h

-- by the walk to the nearest target
module _ (T : TimetableData) (targets : List ℕ) (p : ℕ) (l : StopLabel) where
  pub no_hit : IsNearestOf (λ q. walk T p q) (Contains targets) None → (t : ℤ) → IsDueFrom T targets p l t → ⊥
  no_hit none t (q, among, walks) = let w = some_and (λ secs. t ≡ (l.time +ℤ pos secs)) (walk T p q) walks in none q w.0 among w.1

  pub nearest_hit : (n : Near) → IsNearestOf (λ q. walk T p q) (Contains targets) (Some n) → (h : TargetArrival) → h.arrive ≡ (l.time +ℤ pos n.secs) → h.from ≡ p → h.target ≡ n.stop → h.ride ≡ l.ride →
      IsHitFrom T targets p l h × ((t : ℤ) → IsDueFrom T targets p l t → h.arrive ≤ℤ t)
  nearest_hit n near h arrive from target ride = (
    record {
      from = from;
      ride = ride;
      nearest = subst (λ q. IsNearest (λ q. walk T p q) targets q) (sym target) (nearest-shown (λ q. walk T p q) targets n near);
      arrives = arrive ∙ ap (λ s. l.time +ℤ pos s) (sym (ap (λ q. unwrap_or (walk T p q) 0) target ∙ ap (λ o. unwrap_or o 0) near.1));
    },
    λ t due. by_due t due.0 due.1 due.2,
  )
    where
      plus : (a b : ℤ) (m s : ℕ) → b ≡ (a +ℤ pos s) → m ≤ s → (a +ℤ pos m) ≤ℤ b
      plus a b m s e h = omega (arith, ints, e, h)

      as_near : (s q : ℕ) → (n.secs < s) ⊎ ((n.secs ≡ s) × (n.stop ≤ q)) → n.secs ≤ s
      as_near s q (inl h) = omega (arith, h)
      as_near s q (inr h) = omega (arith, h.0)

      by_due : (t : ℤ) (q : ℕ) → Contains targets q → IsSomeAnd (walk T p q) (λ secs. t ≡ (l.time +ℤ pos secs)) → h.arrive ≤ℤ t
      by_due t q among walks =
          let w = some_and (λ secs. t ≡ (l.time +ℤ pos secs)) (walk T p q) walks in
          subst (λ a. a ≤ℤ t) (sym arrive) (plus l.time t n.secs w.0 w.2 (as_near w.0 q (near.2 q w.0 among w.1)))
