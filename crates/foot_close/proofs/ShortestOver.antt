-- Shortest chains over the first stops, one stop more.
use Rattle.std.proofs.Common.{◌≡◌, ◌∙◌, sym, ap, refl, ℕ, zero, suc, ◌+◌, ◌<◌, ◌≤◌, ◌⊎◌, List, [], ◌∷◌, ◌++◌, Option, Some, None, arith, inl, inr, min}
use Rattle.std.specs.Prelude.{⊤, MatchOption, IsSomeAnd}
use Rattle.std.proofs.lemmas.Bool.{cases_lt}
use Rattle.footpaths.specs.Footpaths.{Changes}
use Rattle.foot_close.specs.Closure.{chain, IsShortest, IsClosure}
use Rattle.foot_close.specs.Shortest.{lesser, both, shortest_over}
use Rattle.foot_close.proofs.Chains.{parts_by, chain-append}

-- each stop of a list is among the first k
abbrev pub AreBelow : ℕ → List ℕ → Type 0
AreBelow k [] = ⊤
AreBelow k (q ∷ via) = (q < k) × AreBelow k via

-- there are at most so many seconds
abbrev pub AtMost : Option ℕ → ℕ → Type 0
AtMost o s = IsSomeAnd o (λ u. u ≤ s)

-- a chain over the first k stops
pub record IsAttained (given : Changes) (k p r s : ℕ) : Type 0 where
  pub via : List ℕ
  pub below : AreBelow k via
  pub is : chain given p via r ≡ Some s

below_more : (k : ℕ) (via : List ℕ) → AreBelow k via → AreBelow (suc k) via
below_more k [] h = tt
below_more k (q ∷ via) h = (omega (arith, h.0), below_more k via h.1)

below_both : (k : ℕ) (via : List ℕ) (q : ℕ) (later : List ℕ) → AreBelow k via → q < k → AreBelow k later → AreBelow k (via ++ q ∷ later)
below_both k [] q later h i l = (i, l)
below_both k (m ∷ via) q later h i l = (h.0, below_both k via q later h.1 i l)

lesser_left : (a b : Option ℕ) (s : ℕ) → AtMost a s → AtMost (lesser a b) s
lesser_left None b s h = absurd h
lesser_left (Some a) None s h = h
lesser_left (Some a) (Some b) s h = omega (arith, h)

lesser_right : (a b : Option ℕ) (s : ℕ) → AtMost b s → AtMost (lesser a b) s
lesser_right None b s h = h
lesser_right (Some a) None s h = absurd h
lesser_right (Some a) (Some b) s h = omega (arith, h)

both_most : (a b : Option ℕ) (s t : ℕ) → AtMost a s → AtMost b t → AtMost (both a b) (s + t)
both_most None b s t h k = absurd h
both_most (Some a) None s t h k = absurd k
both_most (Some a) (Some b) s t h k = omega (arith, h, k)

lesser_is : (a b : Option ℕ) (s : ℕ) → lesser a b ≡ Some s → (a ≡ Some s) ⊎ (b ≡ Some s)
lesser_is None b s e = inr e
lesser_is (Some a) None s e = inl e
lesser_is (Some a) (Some b) s e =
    elim (cases_lt a b) [
      | inl l ↦ (let m : min a b ≡ a = omega arith in inl (ap (λ n. Some n) (sym m) ∙ e))
      | inr l ↦ (let m : min a b ≡ b = omega arith in inr (ap (λ n. Some n) (sym m) ∙ e))
    ]

-- less than the lesser: less than one of the two
most_is : (a b : Option ℕ) (s : ℕ) → AtMost (lesser a b) s → AtMost a s ⊎ AtMost b s
most_is None b s h = inr h
most_is (Some a) None s h = inl h
most_is (Some a) (Some b) s h =
    elim (cases_lt a b) [
      | inl l ↦ (let m : a ≤ s = omega (arith, h) in inl m)
      | inr l ↦ (let m : b ≤ s = omega (arith, h) in inr m)
    ]

record AreParts (a b : Option ℕ) (s : ℕ) : Type 0 where
  first : ℕ
  second : ℕ
  first_is : AtMost a first
  second_is : AtMost b second
  total : first + second ≤ s

most_parts : (a b : Option ℕ) (s : ℕ) → AtMost (both a b) s → AreParts a b s
most_parts None b s h = absurd h
most_parts (Some a) None s h = absurd h
most_parts (Some a) (Some b) s h = record { first = a; second = b; first_is = omega arith; second_is = omega arith; total = h }

weaker : (o : Option ℕ) (s t : ℕ) → AtMost o s → s ≤ t → AtMost o t
weaker None s t h le = absurd h
weaker (Some a) s t h le = omega (arith, h)

most_of : (o : Option ℕ) (s : ℕ) → o ≡ Some s → AtMost o s
most_of o s e = rw e (let r : s ≤ s = omega arith in r)

-- what is attained, of seconds that are there
some_of : (o : Option ℕ) (s : ℕ) → AtMost o s → (t : ℕ) × (o ≡ Some t) × (t ≤ s)
some_of None s h = absurd h
some_of (Some t) s h = (t, refl, h)

pub attained : (given : Changes) (k p r s : ℕ) → shortest_over k given p r ≡ Some s → IsAttained given k p r s
attained given zero p r s e = record { via = []; below = tt; is = e }
attained given (suc k) p r s e =
    elim (lesser_is (shortest_over k given p r) (both (shortest_over k given p k) (shortest_over k given k r)) s e) [
      | inl f ↦ (let h = attained given k p r s f in record { via = h.via; below = below_more k h.via h.below; is = h.is })
      | inr f ↦
          let h = parts_by (shortest_over k given p k) (shortest_over k given k r) s f in
          let first = attained given k p k h.0 h.2 in
          let second = attained given k k r h.1 h.3 in
          record {
            via = first.via ++ k ∷ second.via;
            below = below_both (suc k) first.via k second.via (below_more k first.via first.below) (omega arith) (below_more k second.via second.below);
            is = chain-append given p first.via k second.via r h.0 h.1 first.is second.is ∙ ap (λ n. Some n) h.4;
          }
    ]

abbrev pub Least : Changes → ℕ → Type 0
Least given k = (p : ℕ) (via : List ℕ) (r s : ℕ) → AreBelow k via → chain given p via r ≡ Some s → AtMost (shortest_over k given p r) s

-- over one of the first k stops
over_one : (given : Changes) (k : ℕ) → Least given k → (p q r s t : ℕ) → q < k → AtMost (shortest_over k given p q) s → AtMost (shortest_over k given q r) t → AtMost (shortest_over k given p r) (s + t)
over_one given k least p q r s t below h i =
    let a = some_of (shortest_over k given p q) s h in
    let b = some_of (shortest_over k given q r) t i in
    let first = attained given k p q a.0 a.1 in
    let second = attained given k q r b.0 b.1 in
    weaker (shortest_over k given p r) (a.0 + b.0) (s + t)
    (least p (first.via ++ q ∷ second.via) r (a.0 + b.0) (below_both k first.via q second.via first.below below second.below) (chain-append given p first.via q second.via r a.0 b.0 first.is second.is))
    (omega (arith, a.2, b.2))

step_over : (given : Changes) (k : ℕ) → Least given k → (p q r a b : ℕ) → q < suc k → given p q ≡ Some a → AtMost (shortest_over (suc k) given q r) b → AtMost (shortest_over (suc k) given p r) (a + b)
step_over given k least p q r a b below e h =
    elim (cases_lt q k) [
      | inl l ↦ elim (most_is (shortest_over k given q r) (both (shortest_over k given q k) (shortest_over k given k r)) b h) [
        | inl i ↦ lesser_left (shortest_over k given p r) (both (shortest_over k given p k) (shortest_over k given k r)) (a + b) (over_one given k least p q r a b l (least p [] q a tt e) i)
        | inr i ↦
            let parts = most_parts (shortest_over k given q k) (shortest_over k given k r) b i in
            let there = over_one given k least p q k a parts.first l (least p [] q a tt e) parts.first_is in
            lesser_right (shortest_over k given p r) (both (shortest_over k given p k) (shortest_over k given k r)) (a + b)
            (weaker (both (shortest_over k given p k) (shortest_over k given k r)) (a + parts.first + parts.second) (a + b) (both_most (shortest_over k given p k) (shortest_over k given k r) (a + parts.first) parts.second there parts.second_is) (omega (arith, parts.total)))
      ]
      | inr l ↦
          let same : q ≡ k = omega arith in
          let there : AtMost (shortest_over k given p k) a = least p [] k a tt (rw same at e) in
          let on : AtMost (shortest_over k given k r) b = elim (most_is (shortest_over k given k r) (both (shortest_over k given k k) (shortest_over k given k r)) b (rw same at h)) [
            | inl i ↦ i
            | inr i ↦ (let parts = most_parts (shortest_over k given k k) (shortest_over k given k r) b i in weaker (shortest_over k given k r) parts.second b parts.second_is (omega (arith, parts.total)))
          ] in
          lesser_right (shortest_over k given p r) (both (shortest_over k given p k) (shortest_over k given k r)) (a + b) (both_most (shortest_over k given p k) (shortest_over k given k r) a b there on)
    ]

least_more : (given : Changes) (k : ℕ) → Least given k → Least given (suc k)
least_more given k least p [] r s below e = lesser_left (shortest_over k given p r) (both (shortest_over k given p k) (shortest_over k given k r)) s (least p [] r s tt e)
least_more given k least p (q ∷ via) r s below e =
    let h = parts_by (given p q) (chain given q via r) s e in
    weaker (shortest_over (suc k) given p r) (h.0 + h.1) s
    (step_over given k least p q r h.0 h.1 below.0 h.2 (least_more given k least q via r h.1 below.1 h.3))
    (omega (arith, h.4))

pub least_over : (given : Changes) (k : ℕ) → Least given k
least_over given zero p [] r s below e = most_of (given p r) s e
least_over given zero p (q ∷ via) r s below e = absurd (omega (arith, below.0))
least_over given (suc k) p via r s below e = least_more given k (least_over given k) p via r s below e

-- where changes lead to the first n stops alone, all chains are over these
all_below : (given : Changes) (n : ℕ) → ((p q s : ℕ) → given p q ≡ Some s → q < n) → (p : ℕ) (via : List ℕ) (r s : ℕ) → chain given p via r ≡ Some s → AreBelow n via
all_below given n within p [] r s e = tt
all_below given n within p (q ∷ via) r s e =
    let h = parts_by (given p q) (chain given q via r) s e in
    (within p q h.0 h.2, all_below given n within q via r h.1 h.3)

closure_at : (given : Changes) (n : ℕ) → ((p q s : ℕ) → given p q ≡ Some s → q < n) → (p r : ℕ) (o : Option ℕ) → shortest_over n given p r ≡ o → MatchOption o ((via : List ℕ) → chain given p via r ≡ None) (IsShortest given p r)
closure_at given n within p r None e = λ via. none via (chain given p via r) refl
  where
    none : (via : List ℕ) (o : Option ℕ) → chain given p via r ≡ o → chain given p via r ≡ None
    none via None f = f
    none via (Some s) f =
        let h = some_of (shortest_over n given p r) s (least_over given n p via r s (all_below given n within p via r s f) f) in
        absurd (let c : None ≡ Some h.0 = sym e ∙ h.1 in cc)
closure_at given n within p r (Some t) e =
    let a = attained given n p r t e in
    record {
      via = a.via;
      attained = a.is;
      least = λ other s f.
          (let h = some_of (shortest_over n given p r) s (least_over given n p other r s (all_below given n within p other r s f) f) in
          let same : Some t ≡ Some h.0 = sym e ∙ h.1 in
          let same_secs : t ≡ h.0 = cc in
          omega (arith, h.2));
    }

pub is_closure : (given : Changes) (n : ℕ) → ((p q s : ℕ) → given p q ≡ Some s → q < n) → IsClosure given (shortest_over n given)
is_closure given n within p r = closure_at given n within p r (shortest_over n given p r) refl
