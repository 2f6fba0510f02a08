-- Values that are offered to stops, one by one.
use Rattle.std.proofs.Common.{◌≡◌, ◌≢◌, ◌∙◌, ℕ, zero, suc, ◌+◌, ◌-◌, ◌<◌, ◌≤◌, ◌⊎◌, inl, inr, ◌==◌, List, [], ◌∷◌, ◌++◌, Bool, cond, true, false, length, map, set, get_or, refl, sym, ap, subst, arith, ℤ, ◌<ℤ◌}
use Rattle.std.specs.Prelude.{All, AllPairs, Contains, Some, int_le, slice_get}
use Rattle.std.proofs.lemmas.Int.{ints}
use Rattle.std.proofs.lemmas.Bool.{cases_eq, eq-eqb, eqb-true, eqb-false, ne_eqb}
use Rattle.std.proofs.lemmas.List.{get_or-map, get_or-set_same, get_or-set_other, length-set, map-set}
use Rattle.std.proofs.lemmas.List.Elements.{All-contains}
use Rattle.tb_base.specs.declared.query.Value.{Value}
use Rattle.tb_base.specs.BestValues.{IsNoWorse, IsStep}
use Rattle.tb_base.proofs.Members.{All-from_Member, AllPairs-cons}
use Rattle.tb_base.proofs.NumberFacts.{int_le-true, int_le-false, ≤ℤ-refl}
use Rattle.tb_base.proofs.Ordered.{Member, Member-from_Contains, Contains-from_Member, AllPairs-head, AllPairs-tail}
use Rattle.tb_base.proofs.Values.{IsNoWorse-trans}
use Rattle.tb_laws.specs.Pruning.{IsLate}
use Rattle.reach_all.specs.Reach.{values_at}
use Rattle.reach_all.specs.Arriving.{AreStairs, Keep, with_value}

-- a list with a last item has one item at least
pub some_last : (xs : List Value) (w : Value) → slice_get xs (length xs - 1) ≡ Some w → (length xs - 1) + 1 ≡ length xs
some_last [] w is = cc
some_last (x ∷ xs) w is = omega arith

module _ (w v : Value) where
  -- the last arrives as early
  pub with_value-left : (xs : List Value) (k : ℕ) → k + 1 ≡ length xs → slice_get xs k ≡ Some w → int_le w.arrive v.arrive ≡ true → with_value xs v ≡ xs
  with_value-left [] k end is early = absurd (omega (arith, end))
  with_value-left (x ∷ []) zero end is early = let same : x ≡ w = cc in ap (λ b. cond b (x ∷ []) (cond (x.rides == v.rides) (v ∷ []) (x ∷ v ∷ []))) (ap (λ (z : Value). int_le z.arrive v.arrive) same ∙ early)
  with_value-left (x ∷ []) (suc k) end is early = absurd (omega (arith, end))
  with_value-left (x ∷ y ∷ more) zero end is early = absurd (omega (arith, end))
  with_value-left (x ∷ y ∷ more) (suc k) end is early = ap (λ vs. x ∷ vs) (with_value-left (y ∷ more) k (omega (arith, end)) is early)

  -- the last arrives later, with as many rides
  pub with_value-put : (xs : List Value) (k : ℕ) → k + 1 ≡ length xs → slice_get xs k ≡ Some w → int_le w.arrive v.arrive ≡ false → w.rides ≡ v.rides → with_value xs v ≡ set xs k v
  with_value-put [] k end is late same_rides = absurd (omega (arith, end))
  with_value-put (x ∷ []) zero end is late same_rides =
      let same : x ≡ w = cc in
      ap (λ b. cond b (x ∷ []) (cond (x.rides == v.rides) (v ∷ []) (x ∷ v ∷ []))) (ap (λ (z : Value). int_le z.arrive v.arrive) same ∙ late)
      ∙ ap (λ b. cond b (v ∷ []) (x ∷ v ∷ [])) (eq-eqb x.rides v.rides (ap (λ (z : Value). z.rides) same ∙ same_rides))
  with_value-put (x ∷ []) (suc k) end is late same_rides = absurd (omega (arith, end))
  with_value-put (x ∷ y ∷ more) zero end is late same_rides = absurd (omega (arith, end))
  with_value-put (x ∷ y ∷ more) (suc k) end is late same_rides = ap (λ vs. x ∷ vs) (with_value-put (y ∷ more) k (omega (arith, end)) is late same_rides)

  -- the last arrives later, with fewer rides
  pub with_value-more : (xs : List Value) (k : ℕ) → k + 1 ≡ length xs → slice_get xs k ≡ Some w → int_le w.arrive v.arrive ≡ false → w.rides ≢ v.rides → with_value xs v ≡ xs ++ v ∷ []
  with_value-more [] k end is late others = absurd (omega (arith, end))
  with_value-more (x ∷ []) zero end is late others =
      let same : x ≡ w = cc in
      ap (λ b. cond b (x ∷ []) (cond (x.rides == v.rides) (v ∷ []) (x ∷ v ∷ []))) (ap (λ (z : Value). int_le z.arrive v.arrive) same ∙ late)
      ∙ ap (λ b. cond b (v ∷ []) (x ∷ v ∷ [])) (ne_eqb x.rides v.rides (λ e. others (sym (ap (λ (z : Value). z.rides) same) ∙ e)))
  with_value-more (x ∷ []) (suc k) end is late others = absurd (omega (arith, end))
  with_value-more (x ∷ y ∷ more) zero end is late others = absurd (omega (arith, end))
  with_value-more (x ∷ y ∷ more) (suc k) end is late others = ap (λ vs. x ∷ vs) (with_value-more (y ∷ more) k (omega (arith, end)) is late others)

abbrev Held : List Value → Value → Type 0
Held vs v = (w : Value) × Member w vs × IsNoWorse w v

as_good : (v : Value) → IsNoWorse v v
as_good v = (≤ℤ-refl v.arrive, omega arith)

abbrev Few : ℕ → List Value → Type 0
Few rides vs = (w : Value) → Member w vs → w.rides ≤ rides

held : (vs : List Value) (v : Value) → Few v.rides vs → Held (with_value vs v) v
held [] v few = (v, inl refl, as_good v)
held (w ∷ []) v few = by_arrival (int_le w.arrive v.arrive) (w.rides == v.rides) refl
  where
    by_arrival : (a b : Bool) → a ≡ int_le w.arrive v.arrive → Held (cond a (w ∷ []) (cond b (v ∷ []) (w ∷ v ∷ []))) v
    by_arrival true b e = (w, inl refl, (int_le-true w.arrive v.arrive (sym e), few w (inl refl)))
    by_arrival false true e = (v, inl refl, as_good v)
    by_arrival false false e = (v, inr (inl refl), as_good v)
held (w ∷ x ∷ more) v few = let r : Held (with_value (x ∷ more) v) v = held (x ∷ more) v (λ u h. few u (inr h)) in (r.0, inr r.1, r.2)

kept : (vs : List Value) (v u : Value) → Member u vs → Held (with_value vs v) u
kept [] v u h = absurd h
kept (w ∷ []) v u (inr h) = absurd h
kept (w ∷ []) v u (inl is) = subst (λ z. Held (with_value (w ∷ []) v) z) is (by_arrival (int_le w.arrive v.arrive) (w.rides == v.rides) refl refl)
  where
    by_arrival : (a b : Bool) → a ≡ int_le w.arrive v.arrive → b ≡ (w.rides == v.rides) → Held (cond a (w ∷ []) (cond b (v ∷ []) (w ∷ v ∷ []))) w
    by_arrival true b e f = (w, inl refl, as_good w)
    by_arrival false true e f = (v, inl refl, (let h = int_le-false w.arrive v.arrive (sym e) in omega (arith, ints, h), omega (arith, eqb-true w.rides v.rides (sym f))))
    by_arrival false false e f = (w, inl refl, as_good w)
kept (w ∷ x ∷ more) v u (inl is) = (w, inl refl, subst (λ z. IsNoWorse w z) is (as_good w))
kept (w ∷ x ∷ more) v u (inr h) = let r : Held (with_value (x ∷ more) v) u = kept (x ∷ more) v u h in (r.0, inr r.1, r.2)

-- what is there has been there, or is the new one, which arrives before all others
abbrev IsNewest : List Value → Value → Value → Type 0
IsNewest vs v u = (u ≡ v) × ((w : Value) → Member w vs → v.arrive <ℤ w.arrive)

only : (vs : List Value) (v : Value) → AllPairs IsStep vs → (u : Value) → Member u (with_value vs v) → Member u vs ⊎ IsNewest vs v u
only [] v pairs u (inl e) = inr (sym e, λ w h. absurd h)
only [] v pairs u (inr h) = absurd h
only (w ∷ []) v pairs u member = by_arrival (int_le w.arrive v.arrive) (w.rides == v.rides) refl member
  where
    before : false ≡ int_le w.arrive v.arrive → (z : Value) → Member z (w ∷ []) → v.arrive <ℤ z.arrive
    before e z (inl is) = subst (λ x. v.arrive <ℤ Value.arrive x) is (int_le-false w.arrive v.arrive (sym e))
    before e z (inr h) = absurd h

    by_arrival : (a b : Bool) → a ≡ int_le w.arrive v.arrive → Member u (cond a (w ∷ []) (cond b (v ∷ []) (w ∷ v ∷ []))) → Member u (w ∷ []) ⊎ IsNewest (w ∷ []) v u
    by_arrival true b e h = inl h
    by_arrival false true e (inl is) = inr (sym is, before e)
    by_arrival false true e (inr h) = absurd h
    by_arrival false false e (inl is) = inl (inl is)
    by_arrival false false e (inr (inl is)) = inr (sym is, before e)
    by_arrival false false e (inr (inr h)) = absurd h
only (w ∷ x ∷ more) v pairs u (inl is) = inl (inl is)
only (w ∷ x ∷ more) v pairs u (inr h) =
    elim (only (x ∷ more) v (AllPairs-tail IsStep w (x ∷ more) pairs) u h) [
      | inl m ↦ inl (inr m)
      | inr n ↦ inr (n.0, λ z k. before (n.1 x (inl refl)) n.1 z k)
    ]
  where
    before : v.arrive <ℤ x.arrive → ((z : Value) → Member z (x ∷ more) → v.arrive <ℤ z.arrive) → (z : Value) → Member z (w ∷ x ∷ more) → v.arrive <ℤ z.arrive
    before first rest z (inl is) = let s : IsStep w x = AllPairs-head IsStep w (x ∷ more) pairs x (Contains-from_Member x (x ∷ more) (inl refl)) in
        subst (λ y. v.arrive <ℤ Value.arrive y) is (let a = s.1 in omega (arith, ints, first, a))
    before first rest z (inr k) = rest z k

pairs_none : AllPairs IsStep []
pairs_none = λ i j d a b. absurd (omega (arith, b))

pairs_one : (v : Value) → AllPairs IsStep (v ∷ [])
pairs_one v = AllPairs-cons IsStep v [] (λ y h. absurd h) pairs_none

stairs : (vs : List Value) (v : Value) → AllPairs IsStep vs → Few v.rides vs → AllPairs IsStep (with_value vs v)
stairs [] v pairs few = pairs_one v
stairs (w ∷ []) v pairs few = by_arrival (int_le w.arrive v.arrive) (w.rides == v.rides) refl refl
  where
    step : false ≡ int_le w.arrive v.arrive → false ≡ (w.rides == v.rides) → (y : Value) → Member y (v ∷ []) → IsStep w y
    step e f y (inl is) = subst (λ z. IsStep w z) is ((let a = eqb-false w.rides v.rides (sym f) in let b = few w (inl refl) in grind (arith, a, b)), int_le-false w.arrive v.arrive (sym e))
    step e f y (inr h) = absurd h

    by_arrival : (a b : Bool) → a ≡ int_le w.arrive v.arrive → b ≡ (w.rides == v.rides) → AllPairs IsStep (cond a (w ∷ []) (cond b (v ∷ []) (w ∷ v ∷ [])))
    by_arrival true b e f = pairs_one w
    by_arrival false true e f = pairs_one v
    by_arrival false false e f = AllPairs-cons IsStep w (v ∷ []) (step e f) (pairs_one v)
stairs (w ∷ x ∷ more) v pairs few =
    AllPairs-cons IsStep w (with_value (x ∷ more) v) (λ y h. from_here y (only (x ∷ more) v rest y h)) (stairs (x ∷ more) v rest (λ u h. few u (inr h)))
  where
    rest : AllPairs IsStep (x ∷ more)
    rest = AllPairs-tail IsStep w (x ∷ more) pairs

    from_here : (y : Value) → Member y (x ∷ more) ⊎ IsNewest (x ∷ more) v y → IsStep w y
    from_here y (inl m) = AllPairs-head IsStep w (x ∷ more) pairs y (Contains-from_Member y (x ∷ more) m)
    from_here y (inr n) =
        let s : IsStep w x = AllPairs-head IsStep w (x ∷ more) pairs x (Contains-from_Member x (x ∷ more) (inl refl)) in
        let r = s.0 in let a = s.1 in let b = n.1 x (inl refl) in let f = few x (inr (inl refl)) in
        subst (λ z. IsStep w z) (sym n.0) (omega (arith, r, f), omega (arith, ints, a, b))

few_after : (vs : List Value) (v : Value) → AllPairs IsStep vs → Few v.rides vs → Few v.rides (with_value vs v)
few_after vs v pairs few u h = by_place (only vs v pairs u h)
  where
    by_place : Member u vs ⊎ IsNewest vs v u → u.rides ≤ v.rides
    by_place (inl m) = few u m
    by_place (inr n) = omega (arith, ap (λ (z : Value). z.rides) n.0)

few_of : (rides : ℕ) (vs : List Value) → All (λ (v : Value). v.rides ≤ rides) vs → Few rides vs
few_of rides vs all w member = All-contains (λ (v : Value). v.rides ≤ rides) vs w all (Contains-from_Member w vs member)

-- a value that is held
pub late_of : (vs : List Value) (v : Value) → Held vs v → IsLate vs v.arrive v.rides
late_of vs v h = (h.0, Contains-from_Member h.0 vs h.1, h.2)

-- what is late stays so
pub late-kept : (old new : List (List Value)) (q : ℕ) (time : ℤ) (rides : ℕ) → Keep old new → IsLate (values_at old q) time rides → IsLate (values_at new q) time rides
late-kept old new q time rides keep late =
    let r = keep q late.0 late.1 in (r.0, r.1, IsNoWorse-trans r.0 late.0 (record { arrive = time; rides = rides }) r.2 late.2)

pub keep-refl : (lists : List (List Value)) → Keep lists lists
keep-refl lists = λ q w c. (w, c, as_good w)

pub keep-trans : (a b c : List (List Value)) → Keep a b → Keep b c → Keep a c
keep-trans a b c f g = λ q w here.
    let r = f q w here in let s = g q r.0 r.1 in (s.0, s.1, IsNoWorse-trans s.0 r.0 w s.2 r.2)

-- a value has been offered to a stop
pub record Offered (p : ℕ) (v : Value) (old new : List (List Value)) : Type 0 where
  pub each_stop : length new ≡ length old
  pub held : IsLate (values_at new p) v.arrive v.rides
  pub kept : Keep old new
  pub only : (q : ℕ) (w : Value) → Contains (values_at new q) w → Contains (values_at old q) w ⊎ ((q ≡ p) × (w ≡ v))
  pub stairs : AreStairs v.rides new

module _ (p : ℕ) (v : Value) (lists : List (List Value)) (inside : p < length lists) (before : AreStairs v.rides lists) where
  abbrev row : List Value
  row = values_at lists p

  abbrev new : List (List Value)
  new = set lists p (with_value row v)

  here : values_at new p ≡ with_value row v
  here = get_or-set_same lists p (with_value row v) [] inside

  few : Few v.rides row
  few = few_of v.rides row (before.few p)

  -- at another stop all is as before
  at_stop : (P : ℕ → List Value → Type 0) → P p (with_value row v) → ((q : ℕ) → P q (values_at lists q)) → (q : ℕ) → P q (values_at new q)
  at_stop P this others q =
      elim (cases_eq q p) [
        | inl e ↦ subst (λ k. P k (values_at new k)) (sym e) (subst (P p) (sym here) this)
        | inr n ↦ subst (P q) (sym (get_or-set_other lists p q (with_value row v) [] n)) (others q)
      ]

  keeps_row : (w : Value) → Contains row w → (u : Value) × Contains (with_value row v) u × IsNoWorse u w
  keeps_row w c = let r : Held (with_value row v) w = kept row v w (Member-from_Contains w row c) in (r.0, Contains-from_Member r.0 (with_value row v) r.1, r.2)

  keeps : Keep lists new
  keeps q = at_stop (λ k vs. (w : Value) → Contains (values_at lists k) w → (u : Value) × Contains vs u × IsNoWorse u w) keeps_row (λ k w c. (w, c, as_good w)) q

  offered_here : Offered p v lists new
  offered_here = record {
    each_stop = length-set lists p (with_value row v);
    held = subst (λ vs. IsLate vs v.arrive v.rides) (sym here) (late_of (with_value row v) v (held row v few));
    kept = keeps;
    only = λ q. at_stop (λ k vs. (w : Value) → Contains vs w → Contains (values_at lists k) w ⊎ ((k ≡ p) × (w ≡ v))) (λ w c. by_place w (only row v (before.stairs p) w (Member-from_Contains w (with_value row v) c))) (λ k w c. inl c) q;
    stairs = record {
      few = at_stop (λ k vs. All (λ (u : Value). u.rides ≤ v.rides) vs) (All-from_Member (λ (u : Value). u.rides ≤ v.rides) (with_value row v) (few_after row v (before.stairs p) few)) before.few;
      stairs = at_stop (λ k vs. AllPairs IsStep vs) (stairs row v (before.stairs p) few) before.stairs;
    };
  }
    where
      by_place : (w : Value) → Member w row ⊎ IsNewest row v w → Contains row w ⊎ ((p ≡ p) × (w ≡ v))
      by_place w (inl m) = inl (Contains-from_Member w row m)
      by_place w (inr n) = inr (refl, n.0)

pub offered : (p : ℕ) (v : Value) (old after : List (List Value)) → p < length old → AreStairs v.rides old → after ≡ set old p (with_value (values_at old p) v) → Offered p v old after
offered p v old after inside before is = subst (λ lists. Offered p v old lists) (sym is) (offered_here p v old inside before)

-- one row of rows is changed
pub row_changed : {V : Type 0} (f : V → List Value) (change : List Value → List Value) (rows : List V) (i : ℕ) (row new : V) → i < length rows → row ≡ get_or rows i row → f new ≡ change (f row)
    → map f (set rows i new) ≡ set (map f rows) i (change (values_at (map f rows) i))
row_changed f change rows i row new inside is made =
    let at : get_or (map f rows) i [] ≡ f row = get_or-map f rows i row [] inside ∙ ap f (sym is) in
    map-set f rows i new ∙ ap (λ x. set (map f rows) i x) (made ∙ ap change (sym at))
