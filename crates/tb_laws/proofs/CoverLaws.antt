-- Each attained value has a best value that is no worse.
use Rattle.std.proofs.Common.{◌≡◌, ℕ, zero, suc, ◌<◌, ◌≤◌, ◌+◌, ◌⊎◌, inl, inr, List, [], ◌∷◌, ◌&&◌, Bool, true, false, refl, sym, ap, subst, arith, ℤ, pos, negsuc, ◌+ℤ◌, ◌-ℤ◌, ◌≤ℤ◌, ◌<ℤ◌}
use Rattle.std.specs.Prelude.{int_le, nat_le, Contains}
use Rattle.std.proofs.lemmas.Int.{ints}
use Rattle.std.proofs.lemmas.Bool.{leb-true, le-leb, and_parts}
use Rattle.tb_base.specs.declared.query.Value.{Value}
use Rattle.tb_base.specs.TimetableData.{TimetableData}
use Rattle.tb_base.specs.Soundness.{IsSound}
use Rattle.tb_base.specs.Journeys.{Ride, IsRide, Leads, LeadsOn, LeavesNoEarlier, arrival, arrival_after, boarding_time, alighting_time}
use Rattle.tb_base.specs.BestValues.{QueryData, IsAttained, IsNoWorse, IsBest, AreBestValues}
use Rattle.tb_base.proofs.Ordered.{Member, Member-from_Contains, Contains-from_Member}
use Rattle.tb_laws.proofs.CandidateLaws.{some_and}
use Rattle.tb_laws.proofs.UTurnLaws.{ride_onward}
use Rattle.tb_base.proofs.NumberFacts.{≤ℤ-later, ≤ℤ-refl, int_le-true, le-int_le}
use Rattle.tb_base.proofs.Values.{IsNoWorse-trans}

module _ (T : TimetableData) (sound : IsSound T) where
  -- a journey arrives no earlier than its first departure
  arrives_later : (r : Ride) (rest : List Ride) (q : ℕ) → IsRide T r → LeadsOn T r rest q → boarding_time T r ≤ℤ arrival_after T r rest q
  arrives_later r [] q ride on = walked _ _ _ (ride_onward T sound r ride)
    where
      walked : (a b : ℤ) (n : ℕ) → a ≤ℤ b → a ≤ℤ (b +ℤ pos n)
      walked a b n h = omega (arith, ints, h)
  arrives_later r (s ∷ rest) q ride on =
      let c = some_and (λ n. (alighting_time T r +ℤ pos n) ≤ℤ boarding_time T s) _ on.0 in
      chained (boarding_time T r) (alighting_time T r) (boarding_time T s) (arrival_after T s rest q) c.0 (ride_onward T sound r ride) c.2 (arrives_later s rest q on.1 on.2)
    where
      chained : (a b d e : ℤ) (n : ℕ) → a ≤ℤ b → (b +ℤ pos n) ≤ℤ d → d ≤ℤ e → a ≤ℤ e
      chained a b d e n g h k = omega (arith, ints, g, h, k)

  -- nor before its first ride is left
  pub arrives_behind : (r : Ride) (rest : List Ride) (q : ℕ) → LeadsOn T r rest q → alighting_time T r ≤ℤ arrival_after T r rest q
  arrives_behind r [] q on = ≤ℤ-later _ _
  arrives_behind r (s ∷ rest) q on =
      let c = some_and (λ n. (alighting_time T r +ℤ pos n) ≤ℤ boarding_time T s) _ on.0 in
      chained (alighting_time T r) (boarding_time T s) (arrival_after T s rest q) c.0 c.2 (arrives_later s rest q on.1 on.2)
    where
      chained : (b d e : ℤ) (n : ℕ) → (b +ℤ pos n) ≤ℤ d → d ≤ℤ e → b ≤ℤ e
      chained b d e n h k = omega (arith, ints, h, k)

  -- so no value arrives before the asked time
  pub attained_later : (Q : QueryData) (w : Value) → IsAttained T Q w → Q.leave ≤ℤ w.arrive
  attained_later Q w (j, has) = subst (λ a. Q.leave ≤ℤ a) (sym (ap (λ (v : Value). v.arrive) has.value)) (by_rides j.origin j.rides j.target has.journey.leads has.leaves)
    where
      by_rides : (o : ℕ) (rides : List Ride) (q : ℕ) → Leads T o rides q → LeavesNoEarlier T Q.leave o rides → Q.leave ≤ℤ arrival T Q.leave o rides q
      by_rides o [] q leads leaves = ≤ℤ-later Q.leave _
      by_rides o (r ∷ rest) q leads leaves = before Q.leave (boarding_time T r) (arrival_after T r rest q) _ leaves (arrives_later r rest q leads.1 leads.2)
        where
          before : (a d e : ℤ) (n : ℕ) → a ≤ℤ (d -ℤ pos n) → d ≤ℤ e → a ≤ℤ e
          before a d e n g h = omega (arith, ints, g, h)

  pub same_or_less : (u w : Value) → IsNoWorse u w → (u ≡ w) ⊎ ((u.arrive +ℤ pos u.rides) <ℤ (w.arrive +ℤ pos w.rides))
  same_or_less u w le = by_rides (rides_or u.rides w.rides le.1) (times_or u.arrive w.arrive le.0)
    where
      rides_or : (m n : ℕ) → m ≤ n → (m ≡ n) ⊎ (m < n)
      rides_or m n h = grind arith

      times_or : (a b : ℤ) → a ≤ℤ b → (a ≡ b) ⊎ (a <ℤ b)
      times_or a b h = grind (arith, ints)

      sums : (a b : ℤ) (m n : ℕ) → a ≤ℤ b → m < n → (a +ℤ pos m) <ℤ (b +ℤ pos n)
      sums a b m n g h = omega (arith, ints, g, h)

      sums' : (a b : ℤ) (m n : ℕ) → a <ℤ b → m ≤ n → (a +ℤ pos m) <ℤ (b +ℤ pos n)
      sums' a b m n g h = omega (arith, ints, g, h)

      both : (a a' : ℤ) (m m' : ℕ) → a ≡ a' → m ≡ m' → ◌≡◌ {A = Value} (record { arrive = a; rides = m }) (record { arrive = a'; rides = m' })
      both a a' m m' e f = cc

      by_rides : (u.rides ≡ w.rides) ⊎ (u.rides < w.rides) → (u.arrive ≡ w.arrive) ⊎ (u.arrive <ℤ w.arrive) → (u ≡ w) ⊎ ((u.arrive +ℤ pos u.rides) <ℤ (w.arrive +ℤ pos w.rides))
      by_rides (inl e) (inl f) = inl (both _ _ _ _ f e)
      by_rides (inl e) (inr f) = inr (sums' _ _ _ _ f le.1)
      by_rides (inr e) f = inr (sums _ _ _ _ le.0 e)

  -- it cannot be that no best value is no worse than an attained one
  pub some_best : (Q : QueryData) (n : ℕ) (w : Value) → IsAttained T Q w → (w.arrive +ℤ pos w.rides) <ℤ (Q.leave +ℤ pos n) → ((v : Value) → IsBest T Q v → IsNoWorse v w → ⊥) → ⊥
  some_best Q zero w attained small none = let late : Q.leave ≤ℤ w.arrive = attained_later Q w attained in impossible _ _ _ late small
    where
      impossible : (a b : ℤ) (m : ℕ) → a ≤ℤ b → (b +ℤ pos m) <ℤ (a +ℤ pos 0) → ⊥
      impossible a b m g h = omega (arith, ints, g, h)
  some_best Q (suc n) w attained small none =
      none w (record { attained = attained; undominated = λ u has le. by_case u has le (same_or_less u w le) (λ k. some_best Q n u has k (λ v best below. none v best (IsNoWorse-trans v u w below le))) }) (≤ℤ-refl w.arrive, omega arith)
    where
      by_case : (u : Value) → IsAttained T Q u → IsNoWorse u w → (u ≡ w) ⊎ ((u.arrive +ℤ pos u.rides) <ℤ (w.arrive +ℤ pos w.rides)) → ((u.arrive +ℤ pos u.rides) <ℤ (Q.leave +ℤ pos n) → ⊥) → u ≡ w
      by_case u has le (inl e) again = e
      by_case u has le (inr h) again = absurd (again (less _ _ _ n h small))
        where
          less : (a b c : ℤ) (n : ℕ) → a <ℤ b → b <ℤ (c +ℤ pos (suc n)) → a <ℤ (c +ℤ pos n)
          less a b c n g h = omega (arith, ints, g, h)

  pub some_size : (a b : ℤ) (m : ℕ) → a ≤ℤ b → (n : ℕ) × ((b +ℤ pos m) <ℤ (a +ℤ pos n))
  some_size (pos a) (pos b) m h = (suc (b + m), omega (arith, ints, h))
  some_size (pos a) (negsuc b) m h = (suc m, omega (arith, ints, h))
  some_size (negsuc a) (pos b) m h = (suc (suc (a + (b + m))), omega (arith, ints))
  some_size (negsuc a) (negsuc b) m h = (suc (suc (a + m)), omega (arith, ints, h))

  -- The best values cover each attained one.
  pub best_values_cover : (Q : QueryData) (vs : List Value) → AreBestValues T Q vs → (w : Value) → IsAttained T Q w → (v : Value) × Member v vs × IsNoWorse v w
  best_values_cover Q vs are w attained = by_search (search_in vs)
    where
      tests : Value → Bool
      tests v = int_le v.arrive w.arrive && nat_le v.rides w.rides

      no_worse : (v : Value) → (int_le v.arrive w.arrive && nat_le v.rides w.rides) ≡ true → IsNoWorse v w
      no_worse v h = let p = and_parts (int_le v.arrive w.arrive) (nat_le v.rides w.rides) h in (int_le-true _ _ p.0, leb-true _ _ p.1)

      worse : (v : Value) → (int_le v.arrive w.arrive && nat_le v.rides w.rides) ≡ false → IsNoWorse v w → ⊥
      worse v h le = clash _ _ (le-int_le _ _ le.0) (le-leb _ _ le.1) h
        where
          clash : (a b : Bool) → a ≡ true → b ≡ true → (a && b) ≡ false → ⊥
          clash a b g h k = cc

      search_in : (xs : List Value) → ((v : Value) × Member v xs × IsNoWorse v w) ⊎ ((v : Value) → Member v xs → IsNoWorse v w → ⊥)
      search_in [] = inr (λ v h. absurd h)
      search_in (x ∷ xs) = by_test (search_in xs) (int_le x.arrive w.arrive && nat_le x.rides w.rides) refl
        where
          by_test : ((v : Value) × Member v xs × IsNoWorse v w) ⊎ ((v : Value) → Member v xs → IsNoWorse v w → ⊥) → (b : Bool) → b ≡ (int_le x.arrive w.arrive && nat_le x.rides w.rides) → ((v : Value) × Member v (x ∷ xs) × IsNoWorse v w) ⊎ ((v : Value) → Member v (x ∷ xs) → IsNoWorse v w → ⊥)
          by_test more true e = inl (x, inl refl, no_worse x (sym e))
          by_test (inl found) false e = inl (found.0, inr found.1, found.2)
          by_test (inr none) false e = inr (λ v h le. in_list v h le)
            where
              in_list : (v : Value) → Member v (x ∷ xs) → IsNoWorse v w → ⊥
              in_list v (inl f) le = worse x (sym e) (subst (λ u. IsNoWorse u w) (sym f) le)
              in_list v (inr k) le = none v k le

      by_search : ((v : Value) × Member v vs × IsNoWorse v w) ⊎ ((v : Value) → Member v vs → IsNoWorse v w → ⊥) → (v : Value) × Member v vs × IsNoWorse v w
      by_search (inl found) = found
      by_search (inr none) = absurd (let n = some_size Q.leave w.arrive w.rides (attained_later Q w attained) in some_best Q n.0 w attained n.1 (λ v best le. none v (Member-from_Contains v vs (are.complete v best)) le))

  -- the same, said of the list
  pub best_values_contain : (Q : QueryData) (vs : List Value) → AreBestValues T Q vs → (w : Value) → IsAttained T Q w → (v : Value) × Contains vs v × IsNoWorse v w
  best_values_contain Q vs are w attained = let v = best_values_cover Q vs are w attained in (v.0, Contains-from_Member v.0 vs v.1, v.2)

  -- it cannot be that no best value is no worse than an attained one
  pub no_best_is_absurd : (Q : QueryData) (w : Value) → IsAttained T Q w → ((v : Value) → IsBest T Q v → IsNoWorse v w → ⊥) → ⊥
  no_best_is_absurd Q w attained none = let n = some_size Q.leave w.arrive w.rides (attained_later Q w attained) in some_best Q n.0 w attained n.1 none
