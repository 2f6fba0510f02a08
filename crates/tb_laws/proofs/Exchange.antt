-- To exchange the tail of a journey.
use Rattle.std.proofs.Common.{◌≡◌, ℕ, List, [], ◌∷◌, ◌++◌, arith, refl, sym, subst, ℤ, pos, ◌+ℤ◌, ◌-ℤ◌, ◌≤ℤ◌, Option, Some, None}
use Rattle.std.specs.Prelude.{IsSome, IsSomeAnd}
use Rattle.std.proofs.lemmas.Int.{ints}
use Rattle.tb_base.specs.TimetableData.{TimetableData}
use Rattle.tb_base.specs.Walking.{walk, change}
use Rattle.tb_base.specs.Journeys.{Ride, IsRide, CanChange, LeadsOn, Leads, LeavesNoEarlier, leaving_time, arrival, arrival_after, walk_secs, boarding_stop, boarding_time, alighting_stop, alighting_time}
use Rattle.tb_base.specs.Sufficiency.{ChangeIn, DoesAsWell}
pub use Rattle.tb_base.proofs.NumberFacts.{≤ℤ-refl, ≤ℤ-trans}

-- a change by its parts
abbrev pub change_in : ℤ → ℕ → ℕ → List Ride → Ride → Ride → List Ride → ChangeIn
change_in asked o q before r s after = record {
  asked = asked;
  origin = o;
  target = q;
  before = before;
  left = r;
  boarded = s;
  after = after;
}

-- a number that is there, with what holds of it, where it is weakened
pub IsSomeAnd-weaker : (P Q : ℕ → Type 0) → ((n : ℕ) → P n → Q n) → (o : Option ℕ) → IsSomeAnd o P → IsSomeAnd o Q
IsSomeAnd-weaker P Q f None h = absurd h
IsSomeAnd-weaker P Q f (Some n) h = f n h

module _ (T : TimetableData) where
  -- a ride is boarded where another is, and no earlier
  pub record BoardsAs (r r' : Ride) : Type 0 where
    pub stop : boarding_stop T r ≡ boarding_stop T r'
    pub time : boarding_time T r ≤ℤ boarding_time T r'

  -- a ride ends where another does, and no later
  pub record AlightsAs (r r' : Ride) : Type 0 where
    pub stop : alighting_stop T r ≡ alighting_stop T r'
    pub time : alighting_time T r' ≤ℤ alighting_time T r

  pub CanChange-boards : (x r r' : Ride) → BoardsAs r r' → CanChange T x r → CanChange T x r'
  CanChange-boards x r r' like h =
      subst (λ p. IsSomeAnd (change T (alighting_stop T x) p) (λ secs. (alighting_time T x +ℤ pos secs) ≤ℤ boarding_time T r')) like.stop
      (IsSomeAnd-weaker _ (λ secs. (alighting_time T x +ℤ pos secs) ≤ℤ boarding_time T r') (λ secs k. ≤ℤ-trans _ _ _ k like.time) (change T (alighting_stop T x) (boarding_stop T r)) h)

  pub CanChange-alights : (r r' x : Ride) → AlightsAs r r' → CanChange T r x → CanChange T r' x
  CanChange-alights r r' x like h =
      subst (λ p. IsSomeAnd (change T p (boarding_stop T x)) (λ secs. (alighting_time T r' +ℤ pos secs) ≤ℤ boarding_time T x)) like.stop
      (IsSomeAnd-weaker _ (λ secs. (alighting_time T r' +ℤ pos secs) ≤ℤ boarding_time T x) (λ secs k. let t : alighting_time T r' ≤ℤ alighting_time T r = like.time in omega (arith, ints, k, t)) (change T (alighting_stop T r) (boarding_stop T x)) h)

  pub LeadsOn-alights : (r r' : Ride) (after : List Ride) (q : ℕ) → AlightsAs r r' → LeadsOn T r after q → LeadsOn T r' after q
  LeadsOn-alights r r' [] q like h = subst (λ p. IsSome (walk T p q)) like.stop h
  LeadsOn-alights r r' (x ∷ rest) q like h = (CanChange-alights r r' x like h.0, h.1, h.2)

  pub arrival_after-alights : (r r' : Ride) (after : List Ride) (q : ℕ) → AlightsAs r r' → arrival_after T r' after q ≤ℤ arrival_after T r after q
  arrival_after-alights r r' [] q like =
      let t : alighting_time T r' ≤ℤ alighting_time T r = like.time in
      subst (λ p. (alighting_time T r' +ℤ walk_secs T p q) ≤ℤ (alighting_time T r +ℤ walk_secs T (alighting_stop T r) q)) like.stop (plus (walk_secs T (alighting_stop T r) q) t)
    where
      plus : {a b : ℤ} (c : ℤ) → a ≤ℤ b → (a +ℤ c) ≤ℤ (b +ℤ c)
      plus c h = omega (arith, ints, h)
  arrival_after-alights r r' (x ∷ rest) q like = ≤ℤ-refl (arrival_after T x rest q)

  -- the ride behind some others in a journey, and how it goes on
  pub LeadsOn-at : (x : Ride) (before : List Ride) (r : Ride) (tail : List Ride) (q : ℕ) → LeadsOn T x (before ++ r ∷ tail) q → IsRide T r × LeadsOn T r tail q
  LeadsOn-at x [] r tail q h = (h.1, h.2)
  LeadsOn-at x (y ∷ ys) r tail q h = LeadsOn-at y ys r tail q h.2

  pub Leads-at : (o : ℕ) (before : List Ride) (r : Ride) (tail : List Ride) (q : ℕ) → Leads T o (before ++ r ∷ tail) q → IsRide T r × LeadsOn T r tail q
  Leads-at o [] r tail q h = (h.1, h.2)
  Leads-at o (y ∷ ys) r tail q h = LeadsOn-at y ys r tail q h.2

  -- another way on, behind the same rides
  LeadsOn-replace : (x : Ride) (before : List Ride) (r r' : Ride) (tail tail' : List Ride) (q : ℕ) → BoardsAs r r' → IsRide T r' → LeadsOn T r' tail' q → LeadsOn T x (before ++ r ∷ tail) q → LeadsOn T x (before ++ r' ∷ tail') q
  LeadsOn-replace x [] r r' tail tail' q like ride on h = (CanChange-boards x r r' like h.0, ride, on)
  LeadsOn-replace x (y ∷ ys) r r' tail tail' q like ride on h = (h.0, h.1, LeadsOn-replace y ys r r' tail tail' q like ride on h.2)

  arrival_after-behind : (x : Ride) (before : List Ride) (r : Ride) (tail : List Ride) (q : ℕ) → arrival_after T x (before ++ r ∷ tail) q ≡ arrival_after T r tail q
  arrival_after-behind x [] r tail q = refl
  arrival_after-behind x (y ∷ ys) r tail q = arrival_after-behind y ys r tail q

  pub arrival-behind : (asked : ℤ) (o : ℕ) (before : List Ride) (r : Ride) (tail : List Ride) (q : ℕ) → arrival T asked o (before ++ r ∷ tail) q ≡ arrival_after T r tail q
  arrival-behind asked o [] r tail q = refl
  arrival-behind asked o (y ∷ ys) r tail q = arrival_after-behind y ys r tail q

  leaves_later : (asked : ℤ) (o : ℕ) (r r' : Ride) → BoardsAs r r' → asked ≤ℤ leaving_time T o r → asked ≤ℤ leaving_time T o r'
  leaves_later asked o r r' like h =
      subst (λ p. asked ≤ℤ (boarding_time T r' -ℤ walk_secs T o p)) like.stop (minus (walk_secs T o (boarding_stop T r)) like.time h)
    where
      minus : {a b : ℤ} (c : ℤ) → a ≤ℤ b → asked ≤ℤ (a -ℤ c) → asked ≤ℤ (b -ℤ c)
      minus c k h = omega (arith, ints, h, k)

  pub replaced : (asked : ℤ) (o : ℕ) (before : List Ride) (r r' : Ride) (tail tail' : List Ride) (q : ℕ) →
      BoardsAs r r' → IsRide T r' → LeadsOn T r' tail' q → arrival_after T r' tail' q ≤ℤ arrival_after T r tail q →
      Leads T o (before ++ r ∷ tail) q → LeavesNoEarlier T asked o (before ++ r ∷ tail) → DoesAsWell T asked o q (before ++ r ∷ tail) (before ++ r' ∷ tail')
  replaced asked o [] r r' tail tail' q like ride on sooner h leaves = record {
    leads = (subst (λ p. IsSome (walk T o p)) like.stop h.0, ride, on);
    leaves = leaves_later asked o r r' like leaves;
    arrives = sooner;
  }
  replaced asked o (y ∷ ys) r r' tail tail' q like ride on sooner h leaves = record {
    leads = (h.0, h.1, LeadsOn-replace y ys r r' tail tail' q like ride on h.2);
    leaves = leaves;
    arrives = subst (λ a. a ≤ℤ arrival_after T y (ys ++ r ∷ tail) q) (sym (arrival_after-behind y ys r' tail' q))
        (subst (λ a. arrival_after T r' tail' q ≤ℤ a) (sym (arrival_after-behind y ys r tail q)) sooner);
  }
