-- The value of legs is added up leg by leg.
use Rattle.std.proofs.Common.{◌≡◌, ◌∙◌, refl, ap, sym, subst, ℕ, zero, suc, ◌+◌, ◌<◌, ◌≤◌, List, [], ◌∷◌, length, get_or, drop, add-one, arith, ℤ}
use Rattle.std.proofs.Math.Seq.{drop-cons}
use Rattle.tb_base.specs.declared.query.Leg.{Leg}
use Rattle.tb_base.specs.declared.query.Leg.TheVariants.{Walk as WalkLeg, Ride as RideLeg}
use Rattle.tb_base.specs.TimetableData.{TimetableData}
use Rattle.journey_read.specs.Judging.{GoesOn, rides_on, time_after, value_after}

-- the first i legs end at this time, after so many rides
pub record AreTaken (T : TimetableData) (asked : ℤ) (legs : List Leg) (i : ℕ) (time : ℤ) (rides : ℕ) : Type 0 where
  pub value : value_after T time rides (drop i legs) ≡ value_after T asked 0 legs
  pub goes_on : GoesOn T time (drop i legs)
  pub count : rides ≤ i

at_most_one : (leg : Leg) → rides_on leg ≤ 1
at_most_one (WalkLeg p q secs) = omega arith
at_most_one (RideLeg t b i) = omega arith

module _ (T : TimetableData) (asked : ℤ) (legs : List Leg) (i : ℕ) (time : ℤ) (rides : ℕ) (leg : Leg) (inside : i < length legs) (at : leg ≡ get_or legs i leg) (taken : AreTaken T asked legs i time rides) where
  rest : drop i legs ≡ leg ∷ drop (i + 1) legs
  rest = rw add-one (drop-cons legs i leg inside ∙ ap (λ y. y ∷ drop (suc i) legs) (sym at))

  -- what the next leg keeps
  pub next_leg : GoesOn T time (leg ∷ drop (i + 1) legs)
  next_leg = subst (GoesOn T time) rest taken.goes_on

  pub one_taken : (now : ℤ) (more : ℕ) → now ≡ time_after T time leg → more ≡ rides + rides_on leg → AreTaken T asked legs (i + 1) now more
  one_taken now more n m =
      let few = at_most_one leg in
      let count = taken.count in
      record {
        value = (λ k. value_after T (n k) (m k) (drop (i + 1) legs)) ∙ (sym (ap (value_after T time rides) rest) ∙ taken.value);
        goes_on = subst (λ t. GoesOn T t (drop (i + 1) legs)) (sym n) next_leg.2;
        count = omega (arith, few, count, m);
      }

module _ (T : TimetableData) (asked : ℤ) (legs : List Leg) where
  pub none_taken : GoesOn T asked legs → AreTaken T asked legs 0 asked 0
  none_taken goes = record { value = refl; goes_on = goes; count = omega arith }

  past : (legs : List Leg) (n : ℕ) → length legs ≤ n → drop n legs ≡ []
  past [] zero h = refl
  past [] (suc n) h = refl
  past (x ∷ xs) zero h = absurd (omega arith)
  past (x ∷ xs) (suc n) h = past xs n (omega arith)

  pub all_taken : (i : ℕ) (time : ℤ) (rides : ℕ) → length legs ≤ i → AreTaken T asked legs i time rides → record { arrive = time; rides = rides } ≡ value_after T asked 0 legs
  all_taken i time rides end taken = ap (value_after T time rides) (sym (past legs i end)) ∙ taken.value
