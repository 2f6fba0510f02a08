-- Sound change times and footpaths keep the footpath law, or there is a first breach of it.
use Rattle.std.proofs.Common.{◌≡◌, ◌≢◌, ◌∙◌, refl, sym, ℕ, ◌+◌, ◌<◌, ◌≤◌, ◌⊎◌, length, inl, inr, Option, Some, None, Bool, true, false, arith}
use Rattle.std.specs.Prelude.{◌==◌}
use Rattle.std.proofs.lemmas.Bool.{cases_lt}
use Rattle.std.proofs.lemmas.Bool.Decides.{nat_tests}
use Rattle.tb_base.specs.Walking.{KeepsFootpathLaw, footpath_secs, change_between}
use Rattle.footpaths.specs.declared.law.LawFault.{LawFault}
use Rattle.footpaths.specs.declared.law.LawFault.TheVariants as why
use Rattle.tb_base.specs.TimetableData.{FootpathData}
use Rattle.footpaths.specs.Law.{AreInARow, IsGood, IsBreach, IsFirstOver, IsFirstFrom, IsFirstBreach}
use Rattle.tb_base.specs.Soundness.{IsSoundFootpaths}
use Rattle.footpaths.proofs.LawLaws.{good_by, law_at}
use Rattle.trip_table.proofs.Breach.{ends}
use Rattle.trip_table.proofs.FirstBad.{first_bad}

-- where there are no two footpaths in a row there is no breach
good_without : (P : FootpathData) (p q r : ℕ) → ((s t : ℕ) → AreInARow P p q r s t → ⊥) → IsGood P p q r
good_without P p q r none = record { there = λ a. none a.s a.t a.row; short = λ a. none a.s a.t a.row }

-- a fault tells the breach at three stops
abbrev Breached : FootpathData → ℕ → ℕ → ℕ → Type 0
Breached P p q r = (f : LawFault) × IsBreach P p q r f

equal : (p q : ℕ) (b : Bool) → (p == q) ≡ b → (p ≡ q) ⊎ (p ≢ q)
equal p q true e = inl (grind (arith, nat_tests, e))
equal p q false e = inr (λ same. absurd (let t : (p == q) ≡ true = grind (arith, nat_tests, same) in let c : false ≡ true = sym e ∙ t in cc))

module _ (P : FootpathData) (p q r : ℕ) where
  by_length : (s t u : ℕ) → AreInARow P p q r s t → change_between P p r ≡ Some u → (s + t < u) ⊎ (u ≤ s + t) → IsGood P p q r ⊎ Breached P p q r
  by_length s t u row e (inl long) = inr (why.Long p q r, inr (refl, record { s = s; t = t; u = u; row = row; direct = e; long = long }))
  by_length s t u row e (inr short) = inl (good_by P p q r s t u row.first row.second e short)

  by_change : (s t : ℕ) → AreInARow P p q r s t → (o : Option ℕ) → change_between P p r ≡ o → IsGood P p q r ⊎ Breached P p q r
  by_change s t row None e = inr (why.Absent p q r, inl (refl, record { s = s; t = t; row = row; absent = e }))
  by_change s t row (Some u) e = by_length s t u row e (cases_lt (s + t) u)

  by_footpaths : p ≢ q → q ≢ r → (a b : Option ℕ) → footpath_secs P p q ≡ a → footpath_secs P q r ≡ b → IsGood P p q r ⊎ Breached P p q r
  by_footpaths away onward None b e h = inl (good_without P p q r (λ s t row. absurd (let c : None ≡ Some s = sym e ∙ row.first in cc)))
  by_footpaths away onward (Some s) None e h = inl (good_without P p q r (λ u t row. absurd (let c : None ≡ Some t = sym h ∙ row.second in cc)))
  by_footpaths away onward (Some s) (Some t) e h = by_change s t (record { away = away; onward = onward; first = e; second = h }) (change_between P p r) refl

  by_stops : (p ≡ q) ⊎ (p ≢ q) → (q ≡ r) ⊎ (q ≢ r) → IsGood P p q r ⊎ Breached P p q r
  by_stops (inl here) second = inl (good_without P p q r (λ s t row. row.away here))
  by_stops (inr away) (inl here) = inl (good_without P p q r (λ s t row. row.onward here))
  by_stops (inr away) (inr onward) = by_footpaths away onward (footpath_secs P p q) (footpath_secs P q r) refl refl

  -- three stops are good, or a fault tells their breach
  good_or_breached : IsGood P p q r ⊎ Breached P p q r
  good_or_breached = by_stops (equal p q (p == q) refl) (equal q r (q == r) refl)

module _ (P : FootpathData) (sound : IsSoundFootpaths P) where
  over_is : (p q : ℕ) → ((r : ℕ) → IsGood P p q r) ⊎ ((r : ℕ) × Breached P p q r × ((c : ℕ) → c < r → IsGood P p q c)) → ((r : ℕ) → IsGood P p q r) ⊎ ((f : LawFault) × IsFirstOver P p q f)
  over_is p q (inl all) = inl all
  over_is p q (inr (r, b, earlier)) = inr (b.0, record { r = r; breach = b.1; earlier_end = earlier })

  over : (p q : ℕ) → ((r : ℕ) → IsGood P p q r) ⊎ ((f : LawFault) × IsFirstOver P p q f)
  over p q = over_is p q (first_bad (IsGood P p q) (Breached P p q) (good_or_breached P p q) (length P.change)
      (λ r past. good_without P p q r (λ s t row. let below = (ends P q r t sound row.second).1 in omega (arith, past, below))))

  from_is : (p : ℕ) → ((q r : ℕ) → IsGood P p q r) ⊎ ((q : ℕ) × ((f : LawFault) × IsFirstOver P p q f) × ((b : ℕ) → b < q → (c : ℕ) → IsGood P p b c)) → ((q r : ℕ) → IsGood P p q r) ⊎ ((f : LawFault) × IsFirstFrom P p f)
  from_is p (inl all) = inl all
  from_is p (inr (q, b, earlier)) = inr (b.0, record { q = q; over = b.1; earlier_middle = λ b c less. earlier b less c })

  leaving : (p : ℕ) → ((q r : ℕ) → IsGood P p q r) ⊎ ((f : LawFault) × IsFirstFrom P p f)
  leaving p = from_is p (first_bad (λ q. (r : ℕ) → IsGood P p q r) (λ q. (f : LawFault) × IsFirstOver P p q f) (over p) (length P.change)
      (λ q past r. good_without P p q r (λ s t row. let below = (ends P p q s sound row.first).1 in omega (arith, past, below))))

  breach_is : ((p q r : ℕ) → IsGood P p q r) ⊎ ((p : ℕ) × ((f : LawFault) × IsFirstFrom P p f) × ((a : ℕ) → a < p → (b c : ℕ) → IsGood P a b c)) → KeepsFootpathLaw P ⊎ ((f : LawFault) × IsFirstBreach P f)
  breach_is (inl all) = inl (λ p q r s t away onward first second. law_at P p q r s t (all p q r) away onward first second)
  breach_is (inr (p, b, earlier)) = inr (b.0, record { p = p; from = b.1; earlier_start = λ a b c less. earlier a less b c })

  -- the law is kept, or a fault tells its first breach
  pub kept_or_breached : KeepsFootpathLaw P ⊎ ((f : LawFault) × IsFirstBreach P f)
  kept_or_breached = breach_is (first_bad (λ p. (q r : ℕ) → IsGood P p q r) (λ p. (f : LawFault) × IsFirstFrom P p f) leaving (length P.change)
      (λ p past q r. good_without P p q r (λ s t row. let below = (ends P p q s sound row.first).0 in omega (arith, past, below))))
