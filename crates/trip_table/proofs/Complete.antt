-- What the answer about a day is where the day is known.
use Rattle.std.proofs.Common.{◌≡◌, ◌⊎◌, refl, ap, ℕ, inl, inr, arith}
use Rattle.std.specs.Prelude.{Result, Ok, Err, MatchResult}
use Rattle.gtfs_rows.specs.declared.fault.FeedFault.{FeedFault}
use Rattle.trip_table.specs.Answers.{Gives, HasFailed}
use Rattle.trip_table.specs.declared.day_fault.DayFault.{DayFault}
use Rattle.trip_table.specs.declared.day_fault.DayFault.TheVariants as why

module _ {A : Type 0} (IsDay : Result A FeedFault → Type 0) (one : (a b : Result A FeedFault) → IsDay a → IsDay b → a ≡ b) where
  -- a day with a timetable gives it, or want of memory
  pub day_given : (answer : Result A DayFault) (x : A) (before now : ℕ) → Gives IsDay answer → MatchResult answer (λ _. now ≡ before) (HasFailed before now) → now ≡ before → IsDay (Ok x)
      → (answer ≡ Ok x) ⊎ (answer ≡ Err why.Memory)
  day_given (Ok y) x before now gives leaves still is = let e : Ok y ≡ Ok x = one (Ok y) (Ok x) gives is in let same : y ≡ x = cc in inl (ap Ok same)
  day_given (Err (why.Feed g)) x before now gives leaves still is = absurd (let e : Err g ≡ Ok x = one (Err g) (Ok x) gives is in cc)
  day_given (Err why.ReadFault) x before now gives leaves still is = absurd (omega (arith, leaves, still))
  day_given (Err why.Memory) x before now gives leaves still is = inr refl

  -- a day with a first fault gives it, or want of memory
  pub fault_given : (answer : Result A DayFault) (f : FeedFault) (before now : ℕ) → Gives IsDay answer → MatchResult answer (λ _. now ≡ before) (HasFailed before now) → now ≡ before → IsDay (Err f)
      → (answer ≡ Err (why.Feed f)) ⊎ (answer ≡ Err why.Memory)
  fault_given (Ok y) f before now gives leaves still is = absurd (let e : Ok y ≡ Err f = one (Ok y) (Err f) gives is in cc)
  fault_given (Err (why.Feed g)) f before now gives leaves still is = let e : Err g ≡ Err f = one (Err g) (Err f) gives is in let same : g ≡ f = cc in inl (ap (λ h. Err (why.Feed h)) same)
  fault_given (Err why.ReadFault) f before now gives leaves still is = absurd (omega (arith, leaves, still))
  fault_given (Err why.Memory) f before now gives leaves still is = inr refl
