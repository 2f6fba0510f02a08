-- Labels at stops: a time that is found there, and the ride that leads there.
use Rattle.std.specs.Prelude.{◌≡◌, ℕ, ◌<◌, ◌⊎◌, List, length, ℤ, pos, ◌+ℤ◌, ◌≤ℤ◌, ◌<ℤ◌, Option, None, Some, IsSomeAnd, IfSome, Contains, slice_index_or}
use Rattle.tb_base.specs.TimetableData.{TimetableData}
use Rattle.tb_base.specs.Walking.{walk, change}
use Rattle.plain_rounds.specs.declared.labels.StopLabel.{StopLabel}

abbrev pub label_at : List (Option StopLabel) → ℕ → Option StopLabel
label_at labels p = slice_index_or labels p None

-- the same label so many seconds later
abbrev pub later : StopLabel → ℕ → StopLabel
later l secs = record { time = l.time +ℤ pos secs; ride = l.ride }

-- the stop has a label, no later than the time
abbrev pub IsNoLaterAt : List (Option StopLabel) → ℕ → ℤ → Type 0
IsNoLaterAt labels p time = IsSomeAnd (label_at labels p) (λ l. l.time ≤ℤ time)

-- the stop has no label, or one that is later than the time
abbrev pub IsLaterAt : List (Option StopLabel) → ℕ → ℤ → Type 0
IsLaterAt labels p time = IfSome (label_at labels p) (λ l. time <ℤ l.time)

-- The labels take what is offered at the stops: none gets later, each new one is offered there, and
-- none is later than one that is offered.
pub record Takes (old new : List (Option StopLabel)) (IsLabelOffered : ℕ → StopLabel → Type 0)
    : Type 0 where
  pub long : length new ≡ length old
  pub kept : (p : ℕ) (time : ℤ) → IsNoLaterAt old p time → IsNoLaterAt new p time
  pub made : (p : ℕ) (l : StopLabel) → label_at new p ≡ Some l → (label_at old p ≡ Some l)
      ⊎ IsLabelOffered p l
  pub taken : (p : ℕ) (l : StopLabel) → IsLabelOffered p l → IsNoLaterAt new p l.time

-- all times are within the limit of times of events
abbrev pub AreEarly : List (Option StopLabel) → Type 0
AreEarly labels = (p : ℕ) → IfSome (label_at labels p) (λ l. l.time ≤ℤ pos 359999)

-- the label of some stop, later by a change from there
abbrev pub IsOfferedByChange : TimetableData → List (Option StopLabel) → ℕ → StopLabel → Type 0
IsOfferedByChange T arrived q l = (p : ℕ) × (p < length T.stops) × IsSomeAnd (label_at arrived p)
    (λ m. IsSomeAnd (change T p q) (λ secs. l ≡ later m secs))

-- the label of an origin, later by a walk from there
abbrev pub IsOfferedByOrigin : TimetableData → List ℕ → StopLabel → ℕ → StopLabel → Type 0
IsOfferedByOrigin T origins start q l = (o : ℕ) × Contains origins o × IsSomeAnd (walk T o q)
    (λ secs. l ≡ later start secs)
