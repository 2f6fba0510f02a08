-- The store as a machine: what each step does, and what every run of it keeps.
use Rattle.std.specs.Prelude.{◌≡◌, ℕ, ◌==◌, List, [], ◌∷◌, ◌++◌, true, false, ⊤, if◌then◌else◌}
use Rattle.history.specs.Lists.{Shown, Extends}
use Rattle.edition_store.specs.Lists.{longer, IsIn}

-- a publication, the end, a pin of a seat, and a list that a seat is told
pub data Step (A : Type 0) : Type 0 where
  Publish : A → Step A
  Finish : Step A
  Pin : ℕ → Step A
  Learn : ℕ → Shown A → Step A

-- the list, each list as it was after a publication or the end, and what each seat knows
pub record Editions (A : Type 0) : Type 0 where
  pub now : Shown A
  pub told : List (Shown A)
  pub known : ℕ → Shown A

module _ {A : Type 0} where
  -- the first edition alone
  abbrev pub alone : A → Shown A
  alone first = record { list = first ∷ []; closed = false }

  -- the list is the first edition alone, and so is what each seat knows
  abbrev pub starting : A → Editions A
  starting first = record { now = alone first; told = []; known = λ _. alone first }

  -- the list becomes y
  abbrev pub turned : Editions A → Shown A → Editions A
  turned s y = record { now = y; told = y ∷ s.told; known = s.known }

  -- the seat j knows y
  abbrev pub informed : Editions A → ℕ → Shown A → Editions A
  informed s j y =
      record { now = s.now; told = s.told; known = λ i. if i == j then y else s.known i }

  -- the state after a step
  abbrev pub after : Editions A → Step A → Editions A
  after s (Publish e) = turned s (record { list = s.now.list ++ e ∷ []; closed = false })
  after s Finish = turned s (record { list = s.now.list; closed = true })
  after s (Pin j) = informed s j s.now
  after s (Learn j x) = informed s j (longer (s.known j) x)

  -- the step may be done: nothing is published after the end, and only what was told is learned
  abbrev pub May : Editions A → Step A → Type 0
  May s (Publish e) = s.now.closed ≡ false
  May s Finish = s.now.closed ≡ false
  May s (Pin j) = ⊤
  May s (Learn j x) = IsIn x s.told

  -- the state after steps
  abbrev pub ends : Editions A → List (Step A) → Editions A
  ends s [] = s
  ends s (x ∷ xs) = ends (after s x) xs

  -- each of the steps may be done in its turn
  abbrev pub Runs : Editions A → List (Step A) → Type 0
  Runs s [] = ⊤
  Runs s (x ∷ xs) = May s x × Runs (after s x) xs

  -- the list, and what seat j knows, after steps from the start
  abbrev pub list_after : A → List (Step A) → Shown A
  list_after first xs = (ends (starting first) xs).now

  abbrev pub known_after : A → List (Step A) → ℕ → Shown A
  known_after first xs j = (ends (starting first) xs).known j

  -- what seat j pins between ys and zs extends what it knew at any time before
  abbrev pub PinsFollow : A → Type 0
  PinsFollow first = (xs ys zs : List (Step A)) (j : ℕ) →
      Runs (starting first) (xs ++ (ys ++ Pin j ∷ zs)) →
      Extends (list_after first (xs ++ ys)) (known_after first xs j)

  -- and the list that is published in the end extends it
  abbrev pub PinsStay : A → Type 0
  PinsStay first = (xs zs : List (Step A)) (j : ℕ) →
      Runs (starting first) (xs ++ Pin j ∷ zs) →
      Extends (list_after first (xs ++ Pin j ∷ zs)) (list_after first xs)
