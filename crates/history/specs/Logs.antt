-- Histories: what they show, and how they are kept.
use Rattle.std.specs.Prelude.{◌≡◌, ℕ, List, [], ◌∷◌, true, false}
use Rattle.logbook.specs.Pages.{Cell, cell}
use Rattle.history.specs.declared.entry.Event.{Event}
use Rattle.history.specs.declared.entry.Event.TheVariants.{Publish, Finish}
use Rattle.history.specs.declared.entry.Entry.{Entry}
use Rattle.history.specs.Lists.{Shown}

module _ {E : Type 0} where
  -- what is shown where this happens before all else
  abbrev pub put : Event E → Shown E → Shown E
  put (Publish e) s = record { list = e ∷ s.list; closed = s.closed }
  put Finish s = record { list = s.list; closed = true }

  -- what was published, and whether the history is closed
  abbrev pub shown : List (Entry E) → Shown E
  shown [] = record { list = []; closed = false }
  shown (x ∷ xs) = put x.event (shown xs)

  -- something may come after it
  abbrev pub GoesOn : Event E → Type 0
  GoesOn (Publish e) = Unit {0}
  GoesOn Finish = ⊥

  -- nothing comes after the end
  abbrev pub Legal : List (Entry E) → Type 0
  Legal [] = Unit {0}
  Legal (x ∷ []) = Unit {0}
  Legal (x ∷ y ∷ ys) = GoesOn x.event × Legal (y ∷ ys)

  -- the last entry leaves the pen with this key
  abbrev pub Guarded : ℕ → List (Entry E) → Type 0
  Guarded k [] = ⊥
  Guarded k (x ∷ []) = x.key ≡ k
  Guarded k (x ∷ y ∷ ys) = Guarded k (y ∷ ys)

  -- the pen that an entry left was used up by the next one
  abbrev pub Turned : List Cell → List (Entry E) → Type 0
  Turned cs [] = Unit {0}
  Turned cs (x ∷ []) = Unit {0}
  Turned cs (x ∷ y ∷ ys) = ((cell cs x.key).1 ≡ true) × Turned cs (y ∷ ys)
