-- The rule of the book, and what its steps tell.
use Rattle.std.specs.Prelude.{◌≡◌, ℕ, ◌<◌, ◌==◌, true, false, List, [], ◌∷◌, ◌++◌, length, MatchBool}
use Rattle.logbook.specs.Pages.{Cell, cell, Step, View, Book, Named, nib, may_make}
use Rattle.history.specs.declared.entry.Entry.{Entry}
use Rattle.history.specs.Logs.{Legal, Turned}

-- the word that all additions go through
abbrev pub head_of : Book → Named
head_of b = record { tracked = true; key = 0; book = b }

module _ {E : Type 0} where
  -- The first cell is at home, and holds 0 only while there is no entry.
  -- Each pen that an entry left was used up, but the last one's.
  pub record IsKept (cells : List Cell) (log : List (Entry E)) : Type 0 where
    pub some : 0 < length cells
    pub head : (cell cells 0).1 ≡ true
    pub fresh : (cell cells 0).0 ≡ 0 → log ≡ []
    pub turned : Turned cells log
    pub legal : Legal log

  -- the pen of some new cell was given
  abbrev pub Draws : Step (Entry E) → View (Entry E) ℕ → ℕ → View (Entry E) ℕ → Type 0
  Draws s v found w = (q : ℕ) × (w.1.0 ≡ nib may_make q 0)

  -- where the word was 0, the history is the entry that was asked for
  abbrev pub Begins : Step (Entry E) → View (Entry E) ℕ → ℕ → View (Entry E) ℕ → Type 0
  Begins s v found w =
      MatchBool (found == 0) (w.0 ≡ s.ask ∷ []) (Unit {0})

  -- the entry that was asked for stands behind all that was seen
  abbrev pub Adds : Step (Entry E) → View (Entry E) ℕ → ℕ → View (Entry E) ℕ → Type 0
  Adds s v found w = w.0 ≡ v.0 ++ s.ask ∷ []

  -- the pen is as it was, and with the key that was asked for it was not used up by the history
  abbrev pub Stays : Step (Entry E) → View (Entry E) ℕ → ℕ → View (Entry E) ℕ → Type 0
  Stays s v found w = (w.1.0 ≡ v.1.0)
      × ((cells : List Cell) × ((cell cells s.ask.key).1 ≡ false) × Turned cells w.0)
