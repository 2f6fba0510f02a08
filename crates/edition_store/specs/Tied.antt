-- The history of a run: what it published, and its end.
use Rattle.std.specs.Prelude.{◌≡◌, List, [], ◌∷◌, false}
use Rattle.history.specs.declared.entry.Event.{Event}
use Rattle.history.specs.declared.entry.Event.TheVariants.{Publish, Finish}
use Rattle.history.specs.Lists.{Shown}
use Rattle.history.specs.Logs.{put}
use Rattle.edition_store.specs.Steps.{Step, Runs, starting, list_after}
use Rattle.edition_store.specs.Steps as core

module _ {A : Type 0} where
  abbrev pub events_of : List (Step A) → List (Event A)
  events_of [] = []
  events_of (core.Publish e ∷ xs) = Publish e ∷ events_of xs
  events_of (core.Finish ∷ xs) = Finish ∷ events_of xs
  events_of (core.Pin j ∷ xs) = events_of xs
  events_of (core.Learn j x ∷ xs) = events_of xs

  abbrev pub shown_by : List (Event A) → Shown A
  shown_by [] = record { list = []; closed = false }
  shown_by (x ∷ xs) = put x (shown_by xs)

  -- the list after a run is what the history of its events shows
  abbrev pub IsTied : A → Type 0
  IsTied first = (xs : List (Step A)) → Runs (starting first) xs →
      list_after first xs ≡ shown_by (Publish first ∷ events_of xs)
