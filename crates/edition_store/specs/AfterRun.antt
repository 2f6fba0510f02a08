-- The two copies as a run of the store leaves them.
use Rattle.std.specs.Prelude.{◌≡◌, ◌⊎◌, ℕ, List, []}
use Rattle.history.specs.Lists.{Shown}
use Rattle.edition_store.specs.Rules.{SawLast}
use Rattle.edition_store.specs.Steps.{Step, Runs, starting, list_after, known_after}

-- After some run the list is z, and each side that has seen a list is a seat that knows it.
pub record IsAfterRun {A : Type 0} (z : Shown A) (views : List (Shown A)) : Type 0 where
  pub first : A
  pub steps : List (Step A)
  pub runs : Runs (starting first) steps
  pub list : list_after first steps ≡ z
  pub known : (seat : ℕ) (v : Shown A) → SawLast views seat v →
      (v.list ≡ []) ⊎ (known_after first steps seat ≡ v)
