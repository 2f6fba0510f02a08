-- What is handed over.
use Rattle.std.specs.Prelude.{◌≡◌, ℕ, ◌-◌, List, Some, length, slice_get}

-- a thing, its number, and all that was given up to it
pub record HandedData (A : Type 0) : Type 0 where
  pub number : ℕ
  pub item : A
  pub all : List A

-- the thing is the last one of those that were given, of which there are so many
pub record IsLast {A : Type 0} (given : List A) (number : ℕ) (item : A) : Type 0 where
  pub counts : number ≡ length given
  pub ends : slice_get given (length given - 1) ≡ Some item
