-- Times in one word a stop.
use Rattle.std.specs.Prelude.{ℕ, ◌+◌, ◌-◌, ◌≤◌, nat_lt, ℤ, pos, negsuc, ◌+ℤ◌, Option, None, Some, if◌then◌else◌}

-- The time in a word, if it was written above this floor: how far it lies above the floor tells the
-- seconds since noon minus 36 hours.
abbrev pub time_in : ℕ → ℕ → Option ℤ
time_in floor word = if nat_lt word (floor + 446400)
    then Some (pos (word - floor) +ℤ negsuc 86399) else None

-- a word lies no lower than the floor, and leaves room for the seconds of a walk
pub record IsWord (floor word : ℕ) : Type 0 where
  pub low : floor ≤ word
  pub high : word ≤ 4294880895
