-- How many workers share a reduction.
use Rattle.std.specs.Prelude.{ℕ, ◌<◌, ◌≤◌}

-- a number of workers is from 1 to 64
pub record AreWorkers (n : ℕ) : Type 0 where
  pub some : 0 < n
  pub most : n ≤ 64
