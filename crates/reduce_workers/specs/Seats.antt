-- What the contracts say of claims and their seats.
use Rattle.std.specs.Prelude.{◌≡◌, ℕ, List, sum_by}
use Rattle.atomic_table.specs.Seated.{TableId}
use Rattle.reduce_workers.specs.declared.rule.Hand.{Hand}
use Rattle.reduce_workers.specs.Claim.{hand, times, once_below}

-- a claim: its table, how many pieces it has, and how many seats
pub record ClaimData : Type 0 where
  pub table : TableId
  pub pieces : ℕ
  pub seats : ℕ

-- a seat: the table of its claim, and what it knows
pub record SeatData : Type 0 where
  pub table : TableId
  pub hand : Hand

-- the pieces that the seat drew, in this order
abbrev pub drawn_of : SeatData → List ℕ
drawn_of s = s.hand.drawn

-- the seat is of the claim, drew these pieces, and has not been answered None
abbrev pub IsOpen : ClaimData → List ℕ → SeatData → Type 0
IsOpen c xs s = (s.table ≡ c.table) × (s.hand ≡ hand c.pieces xs 1 0)

-- the seat is of the claim and has been answered None
abbrev pub IsDone : ClaimData → SeatData → Type 0
IsDone c s = (s.table ≡ c.table) × (s.hand ≡ hand c.pieces (drawn_of s) 1 1)

-- each number below n stands in one of the lists, once, and no other number in any
abbrev pub EachOnce : ℕ → List (List ℕ) → Type 0
EachOnce n lists = (x : ℕ) → sum_by (times x) lists ≡ once_below x n
