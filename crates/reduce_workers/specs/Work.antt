-- What workers bring: pieces by their numbers.
use Rattle.std.specs.Prelude.{◌≡◌, ℕ, List, map}
use Rattle.std.specs.List.{flat_map}
use Rattle.std.specs.Prelude.{Vec}
use Rattle.std.specs.Global.{Global}
use Rattle.reduce_workers.specs.Reductions.{ReducedData}
use Rattle.reduce_workers.specs.Seats.{ClaimData, SeatData, IsDone, drawn_of}

-- a piece by its number, and what the reduction makes of it
abbrev pub number : ℕ × ReducedData → ℕ
number p = p.0

-- the piece by this number, where f says what the reduction makes of each
abbrev pub piece_of : (ℕ → ReducedData) → ℕ → ℕ × ReducedData
piece_of f n = (n, f n)

-- it is what f says of its number
abbrev pub IsPieceOf : (ℕ → ReducedData) → ℕ × ReducedData → Type 0
IsPieceOf f p = p.1 ≡ f p.0

-- the pieces that these seats drew
abbrev pub pieces_of : (ℕ → ReducedData) → List SeatData → List (ℕ × ReducedData)
pieces_of f seats = flat_map (λ s. map (piece_of f) (drawn_of s)) seats

-- the seat has been answered None, and these are the pieces that it drew
abbrev pub Worked : ClaimData → (ℕ → ReducedData) → SeatData × Vec (ℕ × ReducedData) Global → Type 0
Worked c f b = IsDone c b.0 × (b.1.items ≡ map (piece_of f) (drawn_of b.0))
