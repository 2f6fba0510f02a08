-- What an intake takes, and what it gives.
use Rattle.std.specs.Prelude.{◌≡◌, ℕ, ◌<◌, ◌≤◌, List, [], Bool, Option, MatchBool, MatchOption, Vec, length}
use Rattle.std.specs.declared.alloc.Global.{Global}
use Rattle.std.specs.Io.KnownBytes.{Consumes, IsAtEnd}
use Rattle.text_lines.specs.Lines.{last_line}
use Rattle.live_turns.specs.Coming.{begun_by, ended}

-- how many bytes of a line are kept at most, how many bytes a piece has at most, and what is kept of
-- the line that is begun
pub record IntakeData : Type 0 where
  pub most : ℕ
  pub room : ℕ
  pub begun : List ℕ

-- the intake takes a piece, for which it has room, and gives the lines that end in it
pub record TakesPiece (left now : Option (List ℕ)) (old new : IntakeData) (given : List (List ℕ))
    : Type 0 where
  pub piece : List ℕ
  pub some : 0 < length piece
  pub fits : length piece ≤ old.room
  pub taken : Consumes left now piece
  pub most : new.most ≡ old.most
  pub room : new.room ≡ old.room
  pub lines : given ≡ ended old.most old.begun piece
  pub begun : new.begun ≡ begun_by old.most old.begun piece

-- nothing is left
pub record Ends (left now : Option (List ℕ)) (old new : IntakeData) : Type 0 where
  pub nothing : Consumes left now []
  pub none : IsAtEnd now
  pub same : new ≡ old

-- what comes: the lines of a piece, or the end
abbrev pub Comes : Option (List ℕ) → Option (List ℕ) → IntakeData → IntakeData →
    Option (Vec (List ℕ) Global) → Type 0
Comes left now old new result =
    MatchOption result (Ends left now old new) (λ v. TakesPiece left now old new v.items)

-- these lines come next: those of a piece, behind which more may come; or at the end the last line
abbrev pub ComeNext : Option (List ℕ) → Option (List ℕ) → IntakeData → IntakeData →
    List (List ℕ) → Bool → Type 0
ComeNext left now old new lines more =
    MatchBool more (TakesPiece left now old new lines)
    (Ends left now old new × (lines ≡ last_line old.begun))
