-- Origins are read line by line.
use Rattle.std.proofs.Common.{◌≡◌, ℕ, ◌+◌, ◌≤◌, List, [], length}
use Rattle.text_lines.specs.Lines.{lines_of}
use Rattle.lane_serve.specs.Origins.{OriginsSoFar, origins_from}

-- what the first lines name, where the text behind them is still to be read
pub record IsNamedTo (bytes text : List ℕ) (s : OriginsSoFar) : Type 0 where
  pub count : s.lines + length text ≤ length bytes
  pub rest : origins_from (record { lines = 0; names = [] }) (lines_of bytes)
      ≡ origins_from s (lines_of text)
