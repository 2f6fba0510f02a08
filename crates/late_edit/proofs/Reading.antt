-- A file of late trips is read from line to line.
use Rattle.std.proofs.Common.{◌≡◌, ℕ, ◌+◌, ◌≤◌, List, length}
use Rattle.gtfs_rows.specs.Steps.{prepend}
use Rattle.text_lines.specs.Lines.{lines_of}
use Rattle.late_edit.specs.Updates.{updates_from, updates_of}
use Rattle.late_edit.specs.declared.update.Update.{Update}

-- what the first lines say, where the text behind them is still to be read
pub record IsRead (bytes : List ℕ) (done : List Update) (line : ℕ) (text : List ℕ) : Type 0 where
  pub rest : prepend done (updates_from (line + 1) (lines_of text)) ≡ updates_of bytes
  pub count : line + length text ≤ length bytes
