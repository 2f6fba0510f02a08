-- A trip's transfers by their events, the last event first.
use Rattle.std.specs.Prelude.{ℕ, ◌<◌, ◌≤◌, List, AllPairs, length}
use Rattle.std.specs.List.{AllWithin}
use Rattle.tb_base.specs.declared.transfer.Transfer.{Transfer}

-- no transfer is from a later event than one before it
abbrev pub Descend : List Transfer → Type 0
Descend row = AllPairs (λ (r s : Transfer). s.at ≤ r.at) row

-- the first n transfers of a row are those from event i on, and behind them stand those from
-- earlier events
pub record AreLeft (row : List Transfer) (i n : ℕ) : Type 0 where
  pub within : n ≤ length row
  pub from : AllWithin (λ (r : Transfer). i ≤ r.at) row 0 n
  pub earlier : AllWithin (λ (r : Transfer). r.at < i) row n (length row)
