-- A transfer is a row of its trip: where one alights, and the hop from there.
use Rattle.std.specs.Prelude.{ℕ}
use Rattle.tb_base.specs.declared.transfer.Hop.{Hop}
use Rattle.tb_base.specs.declared.transfer.Transfer.{Transfer}

-- the transfer from t@i by a hop
abbrev pub transfer_by_hop : ℕ → ℕ → Hop → Transfer
transfer_by_hop t i h = record { trip = t; at = i; to_trip = h.trip; to_at = h.at }
