use Rattle.std.proofs.Common.{◌≡◌, ◌≤◌, ◌++◌, length, map, flat_map}
use Rattle.tb_base.specs.TimetableData.{events_of}
use Rattle.tb_base.specs.Transfers.{candidates, transfers_of, numbers_down}
use Rattle.tb_laws.specs.Rows.{transfer_by_hop}
use Rattle.transfer_make.proofs.make.Given as goal

abbrev pub invariant-loop-at : goal.invariant-loop-at
invariant-loop-at l = record {
  within : l.at ≤ length (events_of l.table l.trip);
  rows : transfers_of l.table (candidates l.table l.lines.lines l.trip) l.trip
      ≡ l.rows.items ++ flat_map (λ i. map (transfer_by_hop l.trip i) (candidates l.table l.lines.lines l.trip i)) (numbers_down l.at);
}

abbrev pub decreases-loop-at : goal.decreases-loop-at
decreases-loop-at l = l.at
