use Rattle.std.proofs.Common.{◌≡◌, map, take, drop}
use Rattle.std.specs.Prelude.{All}
use Rattle.gtfs_rows.specs.Faults.{unless_wrong, wrong_after}
use Rattle.gtfs_rows.specs.TransfersFile.{TakesAtMostADay, TransferData}
use Rattle.footpaths.specs.Links.{wrong_transfer, check_transfers, HasEnds, pair_number}
use Rattle.footpaths.proofs.links.check_transfers.Given as goal

abbrev pub invariant-loop-row : goal.invariant-loop-row
invariant-loop-row l = record {
  seen : l.pairs ≡ map (pair_number l.stops) (take l.row-index l.rows);
  ends : All (HasEnds l.stops) (take l.row-index l.rows);
  days : All (λ r. TakesAtMostADay (TransferData.rule r)) (take l.row-index l.rows);
  right : check_transfers l.stops l.rows ≡ unless_wrong (wrong_after (wrong_transfer l.stops l.rows) (take l.row-index l.rows) (drop l.row-index l.rows)) l.rows;
}
