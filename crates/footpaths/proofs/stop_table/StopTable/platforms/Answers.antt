use Rattle.std.proofs.Common.{ap, length, arith}
use Rattle.std.proofs.lemmas.List.{length-map}
use Rattle.gtfs_rows.specs.StopsFile.{is_platform}
use Rattle.footpaths.specs.Stops.{platforms, parent_station}
use Rattle.tb_base.proofs.Lists.{length-filter_le}
use Rattle.footpaths.proofs.stop_table.StopTable.platforms.Goals as goal

pub overflow_cast-result : goal.overflow_cast-result
overflow_cast-result c =
    let rows = c.self.inside.rows.items in
    omega (arith, c.len.ensures, ap length c.self.invariant.parent, length-map (platforms rows) (parent_station rows), length-filter_le (λ s. is_platform s.kind) rows, c.self.invariant.few)
