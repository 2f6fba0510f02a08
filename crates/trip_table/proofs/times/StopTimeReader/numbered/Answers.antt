use Rattle.std.proofs.Common.{arith}
use Rattle.tb_base.proofs.Lists.{length-filter_le}
use Rattle.gtfs_rows.specs.StopsFile.{StopData, is_platform}
use Rattle.trip_table.proofs.times.StopTimeReader.numbered.Goals as goal

pub platform_number-stop-requires : goal.platform_number-stop-requires
platform_number-stop-requires c =
    let few = c.soundness.ensures.few in
    let kept = length-filter_le (λ (s : StopData). is_platform s.kind) c.args.self.now.stops.now in
    omega (arith, few, kept, c.platforms.ensures)
