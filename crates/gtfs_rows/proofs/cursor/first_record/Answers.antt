use Rattle.std.proofs.Common.{ap, length, arith}
use Rattle.gtfs_rows.proofs.Opening.{records_bound}
use Rattle.gtfs_rows.proofs.cursor.first_record.Goals as goal

pub returns-clause-few : goal.returns-clause-few
returns-clause-few c =
    let h = c.advance.ensures.fewer in
    let k = records_bound c.args.bytes.now in
    let e = ap length c.new-records.ensures in
    omega (arith, h, k, e)
