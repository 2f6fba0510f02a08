use Rattle.trip_table.proofs.FrequencySteps.{bad_row}
use Rattle.trip_table.proofs.left_frequencies.LeftFrequenciesRowReader.read.Goals as goal

pub returns-in_ok-no_starts-in-Err-Feed-clause-meant : goal.returns-in_ok-no_starts-in-Err-Feed-clause-meant
returns-in_ok-no_starts-in-Err-Feed-clause-meant c =
    let bad = rw c.in-Err-Feed.field-0-is at c.in-Err-Feed.ensures in
    bad_row c.args.self.now.trips.now c.args.self.now.gone.now c.args.cursor.now.current c.in-Err-Feed.fault c.row.result c.cell-id.result.now c.in_ok-no_starts-in-Err-Feed.field-0 bad c.row.ensures c.cell-id.ensures c.in_ok-no_starts-in-Err-Feed.ensures
