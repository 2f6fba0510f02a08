use Rattle.std.specs.Prelude.{Ok, Some}
use Rattle.gtfs_rows.specs.RawRows.{typed_rows}
use Rattle.trip_table.proofs.Told.{rows_refused}
use Rattle.trip_table.proofs.feed.rows_in.Goals as goal

pub returns-clause-rows : goal.returns-clause-rows
returns-clause-rows g c =
    let t = c.in-Err.ensures.rows in
    let b = c.as_slice.ensures.value in
    rw c.in-Some.is (rows_refused (typed_rows g.R.RowReader.file (g.R.RowReader.reading c.args.reader.now) c.in-Some.bytes.items) (λ rows. Ok (Some rows)) c.in-Err.fault (rw b at t))
