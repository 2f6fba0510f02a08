use Rattle.trip_table.proofs.LeftRowFacts.{bytes_given}
use Rattle.trip_table.proofs.left_times.rows_by.Goals as goal

pub returns-clause-bytes : goal.returns-clause-bytes
returns-clause-bytes g c = bytes_given (λ v. v.items) g.R.RowReader.file (g.R.RowReader.reading c.args.reader.now) _ c.typed_rows.result c.typed_rows.ensures.rows
