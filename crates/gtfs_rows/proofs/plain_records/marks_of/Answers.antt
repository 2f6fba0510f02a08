use Rattle.gtfs_rows.proofs.Marks.{all_marked}
use Rattle.gtfs_rows.proofs.plain_records.marks_of.Goals as goal

pub returns : goal.returns
returns c = all_marked c.args.text.now c.args.at c.requires
