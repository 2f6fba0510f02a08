use Rattle.std.proofs.lemmas.Nat.{and_le_l}
use Rattle.gtfs_rows.proofs.FirstBit.{first_set, first_cleared, others_kept}
use Rattle.gtfs_rows.proofs.Marks.{fewer_marks}
use Rattle.gtfs_rows.proofs.plain_records.without_first.Goals as goal

pub returns-clause-this : goal.returns-clause-this
returns-clause-this c = first_cleared c.args.marks c.requires c.ranges.marks.fits

pub returns-clause-others : goal.returns-clause-others
returns-clause-others c = λ k low other. others_kept c.args.marks c.requires c.ranges.marks.fits k other

pub returns-clause-fewer : goal.returns-clause-fewer
returns-clause-fewer c = fewer_marks c.args.marks _ _ (and_le_l c.args.marks _) (first_cleared c.args.marks c.requires c.ranges.marks.fits) (first_set c.args.marks c.requires c.ranges.marks.fits)
