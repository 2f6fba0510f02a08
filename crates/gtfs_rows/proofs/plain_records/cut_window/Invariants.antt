use Rattle.gtfs_rows.specs.PlainText.{record_of}
use Rattle.gtfs_rows.specs.Windows.{IsCutting}
use Rattle.gtfs_rows.proofs.plain_records.cut_window.Given as goal

abbrev pub invariant-loop-marks : goal.invariant-loop-marks
invariant-loop-marks l = IsCutting l.text (record_of l.fields.items) l.start l.at l.marks

abbrev pub decreases-loop-marks : goal.decreases-loop-marks
decreases-loop-marks l = l.marks
