use Rattle.std.proofs.Common.{◌≤◌, ◌-◌, length}
use Rattle.gtfs_rows.specs.PlainText.{record_of}
use Rattle.gtfs_rows.specs.Windows.{StandsAt}
use Rattle.gtfs_rows.proofs.plain_records.cut_record.Given as goal

abbrev pub invariant-loop-at : goal.invariant-loop-at
invariant-loop-at l = record {
  within : l.start ≤ l.at;
  inside : l.at ≤ length l.text;
  same : StandsAt l.text (record_of l.fields.items) l.start l.at;
}

abbrev pub decreases-loop-at : goal.decreases-loop-at
decreases-loop-at l = length l.text - l.at
