use Rattle.std.proofs.Common.{sym, subst}
use Rattle.gtfs_rows.specs.PlainText.{IsUnquoted}
use Rattle.gtfs_rows.proofs.ByteMark.{strip_unquoted}
use Rattle.gtfs_rows.proofs.records.Records.new.Goals as goal

pub new-records-requires : goal.new-records-requires
new-records-requires c = subst IsUnquoted (sym c.without_mark.ensures) (strip_unquoted c.args.bytes.now (c.is_unquoted.ensures c.if-is_unquoted.true))
