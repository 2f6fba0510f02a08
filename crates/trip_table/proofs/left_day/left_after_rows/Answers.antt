use Rattle.std.proofs.Common.{map}
use Rattle.std.specs.Prelude.{option_map}
use Rattle.trip_table.specs.LeftFeed.{left_after_rows}
use Rattle.trip_table.proofs.LeftDaySteps.{ends_left, gives_left}
use Rattle.trip_table.proofs.left_day.left_after_rows.Goals as goal

pub returns-in-Err : goal.returns-in-Err
returns-in-Err c =
    let texts = map (option_map (λ v. v.items)) c.args.texts.now in
    ends_left c.args.day.now c.args.options.now (left_after_rows texts c.args.rows.now) c.args.told.now.items c.left_files.new.told.items c.in-Err.fault c.in-Err.ensures.left

pub returns-in-Ok : goal.returns-in-Ok
returns-in-Ok c =
    let texts = map (option_map (λ v. v.items)) c.args.texts.now in
    let given = rw c.as_slice-transfers.ensures.value at c.timetable_left-table.ensures in
    gives_left c.args.day.now c.args.options.now (left_after_rows texts c.args.rows.now) c.args.told.now.items c.left_files.new.told.items
    (record { rows = c.args.rows.now; transfers = c.in-Ok.later.transfers.items; frequencies = c.in-Ok.later.frequencies.rows }) c.timetable_left-table.result c.in-Ok.ensures.left given
