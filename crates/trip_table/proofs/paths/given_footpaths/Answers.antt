use Rattle.gtfs_rows.specs.declared.fault.Many.TheVariants as many
use Rattle.trip_table.proofs.ToldPaths.{told_good, told_many, change_count}
use Rattle.trip_table.proofs.paths.given_footpaths.Goals as goal

pub returns-in-Ok-clause-told : goal.returns-in-Ok-clause-told
returns-in-Ok-clause-told c = told_good c.args.stops.now c.args.options.now c.args.rows.now c.in-Ok.paths c.in-Ok.ensures.told

pub returns-in-Ok-clause-many : goal.returns-in-Ok-clause-many
returns-in-Ok-clause-many c =
    let good = told_good c.args.stops.now c.args.options.now c.args.rows.now c.in-Ok.paths c.in-Ok.ensures.told in
    change_count c.args.stops.now c.args.options.now c.args.rows.now c.in-Ok.paths good.1

pub returns-in-Err-TooMany-clause-told : goal.returns-in-Err-TooMany-clause-told
returns-in-Err-TooMany-clause-told c = told_many c.args.stops.now c.args.options.now c.args.rows.now many.Footpaths 0 (rw c.in-Err-TooMany.field-0-is at c.in-Err-TooMany.ensures.told)
