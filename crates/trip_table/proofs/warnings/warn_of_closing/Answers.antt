use Rattle.std.proofs.lemmas.Result.{on_ok_weaker}
use Rattle.foot_close.specs.declared.closed.CloseFault.TheVariants as why
use Rattle.trip_table.specs.Warnings.{counts_warning}
use Rattle.trip_table.proofs.WarningSteps.{closing_counted, refused_counted}
use Rattle.trip_table.proofs.warnings.warn_of_closing.Goals as goal

pub returns-in-Ok : goal.returns-in-Ok
returns-in-Ok c =
    on_ok_weaker c.warn_of_counts-done.result
    (λ told. (counts_warning c.in-Ok.closed.added c.in-Ok.closed.lowered, closing_counted c.args.paths c.in-Ok.closed c.in-Ok.ensures.told c.in-Ok.ensures.closed c.in-Ok.ensures.sound, told))
    c.warn_of_counts-done.ensures

pub returns-in-Err-TooMany : goal.returns-in-Err-TooMany
returns-in-Err-TooMany c = refused_counted c.args.paths why.TooMany c.args.warnings.now.items (λ is. cc) (rw c.in-Err-TooMany.field-0-is at c.in-Err-TooMany.ensures.told)

pub returns-in-Err-Far : goal.returns-in-Err-Far
returns-in-Err-Far c =
    refused_counted c.args.paths (why.Far c.in-Err-Far.field-0-0 c.in-Err-Far.field-0-1) c.args.warnings.now.items (λ is. cc) (rw c.in-Err-Far.field-0-is at c.in-Err-Far.ensures.told)
