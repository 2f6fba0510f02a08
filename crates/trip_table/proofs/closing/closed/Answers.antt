use Rattle.std.proofs.Common.{◌∙◌, sym, ap, subst, length, List}
use Rattle.gtfs_rows.specs.StopsFile.{StopData}
use Rattle.footpaths.specs.Stops.{platforms}
use Rattle.trip_table.specs.Answers.{IsRowsFault, AreThere}
use Rattle.trip_table.specs.Day.{AreClosed}
use Rattle.trip_table.proofs.ClosingSteps.{closing_held, closing_count, refused_inside}
use Rattle.trip_table.proofs.closing.closed.Goals as goal

pub returns-in-Ok-clause-told : goal.returns-in-Ok-clause-told
returns-in-Ok-clause-told c = closing_held c.args.stops.now c.args.paths c.in-Ok.closed c.in-Ok.ensures.told c.in-Ok.ensures.closed c.in-Ok.ensures.sound

pub returns-in-Ok-clause-many : goal.returns-in-Ok-clause-many
returns-in-Ok-clause-many c = closing_count c.args.paths c.in-Ok.closed c.in-Ok.ensures.told ∙ c.requires.many

pub refusal-requires : goal.refusal-requires
refusal-requires c =
    let inside = refused_inside c.args.paths c.in-Err.fault c.requires.sound c.in-Err.ensures.told in
    subst (λ n. AreThere n c.in-Err.fault) (c.requires.many ∙ sym (ap (λ (rows : List StopData). length (platforms rows)) c.rows.ensures)) inside

pub returns-in-Err-clause-told : goal.returns-in-Err-clause-told
returns-in-Err-clause-told c = subst (λ (rows : List StopData). IsRowsFault (AreClosed rows c.args.paths) c.refusal.result) c.rows.ensures (c.refusal.ensures c.args.paths c.in-Err.ensures.told)

pub returns-in-Ok-clause-law : goal.returns-in-Ok-clause-law
returns-in-Ok-clause-law c = c.closed_keeps_law.ensures c.args.paths c.in-Ok.closed.paths c.in-Ok.ensures.closed
