use Rattle.std.proofs.Common.{◌∙◌, sym, ap, subst, length}
use Rattle.footpaths.specs.Stops.{platforms}
use Rattle.trip_table.specs.Answers.{IsAmong}
use Rattle.trip_table.proofs.Breach.{breach_inside}
use Rattle.trip_table.proofs.law.tested.Goals as goal

pub breach_fault-requires : goal.breach_fault-requires
breach_fault-requires c =
    let inside = breach_inside c.args.paths c.in-Err.breach c.requires.sound c.in-Err.ensures in
    subst (λ n. IsAmong n c.in-Err.breach) (c.requires.many ∙ sym (ap (λ rows. length (platforms rows)) c.rows.ensures)) inside
