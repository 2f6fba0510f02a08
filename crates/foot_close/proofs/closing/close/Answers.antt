use Rattle.foot_close.proofs.ClosedLaws.{closed_told, far_told, closed_of, sound_of}
use Rattle.foot_close.proofs.closing.close.Goals as goal

pub returns-in-Some-clause-told : goal.returns-in-Some-clause-told
returns-in-Some-clause-told c = far_told c.args.paths c.in_ok-table.table _ _ c.in_ok-table.ensures c.soundness.ensures.sound c.soundness.ensures.few c.in-Some.ensures

pub returns-clause-told : goal.returns-clause-told
returns-clause-told c =
    closed_told c.args.paths c.in_ok-table.table (record { paths = c.in_ok-paths.paths; added = c.added-added.result; lowered = c.lowered-lowered.result }) c.in_ok-table.ensures c.soundness.ensures.sound
    c.in_ok-paths.ensures c.added-added.ensures c.lowered-lowered.ensures

pub returns-clause-closed : goal.returns-clause-closed
returns-clause-closed c = closed_of c.args.paths c.in_ok-table.table c.in_ok-paths.paths c.in_ok-table.ensures c.soundness.ensures.sound c.in_ok-paths.ensures

pub returns-clause-sound : goal.returns-clause-sound
returns-clause-sound c = sound_of c.in_ok-table.table c.in_ok-paths.paths c.soundness.ensures.sound c.in_default.ensures c.soundness.ensures.few c.in_ok-paths.ensures
