use Rattle.std.proofs.Common.{◌∙◌, sym}
use Rattle.late_edit.proofs.Finds.{passed_over}
use Rattle.late_edit.proofs.first_trips.FirstTrips.note_named.Goals as goal

pub returns-then-not-has_name : goal.returns-then-not-has_name
returns-then-not-has_name c = λ day name among.
    passed_over c.args.names.now c.args.trip.now c.args.number _ day name (sym c.has_name.ensures ∙ c.if-not-has_name.true) among
