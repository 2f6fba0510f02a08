use Rattle.std.proofs.Common.{◌∙◌, ap}
use Rattle.tb_base.specs.TimetableData.{TripData}
use Rattle.answer_text.specs.Journeys.{trip_name}
use Rattle.answer_text.proofs.Joined.{same_added, name_of_trip}
use Rattle.answer_text.proofs.text.Text.trip.Goals as goal

pub returns : goal.returns
returns c =
    same_added c.add.result c.args.self.now c.add.new.self c.bytes.result.now (trip_name c.args.table.now c.args.t)
    (c.bytes.ensures ∙ ap (λ (t : TripData). t.name) c.trip.view_is ∙ name_of_trip c.args.table.now c.args.t c.trip-trip.result.now c.trip-trip.ensures.trip) c.add.ensures.added
