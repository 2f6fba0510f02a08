use Rattle.std.proofs.Common.{◌∙◌, ap}
use Rattle.tb_base.specs.TimetableData.{TripData}
use Rattle.answer_text.proofs.Joined.{name_of_trip}
use Rattle.answer_json.proofs.journeys.trip_name.Goals as goal

pub returns : goal.returns
returns c = c.bytes.ensures ∙ ap (λ (t : TripData). t.name) c.trip.view_is ∙ name_of_trip c.args.table.now c.args.t c.trip-trip.result.now c.trip-trip.ensures.trip
