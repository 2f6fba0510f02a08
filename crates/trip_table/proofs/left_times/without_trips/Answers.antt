use Rattle.std.proofs.Common.{rules, ◌≡◌, get_or, false}
use Rattle.std.specs.Prelude.{filter, not}
use Rattle.std.proofs.lemmas.Fn.{filter_same}
use Rattle.service_trips.specs.declared.stop_time.StopTime.{StopTime}
use Rattle.trip_table.proofs.LeftTimesSteps.{unmarked_rows}
use Rattle.trip_table.proofs.left_times.without_trips.Goals as goal

pub returns : goal.returns
returns c =
    let marks = c.in_ok-marks.marks.items in
    let retained : c.retain.new.self.items ≡ filter (λ r. not (get_or marks (StopTime.trip_row r) false)) c.args.rows.items =
    filter_same _ (λ r. not (get_or marks (StopTime.trip_row r) false)) _ (λ x b f h. let k = h.called in let s = h.shows in search (rules, k, s)) _ _ c.retain.ensures.filtered in
    unmarked_rows marks c.args.trips c.args.found.now c.args.rows.items c.retain.new.self.items c.in_ok-marks.ensures.marks c.requires retained
