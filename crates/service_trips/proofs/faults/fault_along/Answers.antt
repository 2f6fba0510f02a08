use Rattle.std.proofs.Common.{◌∙◌, sym, ap}
use Rattle.service_trips.specs.Faults.{first_wrong}
use Rattle.service_trips.specs.TimeFaults.{wrong_times}
use Rattle.service_trips.proofs.FirstWrong.{along_found}
use Rattle.service_trips.proofs.faults.fault_along.Goals as goal

pub returns-in-Some : goal.returns-in-Some
returns-in-Some c =
    let told = c.in-Some.ensures ∙ ap (λ t. first_wrong (wrong_times c.loop-row.departed c.row-item.result t)) c.times_of-times.ensures in
    along_found c.loop-row.departed c.args.rows.now c.loop-row.row-index c.row-item.result c.in-Some.fault c.loop-row-test.true c.row-item.is told
    ∙ sym c.loop-row.invariant
