use Rattle.std.proofs.Common.{◌∙◌, ◌-◌, length, arith}
use Rattle.service_trips.proofs.FirstWrong.{last_found, along_left}
use Rattle.service_trips.proofs.faults.trip_fault.Goals as goal

pub returns-in-Some-end_fault : goal.returns-in-Some-end_fault
returns-in-Some-end_fault c =
    last_found c.args.rows.now (length c.args.rows.now - 1) c.index-rows-0.result c.index-rows-last.result c.in-Some-end_fault.fault
    (omega arith) (omega arith) c.index-rows-0.is c.index-rows-last.is c.in_default.ensures c.in-Some-end_fault.ensures

pub returns : goal.returns
returns c =
    c.fault_along.ensures
    ∙ along_left c.args.rows.now (length c.args.rows.now - 1) c.index-rows-0.result c.index-rows-last.result
    (omega arith) (omega arith) c.index-rows-0.is c.index-rows-last.is c.in_default.ensures c.in_default-end_fault.ensures
