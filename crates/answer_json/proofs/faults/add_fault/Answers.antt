use Rattle.answer_json.proofs.faults.add_fault.Goals as goal

pub returns-in-FarFootpath : goal.returns-in-FarFootpath
returns-in-FarFootpath c = rw c.in-FarFootpath.is c.add_two_stops.ensures
