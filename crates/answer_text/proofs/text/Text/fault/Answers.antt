use Rattle.answer_text.proofs.text.Text.fault.Goals as goal

pub returns-in-OpenFootpaths : goal.returns-in-OpenFootpaths
returns-in-OpenFootpaths c = rw c.in-OpenFootpaths.is c.three_names.ensures

pub returns-in-LongFootpath : goal.returns-in-LongFootpath
returns-in-LongFootpath c = rw c.in-LongFootpath.is c.three_names-in-LongFootpath.ensures

pub returns-in-FarFootpath : goal.returns-in-FarFootpath
returns-in-FarFootpath c = rw c.in-FarFootpath.is c.two_names.ensures
