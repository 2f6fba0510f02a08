use Rattle.query_gate.proofs.answering.answer.Given as goal

abbrev pub ghosts-values_between : goal.ghosts-values_between
ghosts-values_between a = record { name = a.blank.name; parts = a.blank.parts }

abbrev pub ghosts-slots_between : goal.ghosts-slots_between
ghosts-slots_between a = record { name = a.blank.name; parts = a.blank.parts }

abbrev pub ghosts-values_from : goal.ghosts-values_from
ghosts-values_from a = record { name = a.blank.name; parts = a.blank.parts }

abbrev pub ghosts-times_from : goal.ghosts-times_from
ghosts-times_from a = record { name = a.blank.name; parts = a.blank.parts }
