use Rattle.arrive_by.proofs.departing.latest.Given as goal

abbrev pub ghosts-choices_on : goal.ghosts-choices_on
ghosts-choices_on a = record { name = a.blank.name; parts = a.blank.parts }
