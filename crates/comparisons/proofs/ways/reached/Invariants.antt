use Rattle.comparisons.proofs.ways.reached.Given as goal

abbrev pub ghosts-reached_on : goal.ghosts-reached_on
ghosts-reached_on a = record { name = a.blank.name; parts = a.blank.parts }
