use Rattle.comparisons.proofs.ways.travelled.Given as goal

abbrev pub ghosts-travelled_on : goal.ghosts-travelled_on
ghosts-travelled_on a = record { name = a.blank.name; parts = a.blank.parts }
