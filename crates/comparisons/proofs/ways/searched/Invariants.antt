use Rattle.comparisons.proofs.ways.searched.Given as goal

abbrev pub ghosts-searched_on : goal.ghosts-searched_on
ghosts-searched_on a = record { name = a.blank.name; parts = a.blank.parts }
