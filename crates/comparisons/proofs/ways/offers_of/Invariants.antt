use Rattle.comparisons.proofs.ways.offers_of.Given as goal

abbrev pub ghosts-offers_on : goal.ghosts-offers_on
ghosts-offers_on a = record { name = a.blank.name; parts = a.blank.parts }
