use Rattle.router_cli.proofs.made_city.corner_text.Given as goal

abbrev pub ghosts-choices_in : goal.ghosts-choices_in
ghosts-choices_in a = record { name = a.blank.name; parts = a.blank.parts }
