use Rattle.router_cli.proofs.late_trips.editions_text.Given as goal

-- the book that was just opened
abbrev pub ghosts-ask_last : goal.ghosts-ask_last
ghosts-ask_last g a = record { book = a.opened.seen.book }
