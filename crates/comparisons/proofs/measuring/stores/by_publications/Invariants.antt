use Rattle.comparisons.proofs.measuring.stores.by_publications.Given as goal

abbrev pub ghosts-filled : goal.ghosts-filled
ghosts-filled g a = record { book = a.opened.seen.book }
