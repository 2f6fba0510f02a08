use Rattle.comparisons.proofs.measuring.stores.by_pins.Given as goal

abbrev pub ghosts-pinned : goal.ghosts-pinned
ghosts-pinned g a = record { book = a.opened.seen.book }
