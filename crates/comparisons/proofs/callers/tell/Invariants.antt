use Rattle.comparisons.proofs.callers.tell.Given as goal

abbrev pub ghosts-told_over : goal.ghosts-told_over
ghosts-told_over g a = record { book = a.opened.seen.book }
