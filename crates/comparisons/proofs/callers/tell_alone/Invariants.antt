use Rattle.comparisons.proofs.callers.tell_alone.Given as goal

abbrev pub ghosts-told_alone : goal.ghosts-told_alone
ghosts-told_alone g a = record { book = a.opened.seen.book }
