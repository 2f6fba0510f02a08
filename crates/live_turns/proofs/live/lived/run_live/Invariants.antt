use Rattle.live_turns.proofs.live.lived.run_live.Given as goal

-- the books that were just opened
abbrev pub ghosts-live_from-J-Naming : goal.ghosts-live_from-J-Naming
ghosts-live_from-J-Naming g a = record { book = a.opened.seen.book }

abbrev pub ghosts-live_from-K-Naming : goal.ghosts-live_from-K-Naming
ghosts-live_from-K-Naming g a = record { book = a.named.seen.book }

abbrev pub ghosts-live_from-L-Naming : goal.ghosts-live_from-L-Naming
ghosts-live_from-L-Naming g a = record { book = a.told.seen.book }
