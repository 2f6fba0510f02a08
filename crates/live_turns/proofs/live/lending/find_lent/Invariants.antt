use Rattle.live_turns.proofs.live.lending.find_lent.Given as goal

-- the folder that is lent
abbrev pub ghosts-find_named : goal.ghosts-find_named
ghosts-find_named g a = record { name = g.B.Lends.name a.lender; start = g.B.Lends.count a.lender }
