use Rattle.lane_serve.proofs.run.serve_plan.Given as goal

-- the book that was just opened
abbrev pub ghosts-serve_from : goal.ghosts-serve_from
ghosts-serve_from g a = record { book = a.opened.seen.book }
