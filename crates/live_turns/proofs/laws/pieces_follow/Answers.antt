use Rattle.live_turns.proofs.Pieces as law
use Rattle.live_turns.proofs.laws.pieces_follow.Goals as goal

pub returns-clause-lines : goal.returns-clause-lines
returns-clause-lines c m begun xs ys = (law.pieces m begun xs ys).0

pub returns-clause-begun : goal.returns-clause-begun
returns-clause-begun c m begun xs ys = (law.pieces m begun xs ys).1
