use Rattle.plain_rounds.specs.Rounds.{NoneBoards}
use Rattle.plain_rounds.proofs.rounds.first_boarding.Given as goal

abbrev pub invariant-loop-at : goal.invariant-loop-at
invariant-loop-at l = NoneBoards l.ready l.events l.at
