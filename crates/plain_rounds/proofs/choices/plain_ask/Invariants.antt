use Rattle.std.specs.Prelude.{sum}
use Rattle.plain_rounds.specs.PlainAnswer.{IsPlainAnswer, IsRound}
use Rattle.plain_rounds.proofs.choices.plain_ask.Given as goal

abbrev pub invariant-loop-rounds : goal.invariant-loop-rounds
invariant-loop-rounds l = record {
  round : IsRound l.table l.query l.rides l.rounds;
  answer : IsPlainAnswer l.table l.query l.rides l.answer.choices.items l.answer.best;
}

abbrev pub decreases-loop-rounds : goal.decreases-loop-rounds
decreases-loop-rounds l = sum l.rounds.boarded_at.items
