use Rattle.journey_read.proofs.Verdicts.{one_verdict}
use Rattle.journey_read.proofs.laws.one_verdict.Goals as goal

pub returns : goal.returns
returns c = λ T Q claimed v w sound inside. one_verdict T Q claimed sound inside v w
