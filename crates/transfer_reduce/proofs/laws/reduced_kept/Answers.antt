use Rattle.transfer_reduce.proofs.Steps.{ends}
use Rattle.transfer_reduce.proofs.laws.reduced_kept.Goals as goal

pub returns : goal.returns
returns c = ends
