use Rattle.foot_close.proofs.Chains.{one_closure}
use Rattle.foot_close.proofs.laws.closure_unique.Goals as goal

pub returns : goal.returns
returns c = one_closure
