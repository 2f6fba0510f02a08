use Rattle.foot_close.proofs.Chains.{closed_keeps}
use Rattle.foot_close.proofs.laws.closed_keeps_law.Goals as goal

pub returns : goal.returns
returns c = closed_keeps
