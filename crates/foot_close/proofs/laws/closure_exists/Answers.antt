use Rattle.foot_close.proofs.ClosedLaws.{closure_is}
use Rattle.foot_close.proofs.laws.closure_exists.Goals as goal

pub returns : goal.returns
returns c = closure_is
