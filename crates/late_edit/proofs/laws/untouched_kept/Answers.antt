use Rattle.late_edit.proofs.Untouched.{untouched_kept}
use Rattle.late_edit.proofs.laws.untouched_kept.Goals as goal

pub returns : goal.returns
returns c L M t i same untouched = untouched_kept L M t same untouched i
