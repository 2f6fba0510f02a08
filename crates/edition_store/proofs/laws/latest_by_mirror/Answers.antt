use Rattle.edition_store.proofs.Latest.{are_latest}
use Rattle.edition_store.proofs.laws.latest_by_mirror.Goals as goal

pub returns : goal.returns
returns c = are_latest
