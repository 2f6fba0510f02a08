use Rattle.edition_store.proofs.Tied as law
use Rattle.edition_store.proofs.laws.history_is.Goals as goal

pub returns : goal.returns
returns g c = law.tied
