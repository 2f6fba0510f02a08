use Rattle.edition_store.proofs.Unique.{mirror_back, mirror_twice}
use Rattle.edition_store.proofs.laws.mirror_twice.Goals as goal

pub returns-clause-back : goal.returns-clause-back
returns-clause-back c = mirror_back

pub returns-clause-same : goal.returns-clause-same
returns-clause-same c = mirror_twice
