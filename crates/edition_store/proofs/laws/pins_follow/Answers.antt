use Rattle.edition_store.proofs.Follows as law
use Rattle.edition_store.proofs.laws.pins_follow.Goals as goal

pub returns-clause-before : goal.returns-clause-before
returns-clause-before g c = law.pins_follow

pub returns-clause-after : goal.returns-clause-after
returns-clause-after g c = law.pins_stay
