use Rattle.edition_store.proofs.Latest.{has_leaving, has_value}
use Rattle.edition_store.proofs.laws.journeys_turn.Goals as goal

pub returns-clause-there : goal.returns-clause-there
returns-clause-there c = has_value

pub returns-clause-back : goal.returns-clause-back
returns-clause-back c = has_leaving
