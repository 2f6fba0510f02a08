use Rattle.edition_store.proofs.AfterRun as law
use Rattle.edition_store.proofs.laws.rule_is_of_a_run.Goals as goal

pub returns : goal.returns
returns g c = law.after_run
