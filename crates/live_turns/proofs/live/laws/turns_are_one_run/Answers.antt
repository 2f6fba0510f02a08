use Rattle.live_turns.proofs.LiveRuns as law
use Rattle.live_turns.proofs.live.laws.turns_are_one_run.Goals as goal

pub returns-clause-whole : goal.returns-clause-whole
returns-clause-whole c mode = law.whole_run mode

pub returns-clause-cut : goal.returns-clause-cut
returns-clause-cut c mode = law.cut_run mode
