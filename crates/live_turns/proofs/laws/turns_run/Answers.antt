use Rattle.live_turns.proofs.Joined as law
use Rattle.live_turns.proofs.laws.turns_run.Goals as goal

pub returns : goal.returns
returns g c = law.turns_run g.J.Judge.replies g.J.Judge.counts g.J.Judge.shows
