use Rattle.live_turns.proofs.Joined as law
use Rattle.live_turns.proofs.laws.turns_give.Goals as goal

pub returns : goal.returns
returns g c = law.turns_give g.G.Gift.given g.G.Gift.gives
