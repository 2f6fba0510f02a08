use Rattle.live_turns.proofs.Wholes as law
use Rattle.live_turns.proofs.laws.words_are_kept.Goals as goal

pub returns : goal.returns
returns c m le text = law.words_same m le text
