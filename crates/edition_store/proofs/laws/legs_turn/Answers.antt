use Rattle.edition_store.proofs.Latest.{spell_leaving}
use Rattle.edition_store.proofs.laws.legs_turn.Goals as goal

pub returns : goal.returns
returns c = spell_leaving
