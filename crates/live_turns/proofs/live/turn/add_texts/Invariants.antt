use Rattle.std.proofs.Common.{◌≡◌, ◌++◌, take}
use Rattle.query_gate.specs.Dealing.{joined_texts}
use Rattle.live_turns.proofs.live.turn.add_texts.Given as goal

abbrev pub invariant-loop-more : goal.invariant-loop-more
invariant-loop-more l = l.text ≡ l.fn.text ++ joined_texts (take l.more-index l.texts)
