use Rattle.std.proofs.Common.{◌≡◌, ◌++◌, ℕ, List}
use Rattle.history.specs.Lists.{StartsWith}
use Rattle.live_turns.specs.Runs.{Tells}
use Rattle.live_turns.specs.LiveTexts.{news_shown}
use Rattle.live_turns.proofs.live.news.tell_news.Given as goal

abbrev pub invariant-loop-turn : goal.invariant-loop-turn
invariant-loop-turn g l = ((note : List ℕ) × Tells (news_shown l.json) l.fn.news l.news note × (l.text ≡ l.fn.text ++ note)) × StartsWith l.news l.fn.news
