use Rattle.std.proofs.Common.{◌<◌, ℕ, get_or, nat_lt}
use Rattle.tb_base.specs.Walking.{walk}
use Rattle.earliest_query.specs.Choices.{IsPreferred}
use Rattle.earliest_query.proofs.walks.is_first_choice.Given as goal

abbrev pub invariant-loop-b : goal.invariant-loop-b
invariant-loop-b g l = (k : ℕ) → k < l.b → IsPreferred (walk (g.S.Scan.net l.scan).table (get_or l.origins k 0) l.stop) l.secs (nat_lt k l.place) → ⊥
