use Rattle.std.proofs.Common.{ℕ, ◌<◌, get_or}
use Rattle.tb_base.specs.BestValues.{IsNoWorse}
use Rattle.segment_queue.specs.declared.desk.Hit.{Hit}
use Rattle.earliest_query.proofs.found.is_beaten.Given as goal

abbrev pub invariant-loop-hit : goal.invariant-loop-hit
invariant-loop-hit l = record { unbeaten : (k : ℕ) (d : Hit) → k < l.hit-index → IsNoWorse (get_or l.hits k d).value l.value → ⊥ }
