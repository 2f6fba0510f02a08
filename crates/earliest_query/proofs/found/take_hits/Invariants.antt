use Rattle.std.proofs.Common.{◌≡◌, ◌++◌, map, take}
use Rattle.segment_queue.specs.declared.desk.Hit.{Hit}
use Rattle.earliest_query.proofs.found.take_hits.Given as goal

abbrev pub invariant-loop-hit : goal.invariant-loop-hit
invariant-loop-hit l = record { values : l.values.items ≡ l.initial.values.items ++ map (λ (h : Hit). h.value) (take l.hit-index l.hits) }
