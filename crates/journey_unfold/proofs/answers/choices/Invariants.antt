use Rattle.std.proofs.Common.{◌≡◌, ℕ, List, map, take}
use Rattle.std.specs.Prelude.{All}
use Rattle.tb_base.specs.BestValues.{ChoiceData}
use Rattle.tb_base.specs.declared.transfer.Hop.{Hop}
use Rattle.segment_queue.specs.declared.desk.Hit.{Hit}
use Rattle.segment_queue.specs.Traced.{LegsFollow, UsesHops}
use Rattle.plain_rounds.specs.Shown.{SpellShortest}
use Rattle.journey_unfold.proofs.answers.choices.Given as goal

abbrev pub invariant-loop-hit : goal.invariant-loop-hit
invariant-loop-hit l = record {
  values : map ChoiceData.value l.choices.items ≡ map (λ (h : Hit). h.value) (take l.hit-index l.desk.hits);
  walks : All (λ c. SpellShortest l.table l.query (ChoiceData.legs c) (ChoiceData.value c)) l.choices.items;
  hops : (hops : ℕ → ℕ → List Hop) → UsesHops hops l.desk.segments → All (λ c. LegsFollow hops (ChoiceData.legs c)) l.choices.items;
}
