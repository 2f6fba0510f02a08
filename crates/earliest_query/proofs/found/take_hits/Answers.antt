use Rattle.std.proofs.Common.{◌∙◌, ◌++◌, map, rules, ap}
use Rattle.std.proofs.lemmas.List.{take_all}
use Rattle.segment_queue.specs.declared.desk.Hit.{Hit}
use Rattle.earliest_query.specs.UnderWay.{IsHit}
use Rattle.earliest_query.proofs.FoundValues.{retained_has, retained_or, retained_there, taken_beside, taken_covers, taken_from}
use Rattle.earliest_query.proofs.found.take_hits.Goals as goal

pub returns-clause-from : goal.returns-clause-from
returns-clause-from c =
    taken_from c.args.hits.now c.args.values.now.items c.retain.new.self.items c.loop-hit.values.items
    (c.loop-hit.invariant.values ∙ ap (λ hs. c.retain.new.self.items ++ map (λ (h : Hit). h.value) hs) (take_all c.loop-hit.hit-index c.args.hits.now c.loop-hit-test.false))
    (retained_there _ (IsHit c.args.hits.now) _ (λ x b f' k. search rules) _ _ c.retain.ensures.filtered)

pub returns-clause-covers : goal.returns-clause-covers
returns-clause-covers c =
    taken_covers c.args.hits.now c.args.values.now.items c.retain.new.self.items c.loop-hit.values.items
    (c.loop-hit.invariant.values ∙ ap (λ hs. c.retain.new.self.items ++ map (λ (h : Hit). h.value) hs) (take_all c.loop-hit.hit-index c.args.hits.now c.loop-hit-test.false))
    (retained_or _ (IsHit c.args.hits.now) _ (λ x b f' k. search rules) _ _ c.retain.ensures.filtered)

pub returns-clause-let_go : goal.returns-clause-let_go
returns-clause-let_go c =
    taken_beside c.args.hits.now c.args.values.now.items c.retain.new.self.items c.loop-hit.values.items
    (c.loop-hit.invariant.values ∙ ap (λ hs. c.retain.new.self.items ++ map (λ (h : Hit). h.value) hs) (take_all c.loop-hit.hit-index c.args.hits.now c.loop-hit-test.false))
    (retained_has _ (λ v. IsHit c.args.hits.now v → ⊥) _ (λ x b f' k. search rules) _ _ c.retain.ensures.filtered)
