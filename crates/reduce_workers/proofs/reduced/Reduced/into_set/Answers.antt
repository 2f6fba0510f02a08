use Rattle.std.proofs.Common.{◌∙◌, ap, map}
use Rattle.std.proofs.lemmas.Result.{IfOk-weaker}
use Rattle.tb_base.specs.OutSets.{hops_at, row_of}
use Rattle.reduce_workers.specs.Reductions.{ReducedData}
use Rattle.reduce_workers.proofs.KeptSets.{has_enough, has_kept}
use Rattle.reduce_workers.proofs.reduced.Reduced.into_set.Goals as goal

pub returns-clause-rows : goal.returns-clause-rows
returns-clause-rows c =
    IfOk-weaker c.build.result _ _ (λ set hops t i. hops t i ∙ ap (λ rows. hops_at (row_of (map (λ row. row.items) rows) t) i) c.as_slice.ensures.value ∙ ap (λ (r : ReducedData). hops_at (row_of r.rows t) i) c.self.view_is) c.build.ensures.hops

pub returns-clause-hops : goal.returns-clause-hops
returns-clause-hops c =
    IfOk-weaker c.build.result _ _ (λ set hops lines divided kept. has_kept c.args.table.now c.soundness.ensures set (map (λ row. row.items) c.self.inside.rows.items)
    (λ t i. hops t i ∙ ap (λ rows. hops_at (row_of (map (λ row. row.items) rows) t) i) c.as_slice.ensures.value) lines divided (ap (λ (r : ReducedData). r.rows) (c.self.view_is ∙ kept))) c.build.ensures.hops

pub returns-clause-sufficient : goal.returns-clause-sufficient
returns-clause-sufficient c =
    IfOk-weaker c.build.result _ _ (λ set hops lines divided kept. has_enough c.args.table.now c.soundness.ensures set (map (λ row. row.items) c.self.inside.rows.items)
    (λ t i. hops t i ∙ ap (λ rows. hops_at (row_of (map (λ row. row.items) rows) t) i) c.as_slice.ensures.value) lines divided (ap (λ (r : ReducedData). r.rows) (c.self.view_is ∙ kept))) c.build.ensures.hops
