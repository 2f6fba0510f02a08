use Rattle.std.proofs.Common.{◌∙◌, ◌++◌, ◌∷◌, [], ap}
use Rattle.std.proofs.lemmas.List.{replicate_more}
use Rattle.edition_store.proofs.Lists.{kept_ok}
use Rattle.edition_store.proofs.store.keepers.Goals as goal

pub loop-preserved : goal.loop-preserved
loop-preserved g c =
    kept_ok _ c.add_keeper.result c.if-is_err.ensures.value c.add_keeper.ensures
    ∙ ap (λ xs. xs ++ c.args.first.now ∷ []) c.loop.invariant ∙ replicate_more c.loop.counter c.args.first.now
