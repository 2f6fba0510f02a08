use Rattle.std.proofs.Common.{◌∙◌, ◌++◌, ◌∷◌, [], ap}
use Rattle.edition_store.proofs.store.add_keeper.Goals as goal

pub returns : goal.returns
returns g c = c.in_ok-push.ensures.items ∙ ap (λ s. c.args.keepers.now.items ++ s ∷ []) (c.keeping.ensures ∙ c.in_ok-list.ensures)
