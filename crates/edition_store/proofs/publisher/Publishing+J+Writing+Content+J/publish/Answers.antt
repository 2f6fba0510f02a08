use Rattle.std.proofs.Common.{◌∙◌, ◌++◌, ◌∷◌, [], ap, false}
use Rattle.std.proofs.lemmas.Result.{IfErr-weaker, IfOk-weaker}
use Rattle.history.specs.Lists.{Shown}
use Rattle.edition_store.specs.Editions.{EditionData}
use Rattle.edition_store.proofs.publisher.Publishing+J+Writing+Content+J.publish.Goals as goal

pub returns-clause-list : goal.returns-clause-list
returns-clause-list g c =
    IfOk-weaker c.turned.result _ _
    (λ t shown. shown ∙ ap (λ (s : Shown EditionData). s.list) c.grown-content.ensures.history ∙ ap (λ l. l ++ c.args.edition ∷ []) c.self.view_is)
    c.turned.ensures.list

pub returns-clause-receipt : goal.returns-clause-receipt
returns-clause-receipt g c =
    IfOk-weaker c.turned.result _ _
    (λ t told. told ∙ c.grown-content.ensures.history ∙ ap (λ l. record { list = l ++ c.args.edition ∷ []; closed = false }) c.self.view_is)
    c.turned.ensures.receipt

pub returns-clause-whole : goal.returns-clause-whole
returns-clause-whole g c =
    IfErr-weaker c.turned.result _ _
    (λ r whole. whole ∙ ap (λ (s : Shown EditionData). s.list) c.grown-content.ensures.history ∙ ap (λ l. l ++ c.args.edition ∷ []) c.self.view_is)
    c.turned.ensures.whole
