use Rattle.std.proofs.Common.{◌∙◌, ap, sym, subst}
use Rattle.history.specs.Lists.{Shown, Extends}
use Rattle.edition_store.specs.Editions.{EditionData}
use Rattle.edition_store.proofs.Lists.{kept_err, kept_ok, last_as}
use Rattle.edition_store.proofs.Rules.{turns}
use Rattle.edition_store.proofs.publisher.show.Goals as goal

pub publish_as-writer-requires : goal.publish_as-writer-requires
publish_as-writer-requires g c next is =
    let one = kept_ok _ c.append.result c.if-is_err.ensures.value c.append.ensures.pending in
    let made = is ∙ last_as _ _ c.args.next _ one in
    let now = c.append.new.self.desk.shown.value in
    let up : Extends c.args.next now = subst (λ (z : Shown EditionData). Extends c.args.next z) (sym (ap (λ d. d.shown.value) c.append.ensures.desk)) c.requires in
    turns _ _ now next (subst (λ (z : Shown EditionData). Extends z now) (sym made) up)

pub returns-clause-shown : goal.returns-clause-shown
returns-clause-shown g c =
    let one = kept_ok _ c.append.result c.if-is_err.ensures.value c.append.ensures.pending in
    let values = kept_ok _ c.publish_as-writer.result.1 c.if-is_err-2.ensures.value c.publish_as-writer.ensures.values in
    values.0 ∙ last_as _ _ c.args.next _ one

pub returns-then-is_err-2-clause-refused : goal.returns-then-is_err-2-clause-refused
returns-then-is_err-2-clause-refused g c =
    let values = kept_err _ c.publish_as-writer.result.1 c.if-is_err-2.ensures.value c.publish_as-writer.ensures.values in
    values.0 ∙ ap (λ d. d.shown.value) c.append.ensures.desk
