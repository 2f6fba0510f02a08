use Rattle.std.proofs.Common.{◌≡◌, List, false, ap, sym, subst, ◌∙◌}
use mathlib.Core.List.{IsPrefix}
use base.Growing.{prefix_trans}
use Rattle.logbook.specs.Pages.{cell}
use Rattle.history.specs.declared.entry.Entry.{Entry}
use Rattle.history.proofs.Logs.{extends_known}
use Rattle.history.proofs.Steps.{stays}
use Rattle.history.proofs.pen.History.covers.Goals as goal

pub compare_exchange-requires : goal.compare_exchange-requires
compare_exchange-requires g c =
    let i = c.self.invariant in
    let h = i.0 in
    let offer = c.plain-offer.ensures in
    let book = c.learn.ensures.0 ∙ ap (λ s. s.book) c.again-both.ensures ∙ i.1 in (
      ap (λ w. w.tracked) h,
      book ∙ sym (ap (λ w. w.book) h),
      i.2 ∙ sym (ap (λ w. w.book) h),
      offer.0,
      rw (ap (λ w. w.key) h, offer.3) (stays c.learn.new.self.log c.plain-offer.result.ask c.self.inside.pen.nib i.3 (ap (λ a. a.key) offer.1)),
    )

pub returns-clause-extends : goal.returns-clause-extends
returns-clause-extends g c =
    let i = c.self.invariant in
    let step = c.compare_exchange.ensures in
    let known = c.learn.ensures in
    let log = c.self.inside.seen.log in
    let all = c.compare_exchange.new.seen.log in
    let mine : IsPrefix log c.learn.new.self.log = subst (λ (l : List (Entry g.row.E.Denot)). IsPrefix l c.learn.new.self.log) (ap (λ s. s.log) c.again-both.ensures) known.2 in
    let free = subst (λ k. (cell step.7.1.0 k).1 ≡ false) (ap (λ a. a.key) c.plain-offer.ensures.1) step.7.1.1 in
    rw (← c.self.view_is, ← c.front.view_is)
    (extends_known step.7.1.0 log c.front.inside.seen.log all c.self.inside.pen.nib.key (prefix_trans log _ all mine step.6) (prefix_trans c.front.inside.seen.log _ all known.3 step.6) i.4 free step.7.1.2 i.6)
