use Rattle.std.proofs.Common.{◌∷◌, ◌++◌, [], false, ap, sym, subst, ◌∙◌}
use Rattle.history.specs.Lists.{Shown}
use Rattle.history.specs.Logs.{shown, Legal, Guarded}
use Rattle.history.proofs.Logs.{legal_more, shown_publish, guarded_more}
use Rattle.history.proofs.Steps.{adds_to}
use Rattle.history.proofs.pen.History.publish.Goals as goal

pub compare_exchange-requires : goal.compare_exchange-requires
compare_exchange-requires g c =
    let i = c.self.invariant in
    let h = i.0 in
    let offer = c.plain-offer.ensures in (
      ap (λ w. w.tracked) h,
      i.1 ∙ sym (ap (λ w. w.book) h),
      i.2 ∙ sym (ap (λ w. w.book) h),
      offer.0,
      rw (ap (λ w. w.key) h, offer.3) (adds_to c.self.inside.seen.log c.plain-offer.result.ask c.self.inside.pen.nib i.3 i.4 i.5),
    )

pub invariant_of-self : goal.invariant_of-self
invariant_of-self g c =
    let i = c.self.invariant in
    let e = c.compare_exchange.ensures in
    let log = c.self.inside.seen.log in
    let ask = c.plain-offer.ensures.1 in
    let grown = e.7 ∙ ap (λ a. log ++ a ∷ []) ask in (
      i.0,
      e.0 ∙ i.1,
      c.draw-pen.ensures.0 ∙ i.1,
      c.draw-pen.ensures.1,
      subst (Guarded c.draw-pen.result.nib.key) (sym grown) (guarded_more log _),
      ap (λ l. (shown l).closed) grown ∙ ap (λ (s : Shown g.row.E.Denot). s.closed) (shown_publish log _ _ i.5),
      subst Legal (sym e.7) (legal_more log c.plain-offer.result.ask i.5 i.6),
    )

pub returns : goal.returns
returns g c =
    let i = c.self.invariant in
    let e = c.compare_exchange.ensures in
    let log = c.self.inside.seen.log in
    ap shown e.7 ∙ ap (λ a. shown (log ++ a ∷ [])) c.plain-offer.ensures.1 ∙ shown_publish log _ _ i.5 ∙ ap (λ (s : Shown g.row.E.Denot). record { list = s.list ++ c.args.item.now ∷ []; closed = false }) c.self.view_is
