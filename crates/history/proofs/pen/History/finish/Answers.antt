use Rattle.std.proofs.Common.{◌∷◌, ◌++◌, [], true, ap, sym, subst, ◌∙◌}
use Rattle.history.specs.Lists.{Shown}
use Rattle.history.specs.Logs.{shown, Legal}
use Rattle.history.proofs.Logs.{legal_more, shown_finish}
use Rattle.history.proofs.Steps.{adds_to}
use Rattle.history.proofs.pen.History.finish.Goals as goal

pub compare_exchange-requires : goal.compare_exchange-requires
compare_exchange-requires g c =
    let i = c.self.invariant in
    let h = i.0 in
    let offer = c.plain-offer.ensures in (
      ap (λ w. w.tracked) h,
      i.1 ∙ sym (ap (λ w. w.book) h),
      i.2 ∙ sym (ap (λ w. w.book) h),
      offer.0,
      rw (ap (λ w. w.key) h, offer.3) (adds_to c.self.inside.seen.log c.plain-offer.result.ask c.self.inside.pen.nib i.3 i.4 i.5),
    )

pub invariant_of-result : goal.invariant_of-result
invariant_of-result g c =
    let i = c.self.invariant in
    let e = c.compare_exchange.ensures in
    (e.0 ∙ i.1, subst Legal (sym e.7) (legal_more c.self.inside.seen.log c.plain-offer.result.ask i.5 i.6))

pub returns : goal.returns
returns g c =
    let i = c.self.invariant in
    let e = c.compare_exchange.ensures in
    ap shown e.7 ∙ ap (λ a. shown (c.self.inside.seen.log ++ a ∷ [])) c.plain-offer.ensures.1 ∙ shown_finish c.self.inside.seen.log 0 ∙ ap (λ (s : Shown g.row.E.Denot). record { list = s.list; closed = true }) c.self.view_is
