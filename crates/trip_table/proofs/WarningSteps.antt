-- What is warned of, step by step.
use Rattle.std.proofs.Common.{◌≡◌, ap₂, append-nil, inl, inr, refl, subst, sym, List, [], ◌++◌}
use Rattle.tb_base.specs.TimetableData.{FootpathData}
use Rattle.tb_base.specs.Soundness.{IsSoundFootpaths}
use Rattle.tb_base.specs.Walking.{change_between}
use Rattle.foot_close.specs.Closing.{ClosureHas, IsCloseRefused, IsHeld}
use Rattle.foot_close.specs.Closure.{IsClosed}
use Rattle.foot_close.specs.declared.closed.Closed.{Closed}
use Rattle.foot_close.specs.declared.closed.CloseFault.{CloseFault}
use Rattle.foot_close.specs.declared.closed.CloseFault.TheVariants as why
use Rattle.footpaths.specs.Footpaths.{Changes}
use Rattle.trip_table.proofs.ClosingSteps.{closing_held}
use Rattle.trip_table.proofs.OneClosing.{same_closure}
use Rattle.trip_table.specs.Warnings.{IsClosingWarning, closed_warning, counts_warning}
use Rattle.trip_table.specs.declared.warning.Warning.{Warning}

-- footpaths were closed
pub closing_counted : (given : FootpathData) (c : Closed) → ClosureHas given (IsHeld given c) → IsClosed given c.paths → IsSoundFootpaths c.paths → IsClosingWarning given (counts_warning c.added c.lowered)
closing_counted given c held closed sound =
    let h = closing_held [] given c held closed sound in
    let one : held.closed ≡ h.closed = same_closure (change_between given) held.closed h.closed held.closure h.closure in
    let counted : counts_warning c.added c.lowered ≡ closed_warning given held.closed = ap₂ counts_warning held.has.added held.has.lowered in
    let there : counts_warning c.added c.lowered ≡ closed_warning given h.closed = subst (λ (k : Changes). counts_warning c.added c.lowered ≡ closed_warning given k) one counted in
    inl (record { closed = h.closed; closure = h.closure; has = (h.has.1, there) })

-- closing was refused
closing_refused : (given : FootpathData) (cause : CloseFault) → (cause ≡ why.Memory → ⊥) → IsCloseRefused given cause → IsClosingWarning given []
closing_refused given cause other h = inr (cause, other, h, refl)

-- nothing is added to what is there
pub refused_counted : (given : FootpathData) (cause : CloseFault) (warnings : List Warning) → (cause ≡ why.Memory → ⊥) → IsCloseRefused given cause → (found : List Warning) × IsClosingWarning given found × (warnings ≡ warnings ++ found)
refused_counted given cause warnings other h = ([], closing_refused given cause other h, sym (append-nil warnings))
