use Rattle.std.proofs.Common.{◌∙◌, sym, ap, arith}
use Rattle.gtfs_rows.proofs.RowSteps.{passed_over, given, none_left, one_fewer}
use Rattle.gtfs_rows.proofs.cursor.RowCursor.advance.Goals as goal

pub loop-self-init : goal.loop-self-init
loop-self-init c = record { fits = c.self.invariant; same = ap (λ s. s.left) (sym c.self.view_is) }

pub invariant_of-self : goal.invariant_of-self
invariant_of-self c = let h = c.advance.ensures.fewer in omega (arith, h, c.loop-self.invariant.fits)

pub invariant_of-self-else-branch : goal.invariant_of-self-else-branch
invariant_of-self-else-branch c = let h = c.advance.ensures.fewer in omega (arith, h, c.loop-self.invariant.fits)

pub overflow_add-self : goal.overflow_add-self
overflow_add-self c =
    let h = one_fewer _ _ _ (rw c.if-branch.true at c.in_ok-advance.ensures.next) in
    omega (arith, h, c.loop-self.invariant.fits)

pub invariant_of-self-then-not-is_empty_record : goal.invariant_of-self-then-not-is_empty_record
invariant_of-self-then-not-is_empty_record c =
    let h = one_fewer _ _ _ (rw c.if-branch.true at c.in_ok-advance.ensures.next) in
    omega (arith, h, c.loop-self.invariant.fits)

pub returns-then-not-is_empty_record-clause-next : goal.returns-then-not-is_empty_record-clause-next
returns-then-not-is_empty_record-clause-next c =
    let e = rw c.if-branch.true at c.in_ok-advance.ensures.next in
    c.loop-self.invariant.same ∙ given c.loop-self.self-inside.positions.items _ _ _ _ e (sym c.is_empty_record.ensures ∙ c.if-not-is_empty_record.true)

pub loop-self-preserved : goal.loop-self-preserved
loop-self-preserved c =
    let e = rw c.if-branch.true at c.in_ok-advance.ensures.next in
    let h = one_fewer _ _ _ e in
    record {
      fits = omega (arith, h, c.loop-self.invariant.fits);
      same = c.loop-self.invariant.same ∙ passed_over c.loop-self.self-inside.positions.items _ _ _ _ e (sym c.is_empty_record.ensures ∙ c.if-not-is_empty_record.false);
    }

pub returns-clause-next : goal.returns-clause-next
returns-clause-next c =
    let e = rw c.if-branch.false at c.in_ok-advance.ensures.next in (
      c.loop-self.invariant.same ∙ none_left c.loop-self.self-inside.positions.items _ _ e.0,
      none_left c.loop-self.self-inside.positions.items _ _ e.2,
    )
