use Rattle.std.proofs.Common.{◌≡◌, ◌∙◌, sym, subst, ℕ, inl, inr, arith}
use Rattle.std.proofs.lemmas.Bool.{cases_lt}
use Rattle.foot_close.specs.Shortest.{closure_of}
use Rattle.foot_close.specs.Closing.{IsNear}
use Rattle.foot_close.proofs.TableLaws.{near_row, far_row, near_past}
use Rattle.foot_close.proofs.table.Table.first_far.Goals as goal

pub returns-in-Some : goal.returns-in-Some
returns-in-Some c = far_row c.args.self.now c.loop-from.from c.in-Some.to (sym (rw c.row.ensures at c.far_in.ensures) ∙ c.in-Some.is) c.loop-from.invariant

pub loop-from-preserved : goal.loop-from-preserved
loop-from-preserved c = λ a b l.
    elim (cases_lt a c.loop-from.from) [
      | inl m ↦ c.loop-from.invariant a b m
      | inr m ↦
          let same : c.loop-from.from ≡ a = omega arith in
          let P : ℕ → Type 0 = λ x. IsNear (closure_of c.args.self.now) x b in
          subst P same (near_row c.args.self.now c.loop-from.from c.soundness.ensures.sound (sym (rw c.row.ensures at c.far_in.ensures) ∙ c.in_default.is) b)
    ]

pub returns : goal.returns
returns c = λ a b.
    elim (cases_lt a c.loop-from.from) [
      | inl m ↦ c.loop-from.invariant a b m
      | inr m ↦ near_past c.args.self.now a b c.soundness.ensures.sound (omega (arith, m, c.loop-from-test.false, c.stops-from-end.ensures))
    ]
