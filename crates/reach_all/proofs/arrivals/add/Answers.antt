use Rattle.std.proofs.Common.{◌≡◌, ◌∙◌, ◌-◌, ap, length, set, sym, subst, arith}
use Rattle.std.specs.Prelude.{Some, slice_get}
use Rattle.reach_all.proofs.Offering.{some_last, with_value-left, with_value-more, with_value-put}
use Rattle.reach_all.proofs.arrivals.add.Goals as goal

pub returns-then-is_as_early : goal.returns-then-is_as_early
returns-then-is_as_early c =
    let xs = c.args.values.now.items in
    let is : slice_get xs (length xs - 1) ≡ Some c.in-Some.last = subst (λ ys. slice_get ys (length ys - 1) ≡ Some c.in-Some.last) c.deref.ensures.value (sym c.last.ensures.value ∙ sym c.copied.ensures ∙ c.in-Some.is) in
    sym (with_value-left c.in-Some.last c.args.value.now xs (length xs - 1) (some_last xs c.in-Some.last is) is (sym c.is_as_early.ensures ∙ c.if-is_as_early.true))

pub returns-then-last-value : goal.returns-then-last-value
returns-then-last-value c =
    let xs = c.args.values.now.items in
    let is : slice_get xs (length xs - 1) ≡ Some c.in-Some.last = subst (λ ys. slice_get ys (length ys - 1) ≡ Some c.in-Some.last) c.deref.ensures.value (sym c.last.ensures.value ∙ sym c.copied.ensures ∙ c.in-Some.is) in
    ap (λ k. set xs k c.args.value.now) (omega (arith, c.len-end.ensures))
    ∙ sym (with_value-put c.in-Some.last c.args.value.now xs (length xs - 1) (some_last xs c.in-Some.last is) is (sym c.is_as_early.ensures ∙ c.if-is_as_early.false) c.if-last-value.true)

pub returns : goal.returns
returns c =
    let xs = c.args.values.now.items in
    let is : slice_get xs (length xs - 1) ≡ Some c.in-Some.last = subst (λ ys. slice_get ys (length ys - 1) ≡ Some c.in-Some.last) c.deref.ensures.value (sym c.last.ensures.value ∙ sym c.copied.ensures ∙ c.in-Some.is) in
    c.in_ok-push-2.ensures.items ∙ sym (with_value-more c.in-Some.last c.args.value.now xs (length xs - 1) (some_last xs c.in-Some.last is) is (sym c.is_as_early.ensures ∙ c.if-is_as_early.false) c.if-last-value.false)
