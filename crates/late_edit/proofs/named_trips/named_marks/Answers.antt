use Rattle.std.proofs.Common.{◌+◌, ◌∙◌, None, ap, subst, sym, length, get_or, take, false}
use Rattle.std.specs.Prelude.{All}
use Rattle.std.proofs.lemmas.List.{get_or_default, take_all, with_items_is}
use Rattle.late_edit.proofs.Finds.{IsMarked, marks_more}
use Rattle.late_edit.proofs.named_trips.named_marks.Goals as goal

pub loop-one-preserved : goal.loop-one-preserved
loop-one-preserved c =
    let named = c.args.named.now in
    let k = c.loop-one.one in
    let o = get_or c.args.named.now c.loop-one.one None in
    let items = c.as_mut_slice.ensures.value in
    let is = with_items_is c.loop-one.marks c.mark.new.marks (c.mark.ensures.long ∙ c.as_mut_slice.ensures.len) in
    record {
      long = ap length is ∙ (c.mark.ensures.long ∙ (ap length items ∙ c.loop-one.invariant.long));
      marked = subst (λ ms. All (IsMarked c.args.count ms) (take (c.loop-one.one + 1) c.args.named.now)) (sym is)
          (marks_more named k c.args.count o c.loop-one.marks.items c.mark.new.marks c.loop-one-test.true (sym (get_or_default named k o None c.loop-one-test.true))
          (λ t on. c.mark.ensures.kept t (ap (λ ms. get_or ms t false) items ∙ on))
          (subst (λ n. IsMarked n c.mark.new.marks (get_or c.args.named.now c.loop-one.one None)) (ap length items ∙ c.loop-one.invariant.long) c.mark.ensures.marked) c.loop-one.invariant.marked);
    }

pub returns : goal.returns
returns c = record {
  long = c.loop-one.invariant.long;
  marked = subst (All (IsMarked c.args.count c.loop-one.marks.items)) (take_all c.loop-one.one c.args.named.now c.loop-one-test.false) c.loop-one.invariant.marked;
}
