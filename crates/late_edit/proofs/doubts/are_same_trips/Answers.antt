use Rattle.std.proofs.Common.{◌≡◌, ◌∙◌, ◌<◌, sym, ap, subst, refl, arith, length, get_or, take, false}
use Rattle.std.specs.Prelude.{All}
use Rattle.std.proofs.lemmas.List.{get_or_read_under, take_all, take_more, take_more_same}
use Rattle.std.proofs.lemmas.List.Elements.{All-push}
use Rattle.late_edit.specs.Touched.{has_other_events}
use Rattle.late_edit.proofs.doubts.are_same_trips.Goals as goal

pub loop-i-preserved : goal.loop-i-preserved
loop-i-preserved c =
    let olds = c.args.old.now in
    let news = c.args.new.now in
    let i = c.loop-i.i in
    let x = c.index-old-i.result in
    let T = c.args.compared.now.before.table in
    let U = c.args.compared.now.after.table in
    let in_new : c.loop-i.i < length c.args.new.now = omega (arith, c.loop-i-test.true, c.if-old-new.false) in
    let one = c.if-not-is_same_trip.ensures in
    record {
      same = take_more_same olds news i x c.loop-i-test.true in_new c.loop-i.invariant.same
          (sym c.index-old-i.is ∙ (one.0 ∙ get_or_read_under news i (length news) c.index-new-i.result x c.index-new-i.is in_new refl));
      calm = subst (All (λ u. has_other_events T U u ≡ false)) (sym (take_more olds i x c.loop-i-test.true))
          (All-push (λ u. has_other_events T U u ≡ false) (take i olds) (get_or olds i x) c.loop-i.invariant.calm (ap (has_other_events T U) (sym c.index-old-i.is) ∙ one.1));
    }

pub returns : goal.returns
returns c =
    let olds = c.args.old.now in
    let news = c.args.new.now in
    let i = c.loop-i.i in
    let all = take_all i olds c.loop-i-test.false in (
      sym all ∙ (c.loop-i.invariant.same ∙ take_all i news (omega (arith, c.loop-i-test.false, c.if-old-new.false))),
      subst (All (λ u. has_other_events c.args.compared.now.before.table c.args.compared.now.after.table u ≡ false)) all c.loop-i.invariant.calm,
    )
