use Rattle.std.proofs.Common.{◌≡◌, ◌≢◌, ◌<◌, ◌∙◌, ap, sym, subst, Some, None, length, get_or, arith}
use Rattle.std.specs.Prelude.{filter_map}
use Rattle.std.proofs.lemmas.List.{append-nil}
use Rattle.foot_close.specs.declared.search.Reached.{Reached}
use Rattle.foot_close.specs.Tables.{path_of, reached_from}
use Rattle.foot_close.proofs.ReachedLaws.{filter_more}
use Rattle.foot_close.proofs.TableLaws.{near_secs, path_there, path_not, whole_row, row_paths}
use Rattle.foot_close.proofs.table.Table.closed_row.Goals as goal
use Rattle.foot_close.proofs.table.Table.closed_row.Goals.{then-index+in_ok-push, else-index}

pub overflow_cast-path : goal.overflow_cast-path
overflow_cast-path c =
    (let day = near_secs c.args.self.now c.args.from c.loop-reached.reached-index c.reached-item.result c.row-reached-items.result.now c.row-reached-items.ensures c.loop-reached-test.true c.reached-item.is c.requires.near in omega (arith, day))

pub loop-reached-preserved : goal.loop-reached-preserved
loop-reached-preserved c =
    let r = c.reached-item.result in
    let i = c.loop-reached.reached-index in
    let row = reached_from c.args.self.now c.args.from in
    let below = subst (λ rs. i < length rs) c.row-reached-items.ensures c.loop-reached-test.true in
    let at = c.reached-item.is ∙ ap (λ rs. get_or rs i r) c.row-reached-items.ensures in
    elim c.if-index.branch [
      | then-index+in_ok-push w ↦
          let apart : c.args.from ≢ Reached.stop r = (λ e. absurd (omega (arith, e, w.if-index.true))) in
          filter_more (path_of c.args.from) row i r r c.loop-reached.row.items c.if-index.row.items (Some (record { to = Reached.stop r; secs = Reached.secs r })) below at c.loop-reached.invariant (path_there c.args.from r apart) (ap (λ v. v.items) w.row-is ∙ w.in_ok-push.ensures.items)
      | else-index w ↦
          let same : c.args.from ≡ Reached.stop r = omega (arith, w.if-index.false) in
          filter_more (path_of c.args.from) row i r r c.loop-reached.row.items c.if-index.row.items None below at c.loop-reached.invariant (path_not c.args.from r same) (ap (λ v. v.items) w.row-is ∙ sym (append-nil c.loop-reached.row.items))
    ]

pub returns : goal.returns
returns c =
    c.loop-reached.invariant
    ∙ (ap (filter_map (path_of c.args.from)) (whole_row c.args.self.now c.args.from c.loop-reached.reached-index c.row-reached-items.result.now c.row-reached-items.ensures c.loop-reached-test.false) ∙ row_paths c.args.self.now c.args.from)
