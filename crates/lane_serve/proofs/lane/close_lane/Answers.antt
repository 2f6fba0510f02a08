use Rattle.std.proofs.Common.{◌≡◌, ◌+◌, ap, ◌∙◌, true, false, rules}
use Rattle.history.specs.Lists.{Shown}
use Rattle.history.proofs.Lists.{extends_trans}
use Rattle.edition_store.specs.Editions.{EditionData}
use Rattle.lane_serve.specs.Lanes.{is_due}
use Rattle.lane_serve.proofs.Runs.{closing_then, closing_else, due_as, read_again, read_as}
use Rattle.lane_serve.proofs.lane.close_lane.Goals as goal
use Rattle.lane_serve.proofs.lane.close_lane.Goals.{then-is_due+in_ok-reply+in-Ok, else-is_due}

pub loop-i-preserved : goal.loop-i-preserved
loop-i-preserved g c =
    let inv = c.loop-i.invariant in
    let i = c.loop-i.i in
    let q = c.index-requests-i.result in
    let p = c.index-replies-i.result in
    elim c.if-is_due.branch [
      | then-is_due+in_ok-reply+in-Ok w ↦
          let same = w.answer.ensures.last (ap (λ (s : Shown EditionData). s.closed) inv.1) ∙ inv.1 in
          let r = w.in_ok-reply.ensures in
          let due : is_due (i + 1) q p ≡ true = search rules in
          let right = read_as _ _ _ _ (read_again c.args.requests.now i q _ c.loop-i-test.true w.index-requests-i-then-is_due.is) r.right in
          let more = closing_then c.args.last.now w.answer.new.caller.kept same c.args.requests.now c.args.replies.now i q p c.loop-i.closing.items w.in_ok-reply.reply c.requires.replies c.loop-i-test.true (due_as (i + 1) q _ p _ true c.index-requests-i.is c.index-replies-i.is due) inv.0 r.line r.edition right in
          let later = extends_trans c.args.caller.now.kept c.loop-i.caller.kept w.answer.new.caller.kept w.answer.ensures.later inv.2 in
          (rw (w.closing-is, w.in-Ok.ensures.items) more, rw w.caller-is same, rw w.caller-is later)
      | else-is_due w ↦
          let due : is_due (i + 1) q p ≡ false = search rules in
          let more = closing_else c.args.last.now c.args.requests.now c.args.replies.now i q p c.loop-i.closing.items c.requires.replies c.loop-i-test.true (due_as (i + 1) q _ p _ false c.index-requests-i.is c.index-replies-i.is due) inv.0 in
          (rw w.closing-is more, rw w.caller-is inv.1, rw w.caller-is inv.2)
    ]
