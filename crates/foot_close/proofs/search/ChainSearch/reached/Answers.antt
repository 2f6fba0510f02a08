use Rattle.std.proofs.Common.{◌∙◌, sym, ap, Some, None, arith}
use Rattle.std.proofs.lemmas.List.{append-nil}
use Rattle.foot_close.specs.Searching.{mark, reached_at}
use Rattle.foot_close.proofs.ReachedLaws.{filter_more, reached_whole}
use Rattle.foot_close.proofs.search.ChainSearch.reached.Goals as goal
use Rattle.foot_close.proofs.search.ChainSearch.reached.Goals.{in-Some+in_ok-push, in_default}

pub loop-place-preserved : goal.loop-place-preserved
loop-place-preserved c =
    let s = c.args.self.now in
    let stop = c.lowered_at-stop.result in
    elim c.match-mark.branch [
      | in-Some+in_ok-push w ↦
          filter_more (λ q. reached_at q (mark s.marks q)) s.lowered c.loop-place.place stop 0 c.loop-place.reached.items c.match-mark.reached.items (Some (record { stop = stop; secs = w.in-Some.secs })) (omega arith) c.lowered_at-stop.ensures.place c.loop-place.invariant
          (ap (reached_at stop) (sym c.mark.ensures ∙ w.in-Some.is)) (ap (λ v. v.items) w.reached-is ∙ w.in_ok-push.ensures.items)
      | in_default w ↦
          filter_more (λ q. reached_at q (mark s.marks q)) s.lowered c.loop-place.place stop 0 c.loop-place.reached.items c.match-mark.reached.items None (omega arith) c.lowered_at-stop.ensures.place c.loop-place.invariant
          (ap (reached_at stop) (sym c.mark.ensures ∙ w.in_default.is)) (ap (λ v. v.items) w.reached-is ∙ sym (append-nil c.loop-place.reached.items))
    ]

pub returns : goal.returns
returns c = reached_whole c.args.self.now.marks c.args.self.now.lowered c.loop-place.place c.loop-place.reached.items c.requires.covered c.requires.ascending (omega arith) c.loop-place.invariant
