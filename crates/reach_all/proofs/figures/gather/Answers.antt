use Rattle.std.proofs.Common.{◌∙◌, ◌++◌, [], ◌∷◌, ap, rules, w32}
use Rattle.std.proofs.lemmas.Int.{to_z-of_z}
use Rattle.reach_all.proofs.Ranking.{gather_none, gather_some}
use Rattle.reach_all.proofs.figures.gather.Goals.{in-Some+in_ok-push, in_default}
use Rattle.reach_all.proofs.figures.gather.Goals as goal

pub loop-list-preserved : goal.loop-list-preserved
loop-list-preserved c = elim c.match-index.branch [
  | in-Some+in_ok-push w ↦
      ap (λ v. v.items) w.times-is
      ∙ gather_some (λ list. list.items) c.args.lists.now c.args.stop c.loop-list.list-index c.list-item.result c.index.result.now c.loop-list.times.items c.loop-list-test.true c.list-item.is c.requires c.index.ensures c.loop-list.invariant
      w.in-Some.time w.push.new.self.items w.in-Some.is (let pushed = w.in_ok-push.ensures {u = tt} in pushed.items ∙ ap (λ z. c.loop-list.times.items ++ z ∷ []) (to_z-of_z w32 w.in-Some.time (search rules)))
  | in_default w ↦
      ap (λ v. v.items) w.times-is
      ∙ gather_none (λ list. list.items) c.args.lists.now c.args.stop c.loop-list.list-index c.list-item.result c.index.result.now c.loop-list.times.items c.loop-list-test.true c.list-item.is c.requires c.index.ensures c.loop-list.invariant
      w.in_default.is
]
