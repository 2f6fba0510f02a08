use Rattle.std.proofs.Common.{map, get_or, None}
use Rattle.reach_all.specs.TravelTimes.{AreFigures}
use Rattle.reach_all.proofs.Ranking.{all_more}
use Rattle.reach_all.proofs.figures.all_figures.Goals as goal

pub loop-stop-preserved : goal.loop-stop-preserved
loop-stop-preserved c =
    let pushed = c.in_ok-push.ensures {u = tt} in
    let more = all_more (λ p f. AreFigures (map (λ list. get_or list.items p None) c.args.lists.now) f) c.loop-stop.figures.items c.push.new.self.items c.loop-stop.stop c.in_ok-stop_figures.field-0 c.loop-stop.invariant.each_stop c.loop-stop.invariant.figures
    c.in_ok-stop_figures.ensures pushed.items in
    record { each_stop = more.0; figures = more.1 }
