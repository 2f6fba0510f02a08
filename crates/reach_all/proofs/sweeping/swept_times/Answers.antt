use Rattle.std.proofs.Common.{List, ℤ, length, map, get_or, sym, subst}
use Rattle.tb_base.specs.TimetableData.{TimetableData}
use Rattle.reach_all.specs.Ranks.{AreTimesAt}
use Rattle.reach_all.proofs.BestTimes.{turned}
use Rattle.reach_all.proofs.sweeping.swept_times.Goals as goal

pub returns-clause-times : goal.returns-clause-times
returns-clause-times g c = λ k t o inside.
    let T : TimetableData = (g.S.Scan.net c.args.scan.now).table in
    let ds : List ℤ = c.args.departures.now in
    let made = c.in_ok-lists.ensures in
    subst (λ xs. AreTimesAt T c.args.from.now c.args.rides (get_or ds k t) (get_or (map (λ list. list.items) xs) k o)) (sym c.reverse.ensures.items)
    (turned (λ list. list.items) (λ j xs. (u : ℤ) → AreTimesAt T c.args.from.now c.args.rides (get_or ds j u) xs) c.in_ok-lists.lists.items (length ds) made.each_departure (λ j p below u. made.times j u p below) k o inside t)
