use Rattle.std.proofs.Common.{◌≤◌, sym, length, None, arith}
use Rattle.std.proofs.lemmas.List.{get_or_past}
use Rattle.uturn_cut.proofs.events.change_time.Goals as goal

pub returns-else-index-stop_count-clause-time : goal.returns-else-index-stop_count-clause-time
returns-else-index-stop_count-clause-time c =
    let past : length c.args.table.now.footpaths.change ≤ c.args.stop = omega (arith, c.soundness.ensures.change_times, c.index.ensures, c.stop_count.ensures, c.if-index-stop_count.false) in
    sym (get_or_past c.args.table.now.footpaths.change c.args.stop None past)
