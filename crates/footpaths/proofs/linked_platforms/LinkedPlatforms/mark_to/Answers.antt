use Rattle.std.proofs.Common.{◌≡◌, ap, length, ◌<◌, arith, Some}
use Rattle.std.specs.Prelude.{◌==◌}
use Rattle.std.proofs.lemmas.List.{length-set}
use Rattle.std.proofs.lemmas.Result.{on_ok_weaker}
use Rattle.footpaths.specs.Stops.{station_of}
use Rattle.footpaths.specs.Footpaths.{have_one_station, said}
use Rattle.footpaths.specs.BestRules.{better, slot}
use Rattle.footpaths.proofs.RowLaws.{mark_at, last_rule}
use Rattle.footpaths.proofs.linked_platforms.LinkedPlatforms.mark_to.Goals as goal

pub returns-clause-secs : goal.returns-clause-secs
returns-clause-secs c =
    let stops = c.args.self.now.stops in
    let links = c.args.self.now.links in
    let q = c.args.stop in
    let first = c.mark_rows.new.marks in
    let then = c.mark.new.self in
    let many : length first ≡ length c.args.marks.now = c.in_ok-mark_rows.ensures.length in
    let marked = rw c.stop.view_is at c.in_ok-mark.ensures in
    let there : q < length first = omega (arith, c.requires.stop, c.requires.many, many) in
    on_ok_weaker c.mark_station.result (λ f p below.
    let inside : p < length then = omega (arith, below, many, ap length marked, length-set first q (Some (better (slot first q) 3 (Some c.args.options.now.change)))) in
    last_rule (said stops links p q 0) (said stops links p q 1) (said stops links p q 2) (p == q) (have_one_station (station_of stops q) (station_of stops p)) c.args.options.now.change c.args.options.now.station
    (slot first p) (slot then p) (slot c.mark_station.new.marks p) (c.in_ok-mark_rows.ensures.ruled p below) (mark_at first then q p 3 (Some c.args.options.now.change) there marked) (f p inside)) c.mark_station.ensures.marked
