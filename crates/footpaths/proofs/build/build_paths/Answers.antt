use Rattle.std.proofs.Common.{◌≤◌, length, arith}
use Rattle.std.proofs.lemmas.Result.{MatchResult-weaker}
use Rattle.gtfs_rows.specs.StopsFile.{is_platform}
use Rattle.footpaths.specs.Stops.{platforms}
use Rattle.footpaths.specs.Links.{links_of}
use Rattle.footpaths.specs.Footpaths.{secs_between}
use Rattle.footpaths.proofs.LinkEnds.{links_have_ends}
use Rattle.footpaths.proofs.Sound.{secs_day, sound_paths}
use Rattle.tb_base.proofs.Lists.{length-filter_le}
use Rattle.footpaths.proofs.build.build_paths.Goals as goal

pub new-requires : goal.new-requires
new-requires c = rw c.in-Ok.ensures.links.1 (links_have_ends c.args.stops.now c.args.options.now.change c.args.rows.now)

pub returns-clause-told : goal.returns-clause-told
returns-clause-told c = rw c.in-Ok.ensures.links.0 (rw (c.in_ok-linked.ensures, c.in-Ok.ensures.links.1, c.platforms.ensures) at c.fill.ensures)

pub returns-clause-sound : goal.returns-clause-sound
returns-clause-sound c =
    let stops = c.args.stops.now in
    let options = c.args.options.now in
    let rows = c.args.rows.now in
    let few : length (platforms stops) ≤ 100000 = omega (arith, length-filter_le (λ s. is_platform s.kind) stops, c.soundness.ensures.few) in
    let filled = rw (c.in_ok-linked.ensures, c.in-Ok.ensures.links.1, c.platforms.ensures) at c.fill.ensures in
    MatchResult-weaker c.fill.result filled
    (λ paths e. sound_paths (secs_between stops options (links_of stops options.change rows)) (length (platforms stops)) paths few (λ p q. secs_day stops options rows p q c.requires.change c.requires.station c.in-Ok.ensures.days) e)
    (λ f k. tt)
