use Rattle.std.proofs.Common.{◌≡◌, ◌∙◌, ap, sym, length, ◌<◌, [], get_or, arith, Some, None}
use Rattle.std.proofs.lemmas.List.{length-map}
use Rattle.std.proofs.lemmas.Result.{on_ok_weaker}
use Rattle.tb_base.specs.KeyPlaces.{places_of}
use Rattle.footpaths.specs.declared.found.Link.{Link}
use Rattle.footpaths.specs.Stops.{station_of}
use Rattle.footpaths.specs.BestRules.{slot}
use Rattle.footpaths.specs.LinkedPlatforms.{LinkedPlatformsData, platform_key, station_key, platform_keys, station_keys}
use Rattle.footpaths.proofs.LinkedPlatformsLaws.{places_within}
use Rattle.footpaths.proofs.RowLaws.{one_rule, both_rule, platform_places, station_places}
use Rattle.footpaths.proofs.linked_platforms.LinkedPlatforms.mark_rows.Goals as goal

pub of-requires : goal.of-requires
of-requires c =
    let stops = c.self.inside.stops.now in
    let same : stops ≡ c.args.self.now.stops = ap (λ (n : LinkedPlatformsData). n.stops) c.self.view_is in
    let h = platform_places stops (platform_keys (length stops) c.self.inside.links.items) c.self.inside.to_platform c.args.stop c.self.invariant.platform (rw same c.requires.stop) in
    omega (arith, h.0, c.index.ensures)

pub mark_links-requires-clause-places : goal.mark_links-requires-clause-places
mark_links-requires-clause-places c =
    let stops = c.self.inside.stops.now in
    let links = c.self.inside.links.items in
    let same : stops ≡ c.args.self.now.stops = ap (λ (n : LinkedPlatformsData). n.stops) c.self.view_is in
    let keys = platform_keys (length stops) links in
    let h = platform_places stops keys c.self.inside.to_platform c.args.stop c.self.invariant.platform (rw same c.requires.stop) in
    let at : c.of.result.now ≡ places_of keys c.args.stop = c.of.ensures ∙ ap (λ i. get_or c.self.inside.to_platform i []) c.index.ensures ∙ h.1 in
    rw at (places_within keys c.args.stop (length c.args.self.now.links) (length-map links (λ l. platform_key (length stops) (Link.to l)) ∙ ap (λ (n : LinkedPlatformsData). length n.links) c.self.view_is))

pub of-requires-in-Some : goal.of-requires-in-Some
of-requires-in-Some c =
    let stops = c.self.inside.stops.now in
    let h = station_places stops (station_keys (length stops) c.self.inside.links.items) c.self.inside.to_station c.args.stop c.in-Some.station c.self.invariant.station (sym c.in-Some.ensures) in
    h.0

pub mark_links-requires-in-Some-clause-places : goal.mark_links-requires-in-Some-clause-places
mark_links-requires-in-Some-clause-places c =
    let stops = c.self.inside.stops.now in
    let links = c.self.inside.links.items in
    let keys = station_keys (length stops) links in
    let h = station_places stops keys c.self.inside.to_station c.args.stop c.in-Some.station c.self.invariant.station (sym c.in-Some.ensures) in
    rw (c.of-in-Some.ensures, h.1) (places_within keys c.in-Some.station (length c.args.self.now.links) (length-map links (λ l. station_key (length stops) (Link.to l)) ∙ ap (λ (n : LinkedPlatformsData). length n.links) c.self.view_is))

pub returns-in-Some-clause-ruled : goal.returns-in-Some-clause-ruled
returns-in-Some-clause-ruled c =
    let stops = c.self.inside.stops.now in
    let links = c.self.inside.links.items in
    let k = c.in-Some.station in
    let same : stops ≡ c.args.self.now.stops = ap (λ (n : LinkedPlatformsData). n.stops) c.self.view_is in
    let h = platform_places stops (platform_keys (length stops) links) c.self.inside.to_platform c.args.stop c.self.invariant.platform (rw same c.requires.stop) in
    let g = station_places stops (station_keys (length stops) links) c.self.inside.to_station c.args.stop k c.self.invariant.station (sym c.in-Some.ensures) in
    let at : c.of.result.now ≡ places_of (platform_keys (length c.args.self.now.stops) c.args.self.now.links) c.args.stop = c.of.ensures ∙ ap (λ i. get_or c.self.inside.to_platform i []) c.index.ensures ∙ h.1 ∙ ap (λ (n : LinkedPlatformsData). places_of (platform_keys (length n.stops) n.links) c.args.stop) c.self.view_is in
    let to : c.of-in-Some.result.now ≡ places_of (station_keys (length c.args.self.now.stops) c.args.self.now.links) k = c.of-in-Some.ensures ∙ g.1 ∙ ap (λ (n : LinkedPlatformsData). places_of (station_keys (length n.stops) n.links) k) c.self.view_is in
    let station : station_of c.args.self.now.stops c.args.stop ≡ Some k = ap (λ s. station_of s c.args.stop) (sym same) ∙ sym c.in-Some.ensures in
    on_ok_weaker c.mark_links-in-Some.result (λ f p below.
    let inside : p < length c.mark_links.new.marks = omega (arith, below, c.in_ok-mark_links.ensures.length) in
    both_rule c.args.self.now.stops c.args.self.now.links p c.args.stop k (slot c.args.marks.now p) (slot c.mark_links.new.marks p) (slot c.mark_links-in-Some.new.marks p) c.of.result.now c.of-in-Some.result.now c.requires.stop station at to (c.requires.clear p) (c.in_ok-mark_links.ensures.marked p below) (f p inside)) c.mark_links-in-Some.ensures.marked

pub returns-in-None-clause-ruled : goal.returns-in-None-clause-ruled
returns-in-None-clause-ruled c =
    let stops = c.self.inside.stops.now in
    let links = c.self.inside.links.items in
    let same : stops ≡ c.args.self.now.stops = ap (λ (n : LinkedPlatformsData). n.stops) c.self.view_is in
    let h = platform_places stops (platform_keys (length stops) links) c.self.inside.to_platform c.args.stop c.self.invariant.platform (rw same c.requires.stop) in
    let at : c.of.result.now ≡ places_of (platform_keys (length c.args.self.now.stops) c.args.self.now.links) c.args.stop = c.of.ensures ∙ ap (λ i. get_or c.self.inside.to_platform i []) c.index.ensures ∙ h.1 ∙ ap (λ (n : LinkedPlatformsData). places_of (platform_keys (length n.stops) n.links) c.args.stop) c.self.view_is in
    let station : station_of c.args.self.now.stops c.args.stop ≡ None = ap (λ s. station_of s c.args.stop) (sym same) ∙ sym c.in-None.ensures in
    λ p below. one_rule c.args.self.now.stops c.args.self.now.links p c.args.stop (slot c.args.marks.now p) (slot c.mark_links.new.marks p) c.of.result.now c.requires.stop station at (c.requires.clear p) (c.in_ok-mark_links.ensures.marked p below)
