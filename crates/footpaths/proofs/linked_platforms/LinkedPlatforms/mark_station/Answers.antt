use Rattle.std.proofs.Common.{◌≡◌, ◌∙◌, ap, sym, refl, length, ◌<◌, ℕ, List, arith, Some, true, false, ◌&&◌}
use Rattle.std.specs.Prelude.{◌==◌, is_some}
use Rattle.std.specs.List.{list_any}
use Rattle.std.proofs.lemmas.Result.{on_ok_weaker}
use Rattle.footpaths.specs.Stops.{platforms, station_of}
use Rattle.footpaths.specs.Footpaths.{is_number, have_one_station}
use Rattle.footpaths.specs.BestRules.{slot, marked}
use Rattle.footpaths.specs.LinkedPlatforms.{LinkedPlatformsData, parent_keys}
use Rattle.footpaths.proofs.LinkedPlatformsLaws.{places_within, places_distinct, member_kept, parent_keys_many, station_below}
use Rattle.footpaths.proofs.RowLaws.{station_places}
use Rattle.footpaths.proofs.linked_platforms.LinkedPlatforms.mark_station.Goals as goal

pub of-requires : goal.of-requires
of-requires c =
    let stops = c.self.inside.stops.now in
    let h = station_places stops (parent_keys stops) c.self.inside.members c.args.stop c.in-Some-station_of.station c.self.invariant.member (sym c.in-Some-station_of.ensures) in
    h.0

pub mark_all-requires-clause-within : goal.mark_all-requires-clause-within
mark_all-requires-clause-within c =
    let stops = c.self.inside.stops.now in
    let k = c.in-Some-station_of.station in
    let same : stops ≡ c.args.self.now.stops = ap (λ (n : LinkedPlatformsData). n.stops) c.self.view_is in
    let h = station_places stops (parent_keys stops) c.self.inside.members c.args.stop k c.self.invariant.member (sym c.in-Some-station_of.ensures) in
    let many : length (parent_keys stops) ≡ length c.args.marks.now = parent_keys_many stops ∙ ap (λ s. length (platforms s)) same ∙ sym c.requires.many in
    rw (c.of.ensures, h.1) (places_within (parent_keys stops) k (length c.args.marks.now) many)

pub mark_all-requires-clause-distinct : goal.mark_all-requires-clause-distinct
mark_all-requires-clause-distinct c =
    let stops = c.self.inside.stops.now in
    let k = c.in-Some-station_of.station in
    let h = station_places stops (parent_keys stops) c.self.inside.members c.args.stop k c.self.invariant.member (sym c.in-Some-station_of.ensures) in
    rw (c.of.ensures, h.1) (places_distinct (parent_keys stops) k)

and_true : (b : Rattle.std.specs.Prelude.Bool) → (b && true) ≡ b
and_true true = refl
and_true false = refl

pub returns-in-Some-station_of-clause-marked : goal.returns-in-Some-station_of-clause-marked
returns-in-Some-station_of-clause-marked c =
    let stops = c.self.inside.stops.now in
    let k = c.in-Some-station_of.station in
    let now = c.args.self.now.stops in
    let same : stops ≡ now = ap (λ (n : LinkedPlatformsData). n.stops) c.self.view_is in
    let h = station_places stops (parent_keys stops) c.self.inside.members c.args.stop k c.self.invariant.member (sym c.in-Some-station_of.ensures) in
    let there : k < length stops = rw (sym c.in-Some-station_of.ensures) at (station_below stops c.args.stop) in
    let station : station_of now c.args.stop ≡ Some k = ap (λ s. station_of s c.args.stop) (sym same) ∙ sym c.in-Some-station_of.ensures in
    let test : (p : ℕ) → p < length c.args.marks.now → list_any (λ m. m == p) c.of.result.now ≡ (have_one_station (station_of now c.args.stop) (station_of now p) && is_some c.args.secs) =
    (λ p below.
    let inside : p < length (platforms stops) = omega (arith, below, c.requires.many, ap (λ s. length (platforms s)) same) in
    ap (λ (ps : List ℕ). list_any (λ m. m == p) ps) (c.of.ensures ∙ h.1) ∙ member_kept stops k p there inside ∙ ap (λ s. is_number k (station_of s p)) same
    ∙ sym (ap (λ o. have_one_station o (station_of now p) && is_some c.args.secs) station ∙ ap (λ x. is_number k (station_of now p) && is_some x) c.in-Some.is ∙ and_true _))
    in
    on_ok_weaker c.mark_all.result (λ f p below. f p ∙ ap (λ b. marked b (slot c.args.marks.now p) 4 (Some c.in-Some.given)) (test p below) ∙ ap (λ x. marked (have_one_station (station_of now c.args.stop) (station_of now p) && is_some c.args.secs) (slot c.args.marks.now p) 4 x) (sym c.in-Some.is)) c.mark_all.ensures.marked
