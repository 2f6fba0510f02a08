use Rattle.std.proofs.Common.{◌≡◌, ◌∙◌, ap, sym, length, ◌<◌, ◌+◌, ℕ, List, arith}
use Rattle.std.specs.Prelude.{◌==◌}
use Rattle.std.specs.List.{list_any}
use Rattle.std.proofs.lemmas.Result.{on_ok_weaker}
use Rattle.tb_base.specs.KeyPlaces.{places_of}
use Rattle.footpaths.specs.Stops.{platforms, station_of}
use Rattle.footpaths.specs.Footpaths.{is_number}
use Rattle.footpaths.specs.BestRules.{slot, marked}
use Rattle.footpaths.specs.LinkedPlatforms.{LinkedPlatformsData, parent_keys}
use Rattle.footpaths.proofs.LinkedPlatformsLaws.{places_within, places_distinct, member_kept, parent_keys_many}
use Rattle.footpaths.proofs.linked_platforms.LinkedPlatforms.mark_from.Goals as goal

pub mark_all-requires-clause-within : goal.mark_all-requires-clause-within
mark_all-requires-clause-within c =
    let stops = c.self.inside.stops.now in
    let k = c.in-Station.station in
    let same : stops ≡ c.args.self.now.stops = ap (λ (n : LinkedPlatformsData). n.stops) c.self.view_is in
    let end = rw c.in-Station.is at c.requires.end in
    let within : k < length stops + 1 = omega (arith, end, ap length same) in
    let many : length (parent_keys stops) ≡ length c.args.marks.now = parent_keys_many stops ∙ ap (λ s. length (platforms s)) same ∙ sym c.requires.many in
    rw (c.of.ensures, c.self.invariant.member.each k within) (places_within (parent_keys stops) k (length c.args.marks.now) many)

pub mark_all-requires-clause-distinct : goal.mark_all-requires-clause-distinct
mark_all-requires-clause-distinct c =
    let stops = c.self.inside.stops.now in
    let k = c.in-Station.station in
    let same : stops ≡ c.args.self.now.stops = ap (λ (n : LinkedPlatformsData). n.stops) c.self.view_is in
    let end = rw c.in-Station.is at c.requires.end in
    let within : k < length stops + 1 = omega (arith, end, ap length same) in
    rw (c.of.ensures, c.self.invariant.member.each k within) (places_distinct (parent_keys stops) k)

pub returns-in-Station-clause-marked : goal.returns-in-Station-clause-marked
returns-in-Station-clause-marked c =
    let stops = c.self.inside.stops.now in
    let k = c.in-Station.station in
    let same : stops ≡ c.args.self.now.stops = ap (λ (n : LinkedPlatformsData). n.stops) c.self.view_is in
    let end = rw c.in-Station.is at c.requires.end in
    let within : k < length stops + 1 = omega (arith, end, ap length same) in
    let there : k < length stops = omega (arith, end, ap length same) in
    let places : c.of.result.now ≡ places_of (parent_keys stops) k = c.of.ensures ∙ c.self.invariant.member.each k within in
    let test : (p : ℕ) → p < length c.args.marks.now → list_any (λ m. m == p) c.of.result.now ≡ is_number k (station_of c.args.self.now.stops p) =
    (λ p below.
    let inside : p < length (platforms stops) = omega (arith, below, c.requires.many, ap (λ s. length (platforms s)) same) in
    ap (λ (ps : List ℕ). list_any (λ m. m == p) ps) places ∙ member_kept stops k p there inside ∙ ap (λ s. is_number k (station_of s p)) same)
    in
    rw c.in-Station.is (on_ok_weaker c.mark_all.result (λ h p below. h p ∙ ap (λ b. marked b (slot c.args.marks.now p) c.args.rank c.args.secs) (test p below)) c.mark_all.ensures.marked)
