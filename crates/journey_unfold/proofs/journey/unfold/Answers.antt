use Rattle.std.proofs.Common.{◌≡◌, sym, subst}
use Rattle.std.proofs.lemmas.List.Elements.{All-contains}
use Rattle.tb_base.specs.JourneyRules.{walk_legs}
use Rattle.segment_queue.specs.Traced.{IsTracedBy, IsTracedHit, IsWalkHit}
use Rattle.journey_unfold.specs.Unfolded.{SpellEnding, SpellHit}
use Rattle.journey_unfold.proofs.Results.{if_ok}
use Rattle.journey_unfold.proofs.Chains.{walk-ending}
use Rattle.journey_unfold.proofs.journey.unfold.Goals as goal

pub returns-in-OnFoot-clause-journey : goal.returns-in-OnFoot-clause-journey
returns-in-OnFoot-clause-journey c =
    let T = c.args.table.now in
    let Q = c.args.query.now in
    let D = c.args.desk.now in
    let h = c.args.hit.now in
    let traced : IsTracedHit T Q D.segments h = All-contains (IsTracedHit T Q D.segments) D.hits h c.requires.traced.hits c.requires.hit in
    let walked : IsWalkHit T Q c.in-OnFoot.from c.in-OnFoot.to h.value.arrive h.value.rides = subst (λ l. IsTracedBy T Q D.segments l h.value.arrive h.value.rides) c.in-OnFoot.is traced in
    if_ok (λ legs. legs.items ≡ walk_legs T c.in-OnFoot.from c.in-OnFoot.to) (λ legs. SpellHit T Q D.segments h legs.items) c.walk_legs.result
    (λ legs is. subst (λ l. SpellEnding T Q D.segments l h.value legs.items) (sym c.in-OnFoot.is) (walk-ending T Q D c.requires.traced c.in-OnFoot.from c.in-OnFoot.to h.value legs.items walked is))
    c.walk_legs.ensures
