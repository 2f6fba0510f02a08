use Rattle.std.proofs.Common.{◌≡◌, ℕ, List, [], ◌∷◌, ◌++◌, reverse, Option, None, ap, sym, subst, ◌∙◌}
use Rattle.std.specs.Prelude.{Contains}
use Rattle.tb_base.specs.declared.query.Leg.{Leg}
use Rattle.tb_base.specs.declared.query.Leg.TheVariants.{Ride as RideLeg}
use Rattle.tb_base.specs.BestValues.{QueryData}
use Rattle.tb_base.specs.Walking.{walk}
use Rattle.plain_rounds.specs.Shown.{IsNearest}
use Rattle.journey_unfold.proofs.Chains.{under-all, under-first, under-follows, under-more, under-walk}
use Rattle.journey_unfold.proofs.journey.ride_legs.Goals as goal

pub loop-segment-init : goal.loop-segment-init
loop-segment-init c =
    let T = c.args.table.now in
    let Q = c.args.query.now in
    let end = c.stop_at-end.result in
    let s = c.segment_of-segment.result in
    let to_is : c.as_slice.result.now ≡ Q.to = c.as_slice.ensures.value ∙ ap (λ (q : QueryData). q.to) c.query.view_is in
    under-first T Q c.args.desk.now c.requires.traced c.args.entry c.args.at c.nearest_of-target.result c.requires.hit.0 c.requires.hit.1 c.requires.hit.2 s c.segment_of-segment.ensures end c.stop_at-end.ensures.stop
    (subst (λ ns. IsNearest (λ q. walk T end q) ns c.nearest_of-target.result) to_is c.nearest_of-target.ensures.nearest)
    c.new-legs.result.items c.push_ride.new.legs.items c.new-legs.ensures.items
    (c.in_ok-push_ride.ensures ∙ ap (λ (xs : List Leg). xs ++ RideLeg s.trip s.board c.args.at ∷ []) c.in_ok-push_walk.ensures)

pub loop-segment-preserved : goal.loop-segment-preserved
loop-segment-preserved c =
    let b = c.segment_of-before.result in
    under-more c.args.table.now c.args.query.now c.args.desk.now c.requires.traced c.args.entry c.args.at c.loop-segment.segment c.loop-segment.legs.items c.loop-segment.invariant (c.in-Some.parent, c.in-Some.left) c.in-Some.is
    b c.segment_of-before.ensures c.stop_at-change.result c.stop_at-boarded.result c.stop_at-change.ensures.stop c.stop_at-boarded.ensures.stop c.push_ride-in-Some.new.legs.items
    (c.in_ok-push_ride-2.ensures ∙ ap (λ (xs : List Leg). xs ++ RideLeg b.trip b.board c.in-Some.left ∷ []) c.in_ok-push_walk-2.ensures)

pub nearest_of-origin-requires-clause-some : goal.nearest_of-origin-requires-clause-some
nearest_of-origin-requires-clause-some c =
    let Q = c.args.query.now in
    let none : ◌≡◌ {A = Option (ℕ × ℕ)} c.loop-segment.segment.parent None = c.in_default.is in
    let from_is : c.as_slice-2.result.now ≡ Q.from = c.as_slice-2.ensures.value ∙ ap (λ (q : QueryData). q.from) c.query.view_is in
    let w = under-walk c.args.table.now Q c.args.desk.now c.requires.traced c.args.entry c.args.at c.loop-segment.segment c.loop-segment.legs.items c.loop-segment.invariant none c.stop_at-start.result c.stop_at-start.ensures.stop in
    (w.0, w.1, subst (λ ns. Contains ns w.0) (sym from_is) w.2, w.3)

pub returns-clause-journey : goal.returns-clause-journey
returns-clause-journey c =
    let T = c.args.table.now in
    let Q = c.args.query.now in
    let none : ◌≡◌ {A = Option (ℕ × ℕ)} c.loop-segment.segment.parent None = c.in_default.is in
    let from_is : c.as_slice-2.result.now ≡ Q.from = c.as_slice-2.ensures.value ∙ ap (λ (q : QueryData). q.from) c.query.view_is in
    let near : IsNearest (λ o. walk T o c.stop_at-start.result) Q.from c.nearest_of-origin.result = subst (λ ns. IsNearest (λ o. walk T o c.stop_at-start.result) ns c.nearest_of-origin.result) from_is c.nearest_of-origin.ensures.nearest in
    under-all T Q c.args.desk.now c.requires.traced c.args.entry c.args.at c.loop-segment.segment c.loop-segment.legs.items c.loop-segment.invariant none c.stop_at-start.result c.stop_at-start.ensures.stop c.nearest_of-origin.result near c.reverse.new.self.items
    (c.reverse.ensures.items ∙ ap reverse c.in_ok-push_walk-3.ensures)

pub returns-clause-hops : goal.returns-clause-hops
returns-clause-hops c =
    let T = c.args.table.now in
    let Q = c.args.query.now in
    let none : ◌≡◌ {A = Option (ℕ × ℕ)} c.loop-segment.segment.parent None = c.in_default.is in
    let from_is : c.as_slice-2.result.now ≡ Q.from = c.as_slice-2.ensures.value ∙ ap (λ (q : QueryData). q.from) c.query.view_is in
    let near : IsNearest (λ o. walk T o c.stop_at-start.result) Q.from c.nearest_of-origin.result = subst (λ ns. IsNearest (λ o. walk T o c.stop_at-start.result) ns c.nearest_of-origin.result) from_is c.nearest_of-origin.ensures.nearest in
    under-follows T Q c.args.desk.now c.requires.traced c.args.entry c.args.at c.loop-segment.segment c.loop-segment.legs.items c.loop-segment.invariant none c.stop_at-start.result c.stop_at-start.ensures.stop c.nearest_of-origin.result near c.reverse.new.self.items
    (c.reverse.ensures.items ∙ ap reverse c.in_ok-push_walk-3.ensures)
