use Rattle.std.proofs.Common.{◌≡◌, ℕ, ◌<◌, ◌≤◌, ◌++◌, ◌∷◌, [], List, length, map, take, get_or, sym, ap, subst, ◌∙◌}
use Rattle.std.specs.Prelude.{All}
use Rattle.std.proofs.lemmas.List.{map_push, take_all, take_more}
use Rattle.std.proofs.lemmas.List.Elements.{All-push}
use Rattle.tb_base.specs.declared.query.Leg.{Leg}
use Rattle.tb_base.specs.declared.query.Value.{Value}
use Rattle.tb_base.specs.TimetableData.{TimetableData}
use Rattle.tb_base.specs.BestValues.{ChoiceData, QueryData}
use Rattle.segment_queue.specs.declared.desk.Hit.{Hit}
use Rattle.segment_queue.specs.declared.desk.Segment.{Segment}
use Rattle.segment_queue.specs.Traced.{LegsFollow}
use Rattle.plain_rounds.specs.Shown.{SpellShortest}
use Rattle.journey_unfold.specs.Unfolded.{SpellHit}
use Rattle.journey_unfold.proofs.answers.choices.Goals as goal

-- a hit's journey has the shortest walks
hit-shortest : (T : TimetableData) (Q : QueryData) (segments : List Segment) (h : Hit) (legs : List Leg) → SpellHit T Q segments h legs → SpellShortest T Q legs h.value
hit-shortest T Q segments h legs s = record { by = s.by; has = s.has; spelt = s.spelt; shortest = s.shortest }

pub loop-hit-preserved : goal.loop-hit-preserved
loop-hit-preserved c =
    let T = c.args.table.now in
    let Q = c.args.query.now in
    let hits : List Hit = c.args.desk.now.hits in
    let i : ℕ = c.loop-hit.hit-index in
    let h : Hit = c.hit-item.result in
    let inside : i < length hits = subst (λ (xs : List Hit). i < length xs) c.hits-hit-items.ensures c.loop-hit-test.true in
    let here : h ≡ get_or hits i h = subst (λ (xs : List Hit). h ≡ get_or xs i h) c.hits-hit-items.ensures c.hit-item.is in
    let cs : List ChoiceData = c.loop-hit.choices.items in
    let new : ChoiceData = record { value = h.value; legs = c.in_ok-legs.legs.items } in
    let inv = c.loop-hit.invariant in
    let all : ◌≡◌ {A = List ChoiceData} c.push.new.self.items (cs ++ new ∷ []) = c.in_ok-push.ensures.items in
    let value : Hit → Value = λ x. x.value in
    record {
      values = ap (map ChoiceData.value) all
          ∙ map_push ChoiceData.value cs new
          ∙ ap (λ (vs : List Value). vs ++ h.value ∷ []) inv.values
          ∙ ap (λ (x : Hit). map value (take i hits) ++ x.value ∷ []) here
          ∙ sym (ap (map value) (take_more hits i h inside) ∙ map_push value (take i hits) (get_or hits i h));
      walks = subst (λ xs. All (λ c. SpellShortest T Q (ChoiceData.legs c) (ChoiceData.value c)) xs) (sym all)
          (All-push (λ c. SpellShortest T Q (ChoiceData.legs c) (ChoiceData.value c)) cs new inv.walks (hit-shortest T Q c.args.desk.now.segments h c.in_ok-legs.legs.items c.in_ok-legs.ensures.journey));
      hops = λ hops uses.
          subst (λ xs. All (λ c. LegsFollow hops (ChoiceData.legs c)) xs) (sym all)
          (All-push (λ c. LegsFollow hops (ChoiceData.legs c)) cs new (inv.hops hops uses) (c.in_ok-legs.ensures.hops hops uses));
    }

pub returns-clause-values : goal.returns-clause-values
returns-clause-values c =
    let hits : List Hit = c.args.desk.now.hits in
    let past : length hits ≤ c.loop-hit.hit-index = subst (λ (xs : List Hit). length xs ≤ c.loop-hit.hit-index) c.hits-hit-items.ensures c.loop-hit-test.false in
    c.loop-hit.invariant.values ∙ ap (map (λ (h : Hit). h.value)) (take_all c.loop-hit.hit-index hits past)
