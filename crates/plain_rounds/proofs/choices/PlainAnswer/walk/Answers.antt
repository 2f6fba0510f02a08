use Rattle.std.proofs.Common.{◌≡◌, List, [], ◌∷◌, ◌++◌, sym, ap, subst, ◌∙◌, rules, None, Some, ℤ, to_z, of_z, w32}
use Rattle.std.specs.Prelude.{FitsSigned}
use Rattle.std.proofs.lemmas.Int.{to_z-of_z}
use Rattle.tb_base.specs.BestValues.{QueryData, ChoiceData}
use Rattle.plain_rounds.specs.declared.labels.StopLabel.{StopLabel}
use Rattle.plain_rounds.specs.PlainAnswer.{IsPlainAnswer}
use Rattle.plain_rounds.specs.Hits.{IsHitOfOrigin, IsDueOfOrigin}
use Rattle.plain_rounds.proofs.PlainAnswerLemmas.{walk-none, walk-one}
use Rattle.plain_rounds.proofs.choices.PlainAnswer.walk.Goals as goal

pub returns-in_default : goal.returns-in_default
returns-in_default c =
    let T = c.args.table.now in
    let Q = c.args.query.now in
    let fits : FitsSigned w32 c.query.inside.leave = search rules in
    let start : StopLabel = record { time = to_z w32 (of_z w32 c.query.inside.leave); ride = None } in
    let is_start : to_z w32 (of_z w32 c.query.inside.leave) ≡ Q.leave = to_z-of_z w32 c.query.inside.leave fits ∙ ap (λ (q : QueryData). q.leave) c.query.view_is in
    let from_is : c.as_slice.result.now ≡ Q.from = c.as_slice.ensures.value ∙ ap (λ (q : QueryData). q.from) c.query.view_is in
    let to_is : c.as_slice-2.result.now ≡ Q.to = c.as_slice-2.ensures.value ∙ ap (λ (q : QueryData). q.to) c.query.view_is in
    subst (λ cs. IsPlainAnswer T Q 0 cs None) (sym c.new-choices.ensures.items)
    (walk-none T Q start is_start (λ time due. c.in_default.ensures time (subst (λ ns. IsDueOfOrigin T ns c.as_slice-2.result.now start time) (sym from_is) (subst (λ ns. IsDueOfOrigin T Q.from ns start time) (sym to_is) due))))

pub returns : goal.returns
returns c =
    let T = c.args.table.now in
    let Q = c.args.query.now in
    let h = c.in-Some.hit in
    let fits : FitsSigned w32 c.query.inside.leave = search rules in
    let start : StopLabel = record { time = to_z w32 (of_z w32 c.query.inside.leave); ride = None } in
    let is_start : to_z w32 (of_z w32 c.query.inside.leave) ≡ Q.leave = to_z-of_z w32 c.query.inside.leave fits ∙ ap (λ (q : QueryData). q.leave) c.query.view_is in
    let from_is : c.as_slice.result.now ≡ Q.from = c.as_slice.ensures.value ∙ ap (λ (q : QueryData). q.from) c.query.view_is in
    let to_is : c.as_slice-2.result.now ≡ Q.to = c.as_slice-2.ensures.value ∙ ap (λ (q : QueryData). q.to) c.query.view_is in
    let arrive_fits : FitsSigned w32 h.arrive = search rules in
    let arrive : to_z w32 (of_z w32 h.arrive) ≡ h.arrive = to_z-of_z w32 h.arrive arrive_fits in
    let one : IsPlainAnswer T Q 0 (record { value = record { arrive = h.arrive; rides = 0 }; legs = c.in_ok-legs.legs.items } ∷ []) (Some h.arrive) =
    walk-one T Q start is_start h
    (subst (λ ns. IsHitOfOrigin T ns Q.to start h) from_is (subst (λ ns. IsHitOfOrigin T c.as_slice.result.now ns start h) to_is c.in-Some.ensures.0))
    (λ time due. c.in-Some.ensures.1 time (subst (λ ns. IsDueOfOrigin T ns c.as_slice-2.result.now start time) (sym from_is) (subst (λ ns. IsDueOfOrigin T Q.from ns start time) (sym to_is) due)))
    c.in_ok-legs.legs.items c.in_ok-legs.ensures in
    let added : ◌≡◌ {A = List ChoiceData} c.push.new.self.items (record { value = record { arrive = to_z w32 (of_z w32 h.arrive); rides = 0 }; legs = c.in_ok-legs.legs.items } ∷ []) =
    c.in_ok-push.ensures.items ∙ ap (λ (cs : List ChoiceData). cs ++ record { value = record { arrive = to_z w32 (of_z w32 h.arrive); rides = 0 }; legs = c.in_ok-legs.legs.items } ∷ []) c.new-choices.ensures.items in
    subst (λ (cs : List ChoiceData). IsPlainAnswer T Q 0 cs (Some (to_z w32 (of_z w32 h.arrive)))) (sym added)
    (subst (λ (z : ℤ). IsPlainAnswer T Q 0 (record { value = record { arrive = z; rides = 0 }; legs = c.in_ok-legs.legs.items } ∷ []) (Some z)) (sym arrive) one)
