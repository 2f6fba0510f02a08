use Rattle.std.proofs.Common.{◌≡◌, ℕ, suc, List, [], ◌∷◌, ◌++◌, sym, ap, subst, ◌∙◌, rules, arith, Some, ℤ, ◌≤ℤ◌, ◌<ℤ◌, to_z, of_z, w32}
use Rattle.std.specs.Prelude.{FitsSigned, IfSome, IsSomeAnd}
use Rattle.std.proofs.lemmas.Int.{to_z-of_z}
use Rattle.tb_base.specs.BestValues.{QueryData, ChoiceData}
use Rattle.plain_rounds.specs.declared.arrivals.PlainRide.{PlainRide}
use Rattle.plain_rounds.specs.PlainAnswer.{IsPlainAnswer}
use Rattle.plain_rounds.specs.Hits.{IsArrivalHit, IsHitOf, IsDueOf}
use Rattle.plain_rounds.specs.Rides.{AreArrivals}
use Rattle.plain_rounds.proofs.PlainAnswerLemmas.{answer-unreached, answer-no_better, answer-better, arrival_hit}
use Rattle.plain_rounds.proofs.choices.PlainAnswer.add.Goals as goal

pub returns-in_default : goal.returns-in_default
returns-in_default c =
    let T = c.args.table.now in
    let Q = c.args.query.now in
    let a = c.args.arrivals.now in
    let most = c.requires.answer.0 in
    let e : c.args.rides ≡ suc most = omega (arith, c.requires.answer.1) in
    let to_is : c.as_slice.result.now ≡ Q.to = c.as_slice.ensures.value ∙ ap (λ (q : QueryData). q.to) c.query.view_is in
    let labels_are : c.as_slice-2.result.now ≡ a.labels.items = c.as_slice-2.ensures.value in
    subst (λ n. IsPlainAnswer T Q n c.args.self.now.choices.items c.args.self.now.best) (sym e)
    (answer-unreached T Q most c.args.self.now.choices.items c.args.self.now.best c.requires.answer.2 a (subst (λ n. AreArrivals T Q n a) e c.requires.arrivals)
    (λ time due. c.in_default.ensures time (subst (λ ns. IsDueOf T ns c.as_slice-2.result.now time) (sym to_is) (subst (λ ls. IsDueOf T Q.to ls time) (sym labels_are) due))))

pub returns-then-not-is_better : goal.returns-then-not-is_better
returns-then-not-is_better c =
    let T = c.args.table.now in
    let Q = c.args.query.now in
    let a = c.args.arrivals.now in
    let h = c.in-Some.hit in
    let most = c.requires.answer.0 in
    let e : c.args.rides ≡ suc most = omega (arith, c.requires.answer.1) in
    let to_is : c.as_slice.result.now ≡ Q.to = c.as_slice.ensures.value ∙ ap (λ (q : QueryData). q.to) c.query.view_is in
    let labels_are : c.as_slice-2.result.now ≡ a.labels.items = c.as_slice-2.ensures.value in
    let arrive_fits : FitsSigned w32 h.arrive = search rules in
    let arrive : to_z w32 (of_z w32 h.arrive) ≡ h.arrive = to_z-of_z w32 h.arrive arrive_fits in
    subst (λ n. IsPlainAnswer T Q n c.args.self.now.choices.items c.args.self.now.best) (sym e)
    (answer-no_better T Q most c.args.self.now.choices.items c.args.self.now.best c.requires.answer.2 a (subst (λ n. AreArrivals T Q n a) e c.requires.arrivals) h
    (λ time due. c.in-Some.ensures.1 time (subst (λ ns. IsDueOf T ns c.as_slice-2.result.now time) (sym to_is) (subst (λ ls. IsDueOf T Q.to ls time) (sym labels_are) due)))
    (subst (λ z. IsSomeAnd c.args.self.now.best (λ b. b ≤ℤ z)) arrive c.if-not-is_better.ensures))

pub legs_to-requires-clause-hit : goal.legs_to-requires-clause-hit
legs_to-requires-clause-hit c =
    let T = c.args.table.now in
    let Q = c.args.query.now in
    let a = c.args.arrivals.now in
    let h = c.in-Some.hit in
    let to_is : c.as_slice.result.now ≡ Q.to = c.as_slice.ensures.value ∙ ap (λ (q : QueryData). q.to) c.query.view_is in (
      c.args.rides,
      subst (λ (xs : List PlainRide). IsArrivalHit T Q xs c.args.rides h) (sym c.as_slice-3.ensures.value)
          (arrival_hit T Q c.args.rides a c.requires.arrivals h (subst (λ ns. IsHitOf T ns a.labels.items h) to_is (subst (λ ls. IsHitOf T c.as_slice.result.now ls h) c.as_slice-2.ensures.value c.in-Some.ensures.0))),
    )

pub returns : goal.returns
returns c =
    let T = c.args.table.now in
    let Q = c.args.query.now in
    let a = c.args.arrivals.now in
    let h = c.in-Some.hit in
    let cs = c.args.self.now.choices.items in
    let best = c.args.self.now.best in
    let legs = c.in_ok-legs.legs.items in
    let most = c.requires.answer.0 in
    let e : c.args.rides ≡ suc most = omega (arith, c.requires.answer.1) in
    let are : AreArrivals T Q (suc most) a = subst (λ n. AreArrivals T Q n a) e c.requires.arrivals in
    let to_is : c.as_slice.result.now ≡ Q.to = c.as_slice.ensures.value ∙ ap (λ (q : QueryData). q.to) c.query.view_is in
    let labels_are : c.as_slice-2.result.now ≡ a.labels.items = c.as_slice-2.ensures.value in
    let arrive_fits : FitsSigned w32 h.arrive = search rules in
    let arrive : to_z w32 (of_z w32 h.arrive) ≡ h.arrive = to_z-of_z w32 h.arrive arrive_fits in
    let better : IfSome best (λ b. h.arrive <ℤ b) = subst (λ z. IfSome best (λ b. z <ℤ b)) arrive c.if-not-is_better.ensures in
    let ah : IsArrivalHit T Q a.ridden.items (suc most) h = arrival_hit T Q (suc most) a are h (subst (λ ns. IsHitOf T ns a.labels.items h) to_is (subst (λ ls. IsHitOf T c.as_slice.result.now ls h) labels_are c.in-Some.ensures.0)) in
    let one : IsPlainAnswer T Q (suc most) (cs ++ record { value = record { arrive = h.arrive; rides = suc most }; legs = legs } ∷ []) (Some h.arrive) =
    answer-better T Q most cs best c.requires.answer.2 a are h
    (λ time due. c.in-Some.ensures.1 time (subst (λ ns. IsDueOf T ns c.as_slice-2.result.now time) (sym to_is) (subst (λ ls. IsDueOf T Q.to ls time) (sym labels_are) due)))
    better legs (c.in_ok-legs.ensures (suc most) (subst (λ (xs : List PlainRide). IsArrivalHit T Q xs (suc most) h) (sym c.as_slice-3.ensures.value) ah)) in
    subst (λ (xs : List ChoiceData). IsPlainAnswer T Q c.args.rides xs (Some (to_z w32 (of_z w32 h.arrive)))) (sym c.in_ok-push.ensures.items)
    (subst (λ (n : ℕ). IsPlainAnswer T Q n (cs ++ record { value = record { arrive = to_z w32 (of_z w32 h.arrive); rides = n }; legs = legs } ∷ []) (Some (to_z w32 (of_z w32 h.arrive)))) (sym e)
    (subst (λ (z : ℤ). IsPlainAnswer T Q (suc most) (cs ++ record { value = record { arrive = z; rides = suc most }; legs = legs } ∷ []) (Some z)) (sym arrive) one))
