-- Legs and choices of the mirror, turned round one by one.
use Rattle.std.proofs.Common.{◌≡◌, ◌∙◌, sym, ap, ℕ, ◌+◌, ◌-◌, ◌<◌, List, [], ◌∷◌, ◌++◌, length, get_or, map, take, arith}
use Rattle.std.proofs.lemmas.List.{get_or-map, get_or-reverse, length-map, length-reverse, take_more}
use Rattle.tb_base.specs.declared.query.Leg.{Leg}
use Rattle.tb_base.specs.TimetableData.{TimetableData}
use Rattle.edition_store.specs.TurnedJourneys.{turn_leg, turn_legs}

pub length-turn_legs : (M : TimetableData) (legs : List Leg) → length (turn_legs M legs) ≡ length legs
length-turn_legs M legs = length-reverse (map (turn_leg M) legs) ∙ length-map legs (turn_leg M)

-- one leg more, counted from the last
pub leg_more : (M : TimetableData) (legs : List Leg) (i : ℕ) (leg : Leg) (ys zs : List Leg) → i < length legs → leg ≡ get_or legs (length legs - 1 - i) leg → ys ≡ take i (turn_legs M legs) → zs ≡ ys ++ turn_leg M leg ∷ []
    → zs ≡ take (i + 1) (turn_legs M legs)
leg_more M legs i leg ys zs inside is before after =
    let long : length (map (turn_leg M) legs) ≡ length legs = length-map legs (turn_leg M) in
    let k : length (map (turn_leg M) legs) - 1 - i ≡ length legs - 1 - i = omega (arith, long) in
    let at : get_or (turn_legs M legs) i leg ≡ turn_leg M leg =
    get_or-reverse (map (turn_leg M) legs) i leg (omega (arith, long, inside))
    ∙ (ap (λ j. get_or (map (turn_leg M) legs) j leg) k ∙ (get_or-map (turn_leg M) legs (length legs - 1 - i) leg leg (omega (arith, inside)) ∙ ap (turn_leg M) (sym is))) in
    after ∙ (ap (λ l. l ++ turn_leg M leg ∷ []) before ∙ sym (take_more (turn_legs M legs) i leg (omega (arith, length-turn_legs M legs, inside)) ∙ ap (λ y. take i (turn_legs M legs) ++ y ∷ []) at))
