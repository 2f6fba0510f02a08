-- Legs from the last to the first, and the rides among them.
use Rattle.std.proofs.Common.{◌≡◌, ℕ, ◌==◌, true, false, cond, List, [], ◌∷◌, ◌++◌, reverse, refl, ap, ◌∙◌, filter_map}
use Rattle.std.specs.Prelude.{unwrap_or}
use Rattle.std.proofs.lemmas.List.{reverse-append}
use Rattle.std.proofs.lemmas.List.Elements.{filter_map-append}
use Rattle.tb_base.specs.declared.query.Leg.{Leg}
use Rattle.tb_base.specs.declared.query.Leg.TheVariants.{Walk as WalkLeg, Ride as RideLeg}
use Rattle.tb_base.specs.TimetableData.{TimetableData}
use Rattle.tb_base.specs.Walking.{walk}
use Rattle.tb_base.specs.Journeys.{Ride, boarding_stop, alighting_stop}
use Rattle.tb_base.specs.JourneyRules.{walk_legs, legs_after, legs_of}
use Rattle.segment_queue.specs.Traced.{ride_of_leg}

-- a walk is one leg or none
reverse-walk : (T : TimetableData) (p q : ℕ) → reverse (walk_legs T p q) ≡ walk_legs T p q
reverse-walk T p q =
    let leg : Leg = WalkLeg p q (unwrap_or (walk T p q) 0) in
    elim (p == q) as (λ b. reverse (cond b [] (leg ∷ [])) ≡ cond b [] (leg ∷ [])) [ true ↦ refl | false ↦ refl ]

rides-walk : (T : TimetableData) (p q : ℕ) → filter_map ride_of_leg (walk_legs T p q) ≡ []
rides-walk T p q =
    let leg : Leg = WalkLeg p q (unwrap_or (walk T p q) 0) in
    elim (p == q) as (λ b. filter_map ride_of_leg (cond b [] (leg ∷ [])) ≡ []) [ true ↦ refl | false ↦ refl ]

-- a walk before the legs, and a ride before that
pub reverse-walked : (T : TimetableData) (legs : List Leg) (p q : ℕ) → reverse (legs ++ walk_legs T p q) ≡ walk_legs T p q ++ reverse legs
reverse-walked T legs p q = reverse-append legs (walk_legs T p q) ∙ ap (λ xs. xs ++ reverse legs) (reverse-walk T p q)

pub reverse-ridden : (T : TimetableData) (legs : List Leg) (p q : ℕ) (leg : Leg) → reverse ((legs ++ walk_legs T p q) ++ leg ∷ []) ≡ leg ∷ (walk_legs T p q ++ reverse legs)
reverse-ridden T legs p q leg = reverse-append (legs ++ walk_legs T p q) (leg ∷ []) ∙ ap (λ xs. leg ∷ xs) (reverse-walked T legs p q)

-- the rides of a journey's legs
rides-after : (T : TimetableData) (r : Ride) (rest : List Ride) (target : ℕ) → filter_map ride_of_leg (legs_after T r rest target) ≡ rest
rides-after T r [] target = rides-walk T (alighting_stop T r) target
rides-after T r (s ∷ rest) target =
    filter_map-append ride_of_leg (walk_legs T (alighting_stop T r) (boarding_stop T s)) (RideLeg s.trip s.board s.alight ∷ legs_after T s rest target)
    ∙ ap (λ xs. xs ++ s ∷ filter_map ride_of_leg (legs_after T s rest target)) (rides-walk T (alighting_stop T r) (boarding_stop T s))
    ∙ ap (λ xs. s ∷ xs) (rides-after T s rest target)

pub rides-of : (T : TimetableData) (origin : ℕ) (rides : List Ride) (target : ℕ) → filter_map ride_of_leg (legs_of T origin rides target) ≡ rides
rides-of T origin [] target = rides-walk T origin target
rides-of T origin (r ∷ rest) target =
    filter_map-append ride_of_leg (walk_legs T origin (boarding_stop T r)) (RideLeg r.trip r.board r.alight ∷ legs_after T r rest target)
    ∙ ap (λ xs. xs ++ r ∷ filter_map ride_of_leg (legs_after T r rest target)) (rides-walk T origin (boarding_stop T r))
    ∙ ap (λ xs. r ∷ xs) (rides-after T r rest target)
