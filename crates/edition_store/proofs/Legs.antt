-- The legs of a journey that is turned round are its legs turned round.
use Rattle.std.proofs.Common.{◌≡◌, ◌≢◌, ◌∙◌, sym, ap, subst, refl, ℕ, cond, List, [], ◌∷◌, ◌++◌, map}
use Rattle.std.specs.Prelude.{reverse, unwrap_or}
use Rattle.std.proofs.lemmas.Bool.{eq-eqb, ne_eqb}
use Rattle.std.proofs.lemmas.Grind.{reverse_onto}
use Rattle.std.proofs.lemmas.List.{append_assoc, map-append, reverse-append}
use Rattle.tb_base.specs.declared.query.Leg.{Leg}
use Rattle.tb_base.specs.declared.query.Leg.TheVariants.{Walk as WalkLeg, Ride as RideLeg}
use Rattle.tb_base.specs.JourneyRules.{legs_after, legs_of, walk_legs}
use Rattle.tb_base.specs.Journeys.{IsRide, Leads, LeadsOn, Ride, alighting_stop, boarding_stop}
use Rattle.tb_base.specs.TimetableData.{TimetableData}
use Rattle.tb_base.specs.Walking.{walk}
use Rattle.edition_store.specs.Mirror.{IsMirror}
use Rattle.edition_store.specs.TurnedJourneys.{turn_before, turn_leg, turn_legs, turn_ride, turn_rides}
use Rattle.edition_store.proofs.Back.{by_stops, walk_back}
use Rattle.edition_store.proofs.Turning.{alighting_stop_back, boarding_stop_back}

turn_append : (T : TimetableData) (xs ys : List Leg) → turn_legs T (xs ++ ys) ≡ turn_legs T ys ++ turn_legs T xs
turn_append T xs ys = ap reverse (map-append (turn_leg T) xs ys) ∙ reverse-append (map (turn_leg T) xs) (map (turn_leg T) ys)

turn_cons : (T : TimetableData) (x : Leg) (xs : List Leg) → turn_legs T (x ∷ xs) ≡ turn_legs T xs ++ turn_leg T x ∷ []
turn_cons T x xs = reverse_onto (map (turn_leg T) xs) (turn_leg T x) []

-- the legs of a walk, of a ride, and of what comes after it
turn_ridden : (T : TimetableData) (xs : List Leg) (x : Leg) (ys : List Leg) → turn_legs T (xs ++ x ∷ ys) ≡ turn_legs T ys ++ turn_leg T x ∷ turn_legs T xs
turn_ridden T xs x ys =
    turn_append T xs (x ∷ ys) ∙ (ap (λ zs. zs ++ turn_legs T xs) (turn_cons T x ys) ∙ append_assoc (turn_legs T ys) (turn_leg T x ∷ []) (turn_legs T xs))

walk-same_legs : (T : TimetableData) (p : ℕ) → walk_legs T p p ≡ []
walk-same_legs T p = ap (λ b. cond b [] (WalkLeg p p (unwrap_or (walk T p p) 0) ∷ [])) (eq-eqb p p refl)

walk-other_legs : (T : TimetableData) (p q : ℕ) → p ≢ q → walk_legs T p q ≡ WalkLeg p q (unwrap_or (walk T p q) 0) ∷ []
walk-other_legs T p q other = ap (λ b. cond b [] (WalkLeg p q (unwrap_or (walk T p q) 0) ∷ [])) (ne_eqb p q other)

module _ (T M : TimetableData) (m : IsMirror T M) where
  walk_turned : (p q : ℕ) → turn_legs T (walk_legs T p q) ≡ walk_legs M q p
  walk_turned p q = by_stops p q
      (λ same. subst (λ k. turn_legs T (walk_legs T p k) ≡ walk_legs M k p) same (ap (turn_legs T) (walk-same_legs T p) ∙ sym (walk-same_legs M p)))
      (λ other. ap (turn_legs T) (walk-other_legs T p q other)
      ∙ (ap (λ o. WalkLeg q p (unwrap_or o 0) ∷ []) (sym (walk_back T M m.footpaths q p)) ∙ sym (walk-other_legs M q p (λ e. other (sym e)))))

  legs_back : (r : Ride) (rest others : List Ride) (origin target : ℕ) → IsRide T r → LeadsOn T r rest target
      → turn_legs T (legs_after T r rest target) ++ turn_leg T (RideLeg r.trip r.board r.alight) ∷ legs_after M (turn_ride T r) others origin ≡ legs_of M target (turn_before T rest (turn_ride T r ∷ others)) origin
  legs_back r [] others origin target h on =
      ap (λ xs. xs ++ turn_leg T (RideLeg r.trip r.board r.alight) ∷ legs_after M (turn_ride T r) others origin)
      (walk_turned (alighting_stop T r) target ∙ ap (walk_legs M target) (sym (boarding_stop_back T M m r h)))
  legs_back r (s ∷ rest) others origin target h on =
      let mine : List Leg = turn_leg T (RideLeg r.trip r.board r.alight) ∷ legs_after M (turn_ride T r) others origin in
      let between : turn_legs T (walk_legs T (alighting_stop T r) (boarding_stop T s)) ≡ walk_legs M (alighting_stop M (turn_ride T s)) (boarding_stop M (turn_ride T r)) =
      walk_turned (alighting_stop T r) (boarding_stop T s) ∙ (λ i. walk_legs M (sym (alighting_stop_back T M m s on.1) i) (sym (boarding_stop_back T M m r h) i)) in
      ap (λ xs. xs ++ mine) (turn_ridden T (walk_legs T (alighting_stop T r) (boarding_stop T s)) (RideLeg s.trip s.board s.alight) (legs_after T s rest target))
      ∙ (append_assoc (turn_legs T (legs_after T s rest target)) (turn_leg T (RideLeg s.trip s.board s.alight) ∷ turn_legs T (walk_legs T (alighting_stop T r) (boarding_stop T s))) mine
      ∙ (ap (λ ws. turn_legs T (legs_after T s rest target) ++ turn_leg T (RideLeg s.trip s.board s.alight) ∷ (ws ++ mine)) between
      ∙ legs_back s rest (turn_ride T r ∷ others) origin target on.1 on.2))

  pub legs_turned : (origin target : ℕ) (rides : List Ride) → Leads T origin rides target → turn_legs T (legs_of T origin rides target) ≡ legs_of M target (turn_rides T rides) origin
  legs_turned origin target [] h = walk_turned origin target
  legs_turned origin target (r ∷ rest) h =
      turn_ridden T (walk_legs T origin (boarding_stop T r)) (RideLeg r.trip r.board r.alight) (legs_after T r rest target)
      ∙ (ap (λ ws. turn_legs T (legs_after T r rest target) ++ turn_leg T (RideLeg r.trip r.board r.alight) ∷ ws)
      (walk_turned origin (boarding_stop T r) ∙ ap (λ p. walk_legs M p origin) (sym (alighting_stop_back T M m r h.1)))
      ∙ legs_back r rest [] origin target h.1 h.2)
