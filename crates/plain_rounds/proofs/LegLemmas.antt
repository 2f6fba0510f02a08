-- The legs of a journey, from where one stands.
use Rattle.std.proofs.Common.{◌≡◌, ℕ, ◌+◌, List, [], ◌∷◌, ◌++◌, map, drop, refl, sym, ap, ◌∙◌}
use Rattle.std.proofs.lemmas.List.{append_assoc}
use Rattle.tb_base.specs.declared.query.Leg.{Leg}
use Rattle.tb_base.specs.declared.query.Leg.TheVariants.{Ride as RideLeg}
use Rattle.tb_base.specs.TimetableData.{TimetableData, stop_at}
use Rattle.tb_base.specs.Journeys.{Ride, boarding_stop, alighting_stop}
use Rattle.tb_base.specs.JourneyRules.{walk_legs, legs_after, legs_of}
use Rattle.plain_rounds.specs.declared.arrivals.PlainRide.{PlainRide}
use Rattle.plain_rounds.specs.Rounds.{ride_of}
use Rattle.plain_rounds.specs.Shown.{ride_leg}

-- the legs from a stop where one stands, by these rides to the target
abbrev pub legs_from : TimetableData → ℕ → List Ride → ℕ → List Leg
legs_from T p [] target = walk_legs T p target
legs_from T p (r ∷ rest) target = walk_legs T p (boarding_stop T r) ++ RideLeg r.trip r.board r.alight ∷ legs_from T (alighting_stop T r) rest target

after_is : (T : TimetableData) (r : Ride) (rest : List Ride) (target : ℕ) → legs_from T (alighting_stop T r) rest target ≡ legs_after T r rest target
after_is T r [] target = refl
after_is T r (s ∷ rest) target = ap (λ legs. walk_legs T (alighting_stop T r) (boarding_stop T s) ++ RideLeg s.trip s.board s.alight ∷ legs) (after_is T s rest target)

pub legs_from-legs_of : (T : TimetableData) (origin : ℕ) (rides : List Ride) (target : ℕ) → legs_from T origin rides target ≡ legs_of T origin rides target
legs_from-legs_of T origin [] target = refl
legs_from-legs_of T origin (r ∷ rest) target = ap (λ legs. walk_legs T origin (boarding_stop T r) ++ RideLeg r.trip r.board r.alight ∷ legs) (after_is T r rest target)
