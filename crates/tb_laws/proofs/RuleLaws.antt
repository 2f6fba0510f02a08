-- Legs keep all rules exactly where they spell a journey that leaves no earlier than asked.
use Rattle.std.proofs.Common.{◌≡◌, ◌≢◌, ℕ, ◌<◌, ◌==◌, List, [], ◌∷◌, ◌++◌, length, Bool, true, false, cond, refl, sym, ap, subst, ◌∙◌, arith, ℤ, pos, ◌+ℤ◌, ◌-ℤ◌, ◌≤ℤ◌, Option, None, Some}
use Rattle.std.proofs.lemmas.Bool.{eq-eqb, ne_eqb}
use Rattle.std.proofs.lemmas.List.Elements.{All-contains}
use Rattle.std.specs.Prelude.{All, Contains, IsSome, unwrap_or}
use Rattle.std.proofs.lemmas.Int.{ints}
use Rattle.tb_base.specs.declared.query.Leg.{Leg}
use Rattle.tb_base.specs.declared.query.Leg.TheVariants.{Walk as WalkLeg, Ride as RideLeg}
use Rattle.tb_base.specs.declared.rule.Rule.{Rule}
use Rattle.tb_base.specs.declared.rule.Rule.TheVariants.{BadNumber, TwoWalks, NoWalk, NoBoarding, NoAlighting, WrongStart, TooEarly, Apart, TooLate, WrongEnd}
use Rattle.tb_base.specs.TimetableData.{TimetableData, stop_at, arrival_at, departure_at}
use Rattle.tb_base.specs.Walking.{walk, footpath_secs}
use Rattle.tb_base.specs.Soundness.{IsSound}
use Rattle.tb_base.specs.Journeys.{Ride, Journey, IsRide, IsJourney, CanChange, Leads, LeadsOn, LeavesNoEarlier, leaving_time, walk_secs, boarding_stop, alighting_stop, boarding_time, alighting_time}
use Rattle.tb_base.specs.BestValues.{QueryData, value_of}
use Rattle.tb_base.specs.JourneyRules.{walk_legs, legs_after, legs_of, SpellJourney, KeepsRule, KeepAllRules}
use Rattle.tb_laws.proofs.Triangles.{walk-same, walk-other, change-other, walk_secs-is}
use Rattle.tb_base.proofs.Events.{MayBoard-inside, MayAlight-inside}
use Rattle.tb_laws.proofs.CandidateLaws.{and_some, some_and, stop_inside}
use Rattle.tb_laws.proofs.UTurnLaws.{some}
use Rattle.tb_laws.proofs.KeptLaws.{walk_inside}

walk_legs-same : (T : TimetableData) (p : ℕ) → walk_legs T p p ≡ []
walk_legs-same T p = ap (λ b. cond b [] (WalkLeg p p (unwrap_or (walk T p p) 0) ∷ [])) (eq-eqb p p refl)

walk_legs-other : (T : TimetableData) (p q secs : ℕ) → p ≢ q → footpath_secs T.footpaths p q ≡ Some secs → walk_legs T p q ≡ WalkLeg p q secs ∷ []
walk_legs-other T p q secs apart path =
    ap (λ b. cond b [] (WalkLeg p q (unwrap_or (walk T p q) 0) ∷ [])) (ne_eqb p q apart)
    ∙ ap (λ o. WalkLeg p q (unwrap_or o 0) ∷ []) (walk-other T p q apart ∙ path)

number_same : (a b : ℕ) → true ≡ (a == b) → a ≡ b
number_same a b h = grind (arith, h)

number_other : (a b : ℕ) → false ≡ (a == b) → a ≢ b
number_other a b h e = (let t : (a == b) ≡ true = grind arith in cc)

is_some_of : {X : Type 0} (o : Option X) (n : X) → o ≡ Some n → IsSome o
is_some_of o n e = subst (λ x. IsSome x) (sym e) refl

spells : (T : TimetableData) (Q : QueryData) (legs : List Leg) (j : Journey) → IsJourney T Q.from Q.to j → LeavesNoEarlier T Q.leave j.origin j.rides → legs ≡ legs_of T j.origin j.rides j.target → SpellJourney T Q legs
spells T Q legs j journey leaves spelt = (value_of T Q.leave j, record { by = j; has = record { journey = journey; leaves = leaves; value = refl }; spelt = spelt })

module _ (T : TimetableData) (Q : QueryData) where
  ride_of : ℕ → ℕ → ℕ → Ride
  ride_of t b i = record { trip = t; board = b; alight = i }

  -- behind a ride the legs spell the rest of a journey
  record SpellRest (r : Ride) (legs : List Leg) : Type 0 where
    pub rest : List Ride
    pub target : ℕ
    pub to : Contains Q.to target
    pub on : LeadsOn T r rest target
    pub spelt : legs ≡ legs_after T r rest target

  -- by a change within a stop, or by a footpath, to the ride s
  with_ride : (r s : Ride) (walk : List Leg) (legs : List Leg) → walk ≡ walk_legs T (alighting_stop T r) (boarding_stop T s) → CanChange T r s → IsRide T s → SpellRest s legs → SpellRest r (walk ++ RideLeg s.trip s.board s.alight ∷ legs)
  with_ride r s walk legs is changes rides next = record {
    rest = s ∷ next.rest;
    target = next.target;
    to = next.to;
    on = (changes, rides, next.on);
    spelt = ap (λ w. w ++ RideLeg s.trip s.board s.alight ∷ legs) is ∙ ap (λ l. walk_legs T (alighting_stop T r) (boarding_stop T s) ++ RideLeg s.trip s.board s.alight ∷ l) next.spelt;
  }

  rest_from_rules : (t b i : ℕ) (earlier : Option Leg) (legs : List Leg) → KeepAllRules T Q (Some (RideLeg t b i)) earlier legs → (legs ≡ [] → Contains Q.to (stop_at T t i)) → SpellRest (record { trip = t; board = b; alight = i }) legs
  rest_from_rules t b i earlier [] keep ends = record {
    rest = [];
    target = stop_at T t i;
    to = ends refl;
    on = is_some_of _ 0 (walk-same T (stop_at T t i));
    spelt = sym (walk_legs-same T (stop_at T t i));
  }
  rest_from_rules t b i earlier (RideLeg u c j ∷ legs) keep ends =
      with_ride (record { trip = t; board = b; alight = i }) (record { trip = u; board = c; alight = j }) [] legs
      (sym (subst (λ q. walk_legs T (stop_at T t i) q ≡ []) (keep.0 Apart) (walk_legs-same T (stop_at T t i)))) (keep.0 TooLate)
      (record { onward = (keep.0 BadNumber).1; boards = keep.0 NoBoarding; alights = keep.0 NoAlighting })
      (rest_from_rules u c j (Some (RideLeg t b i)) legs keep.1 (λ e. subst (λ l. KeepsRule T Q (Some (RideLeg t b i)) earlier (RideLeg u c j) l WrongEnd) e (keep.0 WrongEnd)))
  rest_from_rules t b i earlier (WalkLeg p q secs ∷ []) keep ends =
      let from : stop_at T t i ≡ p = keep.0 Apart in
      let path : footpath_secs T.footpaths (stop_at T t i) q ≡ Some secs = subst (λ x. footpath_secs T.footpaths x q ≡ Some secs) (sym from) (keep.0 NoWalk).1 in
      let apart : stop_at T t i ≢ q = λ e. (keep.0 NoWalk).0 (sym from ∙ e) in
      record {
        rest = [];
        target = q;
        to = keep.0 WrongEnd;
        on = is_some_of _ secs (walk-other T (stop_at T t i) q apart ∙ path);
        spelt = subst (λ x. WalkLeg x q secs ∷ [] ≡ walk_legs T (stop_at T t i) q) from (sym (walk_legs-other T (stop_at T t i) q secs apart path));
      }
  rest_from_rules t b i earlier (WalkLeg p q secs ∷ WalkLeg x y z ∷ legs) keep ends = absurd (keep.1.0 TwoWalks tt tt)
  rest_from_rules t b i earlier (WalkLeg p q secs ∷ RideLeg u c j ∷ legs) keep ends =
      let from : stop_at T t i ≡ p = keep.0 Apart in
      let to : q ≡ stop_at T u c = keep.1.0 Apart in
      let path : footpath_secs T.footpaths (stop_at T t i) (stop_at T u c) ≡ Some secs = subst (λ x. footpath_secs T.footpaths x (stop_at T u c) ≡ Some secs) (sym from) (subst (λ y. footpath_secs T.footpaths p y ≡ Some secs) to (keep.0 NoWalk).1) in
      let apart : stop_at T t i ≢ stop_at T u c = λ e. (keep.0 NoWalk).0 (sym from ∙ (e ∙ sym to)) in
      let legs_are : WalkLeg p q secs ∷ [] ≡ walk_legs T (stop_at T t i) (stop_at T u c) =
      subst (λ x. WalkLeg x q secs ∷ [] ≡ walk_legs T (stop_at T t i) (stop_at T u c)) from (subst (λ y. WalkLeg (stop_at T t i) y secs ∷ [] ≡ walk_legs T (stop_at T t i) (stop_at T u c)) (sym to) (sym (walk_legs-other T _ _ secs apart path))) in
      with_ride (record { trip = t; board = b; alight = i }) (record { trip = u; board = c; alight = j }) (WalkLeg p q secs ∷ []) legs legs_are
      (and_some (λ n. (arrival_at T t i +ℤ pos n) ≤ℤ departure_at T u c) _ secs (change-other T _ _ apart ∙ path) (keep.1.0 TooLate))
      (record { onward = (keep.1.0 BadNumber).1; boards = keep.1.0 NoBoarding; alights = keep.1.0 NoAlighting })
      (rest_from_rules u c j (Some (WalkLeg p q secs)) legs keep.1.1 (λ e. subst (λ l. KeepsRule T Q (Some (WalkLeg p q secs)) (Some (RideLeg t b i)) (RideLeg u c j) l WrongEnd) e (keep.1.0 WrongEnd)))

  with_first : (p : ℕ) (r : Ride) (walks : List Leg) (legs : List Leg) → Contains Q.from p → walks ≡ walk_legs T p (boarding_stop T r) → IsSome (walk T p (boarding_stop T r)) → IsRide T r → Q.leave ≤ℤ leaving_time T p r → SpellRest r legs → SpellJourney T Q (walks ++ RideLeg r.trip r.board r.alight ∷ legs)
  with_first p r walks legs from is there rides leaves next =
      spells T Q _ (record { origin = p; rides = r ∷ next.rest; target = next.target }) (record { origin = from; target = next.to; leads = (there, rides, next.on) }) leaves
      (ap (λ w. w ++ RideLeg r.trip r.board r.alight ∷ legs) is ∙ ap (λ l. walk_legs T p (boarding_stop T r) ++ RideLeg r.trip r.board r.alight ∷ l) next.spelt)

  minus_secs : (asked d x : ℤ) (n : ℕ) → x ≡ pos n → asked ≤ℤ (d -ℤ pos n) → asked ≤ℤ (d -ℤ x)
  minus_secs asked d x n e h = rw e h

  -- legs that keep all rules spell a journey; with no leg some stop must be origin and target
  pub journey_from_rules : (legs : List Leg) → KeepAllRules T Q None None legs → (legs ≡ [] → (p : ℕ) × Contains Q.from p × Contains Q.to p) → SpellJourney T Q legs
  journey_from_rules [] keep ends =
      let p = ends refl in
      spells T Q [] (record { origin = p.0; rides = []; target = p.0 }) (record { origin = p.1; target = p.2; leads = is_some_of _ 0 (walk-same T p.0) }) tt (sym (walk_legs-same T p.0))
  journey_from_rules (RideLeg t b i ∷ legs) keep ends =
      with_first (stop_at T t b) (record { trip = t; board = b; alight = i }) [] legs (keep.0 WrongStart) (sym (walk_legs-same T (stop_at T t b))) (is_some_of _ 0 (walk-same T (stop_at T t b)))
      (record { onward = (keep.0 BadNumber).1; boards = keep.0 NoBoarding; alights = keep.0 NoAlighting })
      (minus_secs Q.leave (departure_at T t b) _ 0 (walk_secs-is T _ _ 0 (walk-same T (stop_at T t b))) (minus_none Q.leave (departure_at T t b) (keep.0 TooEarly)))
      (rest_from_rules t b i None legs keep.1 (λ e. subst (λ l. KeepsRule T Q None None (RideLeg t b i) l WrongEnd) e (keep.0 WrongEnd)))
    where
      minus_none : (a d : ℤ) → a ≤ℤ d → a ≤ℤ (d -ℤ pos 0)
      minus_none a d h = omega (arith, ints, h)
  journey_from_rules (WalkLeg p q secs ∷ []) keep ends =
      spells T Q (WalkLeg p q secs ∷ []) (record { origin = p; rides = []; target = q })
      (record { origin = keep.0 WrongStart; target = keep.0 WrongEnd; leads = is_some_of _ secs (walk-other T p q (keep.0 NoWalk).0 ∙ (keep.0 NoWalk).1) }) tt
      (sym (walk_legs-other T p q secs (keep.0 NoWalk).0 (keep.0 NoWalk).1))
  journey_from_rules (WalkLeg p q secs ∷ WalkLeg x y z ∷ legs) keep ends = absurd (keep.1.0 TwoWalks tt tt)
  journey_from_rules (WalkLeg p q secs ∷ RideLeg t b i ∷ legs) keep ends =
      let to : q ≡ stop_at T t b = keep.1.0 Apart in
      let path : footpath_secs T.footpaths p (stop_at T t b) ≡ Some secs = subst (λ y. footpath_secs T.footpaths p y ≡ Some secs) to (keep.0 NoWalk).1 in
      let apart : p ≢ stop_at T t b = λ e. (keep.0 NoWalk).0 (e ∙ sym to) in
      let legs_are : WalkLeg p q secs ∷ [] ≡ walk_legs T p (stop_at T t b) = subst (λ y. WalkLeg p y secs ∷ [] ≡ walk_legs T p (stop_at T t b)) (sym to) (sym (walk_legs-other T p (stop_at T t b) secs apart path)) in
      with_first p (record { trip = t; board = b; alight = i }) (WalkLeg p q secs ∷ []) legs (keep.0 WrongStart) legs_are (is_some_of _ secs (walk-other T _ _ apart ∙ path))
      (record { onward = (keep.1.0 BadNumber).1; boards = keep.1.0 NoBoarding; alights = keep.1.0 NoAlighting })
      (minus_secs Q.leave (departure_at T t b) _ secs (walk_secs-is T _ _ secs (walk-other T _ _ apart ∙ path)) (keep.1.0 TooEarly))
      (rest_from_rules t b i (Some (WalkLeg p q secs)) legs keep.1.1 (λ e. subst (λ l. KeepsRule T Q (Some (WalkLeg p q secs)) None (RideLeg t b i) l WrongEnd) e (keep.1.0 WrongEnd)))

-- ---- and a journey's legs keep all rules

module _ (T : TimetableData) (Q : QueryData) (sound : IsSound T) where
  -- a ride keeps the rules that look at it alone
  ride_keeps : (previous earlier : Option Leg) (after : List Leg) (s : Ride) → IsRide T s → KeepsRule T Q previous earlier (RideLeg s.trip s.board s.alight) after TwoWalks → KeepsRule T Q previous earlier (RideLeg s.trip s.board s.alight) after WrongStart →
      KeepsRule T Q previous earlier (RideLeg s.trip s.board s.alight) after TooEarly → KeepsRule T Q previous earlier (RideLeg s.trip s.board s.alight) after Apart → KeepsRule T Q previous earlier (RideLeg s.trip s.board s.alight) after TooLate →
      KeepsRule T Q previous earlier (RideLeg s.trip s.board s.alight) after WrongEnd → (rule : Rule) → KeepsRule T Q previous earlier (RideLeg s.trip s.board s.alight) after rule
  ride_keeps previous earlier after s ride two start early apart late end BadNumber = let inside = MayAlight-inside T s.trip s.alight ride.alights in (inside.0, ride.onward, inside.1)
  ride_keeps previous earlier after s ride two start early apart late end TwoWalks = two
  ride_keeps previous earlier after s ride two start early apart late end NoWalk = tt
  ride_keeps previous earlier after s ride two start early apart late end NoBoarding = ride.boards
  ride_keeps previous earlier after s ride two start early apart late end NoAlighting = ride.alights
  ride_keeps previous earlier after s ride two start early apart late end WrongStart = start
  ride_keeps previous earlier after s ride two start early apart late end TooEarly = early
  ride_keeps previous earlier after s ride two start early apart late end Apart = apart
  ride_keeps previous earlier after s ride two start early apart late end TooLate = late
  ride_keeps previous earlier after s ride two start early apart late end WrongEnd = end

  -- so does a walk, behind a ride or as the first leg
  walk_keeps : (previous earlier : Option Leg) (after : List Leg) (p q secs : ℕ) → p < length T.stops → q < length T.stops → p ≢ q → footpath_secs T.footpaths p q ≡ Some secs → KeepsRule T Q previous earlier (WalkLeg p q secs) after TwoWalks → KeepsRule T Q previous earlier (WalkLeg p q secs) after WrongStart →
      KeepsRule T Q previous earlier (WalkLeg p q secs) after TooEarly → KeepsRule T Q previous earlier (WalkLeg p q secs) after Apart → KeepsRule T Q previous earlier (WalkLeg p q secs) after TooLate → KeepsRule T Q previous earlier (WalkLeg p q secs) after WrongEnd → (rule : Rule) → KeepsRule T Q previous earlier (WalkLeg p q secs) after rule
  walk_keeps previous earlier after p q secs in_p in_q apart path two start early along late end BadNumber = (in_p, in_q)
  walk_keeps previous earlier after p q secs in_p in_q apart path two start early along late end TwoWalks = two
  walk_keeps previous earlier after p q secs in_p in_q apart path two start early along late end NoWalk = (apart, path)
  walk_keeps previous earlier after p q secs in_p in_q apart path two start early along late end NoBoarding = tt
  walk_keeps previous earlier after p q secs in_p in_q apart path two start early along late end NoAlighting = tt
  walk_keeps previous earlier after p q secs in_p in_q apart path two start early along late end WrongStart = start
  walk_keeps previous earlier after p q secs in_p in_q apart path two start early along late end TooEarly = early
  walk_keeps previous earlier after p q secs in_p in_q apart path two start early along late end Apart = along
  walk_keeps previous earlier after p q secs in_p in_q apart path two start early along late end TooLate = late
  walk_keeps previous earlier after p q secs in_p in_q apart path two start early along late end WrongEnd = end

  -- the last leg ends at a target
  abbrev EndsAt : ℕ → List Leg → Type 0
  EndsAt p [] = Contains Q.to p
  EndsAt p (leg ∷ legs) = Unit {0}

  end_kept : (previous earlier : Option Leg) (t b i : ℕ) (after : List Leg) → EndsAt (stop_at T t i) after → KeepsRule T Q previous earlier (RideLeg t b i) after WrongEnd
  end_kept previous earlier t b i [] h = h
  end_kept previous earlier t b i (leg ∷ after) h = tt

  behind_ride : (r : Ride) (earlier : Option Leg) (rest : List Ride) (target : ℕ) → IsRide T r → Contains Q.to target → LeadsOn T r rest target →
      KeepAllRules T Q (Some (RideLeg r.trip r.board r.alight)) earlier (legs_after T r rest target) × EndsAt (alighting_stop T r) (legs_after T r rest target)
  behind_ride r earlier [] target ride to on = by_test (alighting_stop T r == target) refl
    where
      by_test : (b : Bool) → b ≡ (alighting_stop T r == target) → KeepAllRules T Q (Some (RideLeg r.trip r.board r.alight)) earlier (cond b [] (WalkLeg (alighting_stop T r) target (unwrap_or (walk T (alighting_stop T r) target) 0) ∷ [])) × EndsAt (alighting_stop T r) (cond b [] (WalkLeg (alighting_stop T r) target (unwrap_or (walk T (alighting_stop T r) target) 0) ∷ []))
      by_test true e = (tt, subst (λ p. Contains Q.to p) (sym (number_same _ _ e)) to)
      by_test false e =
          let inside = MayAlight-inside T r.trip r.alight ride.alights in
          let in_p : alighting_stop T r < length T.stops = stop_inside T sound r.trip r.alight inside.0 inside.1 in
          let w = some (walk T (alighting_stop T r) target) on in
          let apart : alighting_stop T r ≢ target = number_other _ _ e in (
            (
              walk_keeps (Some (RideLeg r.trip r.board r.alight)) earlier [] (alighting_stop T r) target (unwrap_or (walk T (alighting_stop T r) target) 0) in_p (walk_inside T sound _ target w.0 in_p w.1) apart
                  (sym (walk-other T _ target apart) ∙ (w.1 ∙ ap (λ n. Some n) (sym (ap (λ o. unwrap_or o 0) w.1)))) (λ h k. h) tt tt refl tt to,
              tt,
            ),
            tt,
          )
  behind_ride r earlier (s ∷ rest) target ride to on = by_test (λ b. behind_ride s b rest target on.1 to on.2) (alighting_stop T r == boarding_stop T s) refl
    where
      next : List Leg
      next = legs_after T s rest target

      by_test : ((e : Option Leg) → KeepAllRules T Q (Some (RideLeg s.trip s.board s.alight)) e (legs_after T s rest target) × EndsAt (alighting_stop T s) (legs_after T s rest target)) → (b : Bool) → b ≡ (alighting_stop T r == boarding_stop T s) →
          KeepAllRules T Q (Some (RideLeg r.trip r.board r.alight)) earlier ((cond b [] (WalkLeg (alighting_stop T r) (boarding_stop T s) (unwrap_or (walk T (alighting_stop T r) (boarding_stop T s)) 0) ∷ [])) ++ RideLeg s.trip s.board s.alight ∷ legs_after T s rest target)
          × EndsAt (alighting_stop T r) ((cond b [] (WalkLeg (alighting_stop T r) (boarding_stop T s) (unwrap_or (walk T (alighting_stop T r) (boarding_stop T s)) 0) ∷ [])) ++ RideLeg s.trip s.board s.alight ∷ legs_after T s rest target)
      by_test more true e =
          let k = more (Some (RideLeg r.trip r.board r.alight)) in
          ((ride_keeps (Some (RideLeg r.trip r.board r.alight)) earlier (legs_after T s rest target) s on.1 (λ h k. h) tt tt (number_same _ _ e) on.0 (end_kept (Some (RideLeg r.trip r.board r.alight)) earlier s.trip s.board s.alight (legs_after T s rest target) k.1), k.0), tt)
      by_test more false e =
          let inside = MayAlight-inside T r.trip r.alight ride.alights in
          let in_p : alighting_stop T r < length T.stops = stop_inside T sound r.trip r.alight inside.0 inside.1 in
          let there = MayBoard-inside T s.trip s.board on.1.boards in
          let in_q : boarding_stop T s < length T.stops = stop_inside T sound s.trip s.board there.0 there.1 in
          let c = some_and (λ n. (alighting_time T r +ℤ pos n) ≤ℤ boarding_time T s) _ on.0 in
          let apart : alighting_stop T r ≢ boarding_stop T s = number_other _ _ e in
          let path : footpath_secs T.footpaths (alighting_stop T r) (boarding_stop T s) ≡ Some c.0 = sym (change-other T _ _ apart) ∙ c.1 in
          let secs : unwrap_or (walk T (alighting_stop T r) (boarding_stop T s)) 0 ≡ c.0 = ap (λ o. unwrap_or o 0) (walk-other T _ _ apart ∙ path) in
          let walk_leg : Leg = WalkLeg (alighting_stop T r) (boarding_stop T s) (unwrap_or (walk T (alighting_stop T r) (boarding_stop T s)) 0) in
          let k = more (Some walk_leg) in (
            (
              walk_keeps (Some (RideLeg r.trip r.board r.alight)) earlier (RideLeg s.trip s.board s.alight ∷ legs_after T s rest target) (alighting_stop T r) (boarding_stop T s) (unwrap_or (walk T (alighting_stop T r) (boarding_stop T s)) 0) in_p in_q apart
                  (path ∙ ap (λ n. Some n) (sym secs)) (λ h k. h) tt tt refl tt tt,
              (
                ride_keeps (Some walk_leg) (Some (RideLeg r.trip r.board r.alight)) (legs_after T s rest target) s on.1 (λ h k. k) tt tt refl
                    (subst (λ n. (alighting_time T r +ℤ pos n) ≤ℤ boarding_time T s) (sym secs) c.2) (end_kept (Some walk_leg) (Some (RideLeg r.trip r.board r.alight)) s.trip s.board s.alight (legs_after T s rest target) k.1),
                k.0,
              ),
            ),
            tt,
          )

  -- the legs of a journey keep all rules, and with no leg some stop is origin and target
  rules_of_legs : (o : ℕ) (rides : List Ride) (q : ℕ) → o < length T.stops → Contains Q.from o → Contains Q.to q → Leads T o rides q → LeavesNoEarlier T Q.leave o rides → KeepAllRules T Q None None (legs_of T o rides q) × (legs_of T o rides q ≡ [] → (p : ℕ) × Contains Q.from p × Contains Q.to p)
  rules_of_legs o [] q in_o from to leads leaves = by_test (o == q) refl
    where
      by_test : (b : Bool) → b ≡ (o == q) → KeepAllRules T Q None None (cond b [] (WalkLeg o q (unwrap_or (walk T o q) 0) ∷ [])) × (cond b [] (WalkLeg o q (unwrap_or (walk T o q) 0) ∷ []) ≡ [] → (p : ℕ) × Contains Q.from p × Contains Q.to p)
      by_test true e = (tt, λ x. (o, from, subst (λ p. Contains Q.to p) (sym (number_same _ _ e)) to))
      by_test false e =
          let w = some (walk T o q) leads in
          let apart : o ≢ q = number_other _ _ e in (
            (
              walk_keeps None None [] o q (unwrap_or (walk T o q) 0) in_o (walk_inside T sound o q w.0 in_o w.1) apart
                  (sym (walk-other T o q apart) ∙ (w.1 ∙ ap (λ n. Some n) (sym (ap (λ o. unwrap_or o 0) w.1)))) tt from tt tt tt to,
              tt,
            ),
            λ x. cc,
          )
  rules_of_legs o (r ∷ rest) q in_o from to leads leaves = by_test (o == boarding_stop T r) refl
    where
      by_test : (b : Bool) → b ≡ (o == boarding_stop T r) → KeepAllRules T Q None None (cond b [] (WalkLeg o (boarding_stop T r) (unwrap_or (walk T o (boarding_stop T r)) 0) ∷ []) ++ RideLeg r.trip r.board r.alight ∷ legs_after T r rest q)
          × (cond b [] (WalkLeg o (boarding_stop T r) (unwrap_or (walk T o (boarding_stop T r)) 0) ∷ []) ++ RideLeg r.trip r.board r.alight ∷ legs_after T r rest q ≡ [] → (p : ℕ) × Contains Q.from p × Contains Q.to p)
      by_test true e =
          let same : o ≡ boarding_stop T r = number_same _ _ e in
          let k = behind_ride r None rest q leads.1 to leads.2 in
          let none : walk_secs T o (boarding_stop T r) ≡ pos 0 = walk_secs-is T o (boarding_stop T r) 0 (subst (λ p. walk T o p ≡ Some 0) same (walk-same T o)) in
          ((ride_keeps None None (legs_after T r rest q) r leads.1 tt (subst (λ p. Contains Q.from p) same from) (plain (boarding_time T r) (walk_secs T o (boarding_stop T r)) none leaves) tt tt (end_kept None None r.trip r.board r.alight (legs_after T r rest q) k.1), k.0), λ x. cc)
        where
          plain : (d x : ℤ) → x ≡ pos 0 → Q.leave ≤ℤ (d -ℤ x) → Q.leave ≤ℤ d
          plain d x e h = (let h' : Q.leave ≤ℤ (d -ℤ pos 0) = rw e at h in omega (arith, ints, h'))
      by_test false e =
          let there = MayBoard-inside T r.trip r.board leads.1.boards in
          let w = some (walk T o (boarding_stop T r)) leads.0 in
          let apart : o ≢ boarding_stop T r = number_other _ _ e in
          let walk_leg : Leg = WalkLeg o (boarding_stop T r) (unwrap_or (walk T o (boarding_stop T r)) 0) in
          let k = behind_ride r (Some walk_leg) rest q leads.1 to leads.2 in (
            (
              walk_keeps None None (RideLeg r.trip r.board r.alight ∷ legs_after T r rest q) o (boarding_stop T r) (unwrap_or (walk T o (boarding_stop T r)) 0) in_o (stop_inside T sound r.trip r.board there.0 there.1) apart
                  (sym (walk-other T o _ apart) ∙ (w.1 ∙ ap (λ n. Some n) (sym (ap (λ o. unwrap_or o 0) w.1)))) tt from tt tt tt tt,
              (ride_keeps (Some walk_leg) None (legs_after T r rest q) r leads.1 (λ h k. k) tt leaves refl tt (end_kept (Some walk_leg) None r.trip r.board r.alight (legs_after T r rest q) k.1), k.0),
            ),
            λ x. cc,
          )

  -- Legs that spell a journey keep all rules.
  pub rules_from_journey : (legs : List Leg) → All (λ p. p < length T.stops) Q.from → SpellJourney T Q legs → KeepAllRules T Q None None legs × (legs ≡ [] → (p : ℕ) × Contains Q.from p × Contains Q.to p)
  rules_from_journey legs inside (v, spell) =
      let journey = spell.has.journey in
      subst (λ l. KeepAllRules T Q None None l × (l ≡ [] → (p : ℕ) × Contains Q.from p × Contains Q.to p)) (sym spell.spelt)
      (rules_of_legs spell.by.origin spell.by.rides spell.by.target (All-contains (λ p. p < length T.stops) Q.from spell.by.origin inside journey.origin)
      journey.origin journey.target journey.leads spell.has.leaves)
