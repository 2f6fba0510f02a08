-- Rides the last one first, and the journeys that they make.
use Rattle.std.proofs.Common.{◌≡◌, ℕ, zero, suc, ◌<◌, ◌≤◌, ◌+◌, ◌⊎◌, inl, inr, List, [], ◌∷◌, ◌++◌, length, get_or, map, reverse, refl, sym, ap, subst, ◌∙◌, arith, Option, None, Some, ℤ, pos, ◌+ℤ◌, ◌-ℤ◌, ◌≤ℤ◌}
use Rattle.std.specs.Prelude.{All, Contains, IsSome, IsSomeAnd, unwrap_or}
use Rattle.std.proofs.lemmas.Int.{ints}
use Rattle.std.proofs.lemmas.List.{append_assoc, append-nil, reverse-append, length-map, get_or-map}
use Rattle.tb_base.specs.declared.query.Leg.{Leg}
use Rattle.tb_base.specs.declared.query.Value.{Value}
use Rattle.tb_base.specs.TimetableData.{TimetableData, stop_at}
use Rattle.tb_base.specs.Walking.{walk, change}
use Rattle.tb_base.specs.Journeys.{Ride, IsRide, CanChange, LeadsOn, Leads, LeavesNoEarlier, arrival, arrival_after, walk_secs, boarding_stop, boarding_time, alighting_stop, alighting_time}
use Rattle.tb_base.specs.BestValues.{QueryData, IsAttained}
use Rattle.tb_base.specs.JourneyRules.{legs_of}
use Rattle.tb_base.proofs.Events.{MayBoard-inside, MayAlight-inside}
use Rattle.tb_laws.proofs.CandidateLaws.{some_and, and_some}
use Rattle.tb_laws.proofs.Exchange.{IsSomeAnd-weaker}
use Rattle.plain_rounds.specs.declared.arrivals.PlainRide.{PlainRide}
use Rattle.plain_rounds.specs.Rides.{IsBoarded, IsReadyAfter}
use Rattle.plain_rounds.specs.Rounds.{ride_of}
use Rattle.plain_rounds.specs.Shown.{IsNearest, IsInside, HasShortestWalks, SpellShortest, last_ride}
use Rattle.tb_base.proofs.Lists.{some-IsSome, IsSome-some}

-- rides the last one first, in order before others
abbrev pub rev_onto : List Ride → List Ride → List Ride
rev_onto [] xs = xs
rev_onto (r ∷ back) xs = rev_onto back (r ∷ xs)

rev_onto-reverse : (back xs : List Ride) → rev_onto back xs ≡ reverse back ++ xs
rev_onto-reverse [] xs = refl
rev_onto-reverse (r ∷ back) xs = rev_onto-reverse back (r ∷ xs) ∙ sym (append_assoc (reverse back) (r ∷ []) xs) ∙ ap (λ ys. ys ++ xs) (sym (reverse-append (r ∷ []) back))

pub reverse-rev_onto : (back : List Ride) (r : Ride) → reverse (r ∷ back) ≡ rev_onto back (r ∷ [])
reverse-rev_onto back r = sym (append-nil (reverse (r ∷ back))) ∙ sym (rev_onto-reverse (r ∷ back) [])

length_back : (back xs : List Ride) → length (rev_onto back xs) ≡ length back + length xs
length_back [] xs = omega arith
length_back (r ∷ back) xs = omega (arith, length_back back (r ∷ xs))

abbrev last_or : Ride → List Ride → Ride
last_or d [] = d
last_or d (x ∷ xs) = last_ride x xs

secs_is : (o : Option ℕ) (n : ℕ) → o ≡ Some n → unwrap_or o 0 ≡ n
secs_is o n e = ap (λ x. unwrap_or x 0) e

module _ (T : TimetableData) (Q : QueryData) where
  -- they lead on as a journey
  leads_back : (back : List Ride) (r : Ride) (tail : List Ride) (q : ℕ) → IsBoarded T (IsReadyAfter T Q back) r → LeadsOn T r tail q → (o : ℕ) × Contains Q.from o × (Leads T o (rev_onto back (r ∷ tail)) q × LeavesNoEarlier T Q.leave o (rev_onto back (r ∷ tail)))
  leads_back [] r tail q b on = by_walk b.at
    where
      leaves : (a t d : ℤ) (n m : ℕ) → t ≡ (a +ℤ pos n) → t ≤ℤ d → m ≡ n → a ≤ℤ (d -ℤ pos m)
      leaves a t d n m e h g = omega (arith, ints, e, h, g)

      by_walk : (o : ℕ) × Contains Q.from o × IsSomeAnd (walk T o (boarding_stop T r)) (λ secs. b.ready ≡ (Q.leave +ℤ pos secs)) → (o : ℕ) × Contains Q.from o × (Leads T o (r ∷ tail) q × LeavesNoEarlier T Q.leave o (r ∷ tail))
      by_walk (o, from, walks) =
          let w = some_and (λ secs. b.ready ≡ (Q.leave +ℤ pos secs)) (walk T o (boarding_stop T r)) walks in
          (o, from, ((some-IsSome (walk T o (boarding_stop T r)) w.0 w.1, b.ride, on), leaves Q.leave b.ready (boarding_time T r) w.0 (unwrap_or (walk T o (boarding_stop T r)) 0) w.2 b.in_time (secs_is (walk T o (boarding_stop T r)) w.0 w.1)))
  leads_back (s ∷ back) r tail q b on = leads_back back s (r ∷ tail) q b.at.0 (can_change, b.ride, on)
    where
      in_time : (t d e : ℤ) → t ≡ e → t ≤ℤ d → e ≤ℤ d
      in_time t d e g h = subst (λ x. x ≤ℤ d) g h

      can_change : CanChange T s r
      can_change = IsSomeAnd-weaker (λ secs. b.ready ≡ (alighting_time T s +ℤ pos secs)) (λ secs. (alighting_time T s +ℤ pos secs) ≤ℤ boarding_time T r)
          (λ secs e. in_time b.ready (boarding_time T r) (alighting_time T s +ℤ pos secs) e b.in_time) (change T (alighting_stop T s) (boarding_stop T r)) b.at.1

  arrival_back : (back : List Ride) (r : Ride) (tail : List Ride) (o q : ℕ) → arrival T Q.leave o (rev_onto back (r ∷ tail)) q ≡ arrival_after T r tail q
  arrival_back [] r tail o q = refl
  arrival_back (s ∷ back) r tail o q = arrival_back back s (r ∷ tail) o q

  last_back : (back : List Ride) (r : Ride) (tail : List Ride) (d : Ride) → last_or d (rev_onto back (r ∷ tail)) ≡ last_ride r tail
  last_back [] r tail d = refl
  last_back (s ∷ back) r tail d = last_back back s (r ∷ tail) d

  -- the rides of a journey are rides
  leads_on-rides : (r : Ride) (xs : List Ride) (q : ℕ) → LeadsOn T r xs q → (k : ℕ) (d : Ride) → k < length xs → IsRide T (get_or xs k d)
  leads_on-rides r [] q on k d below = absurd (omega (arith, below))
  leads_on-rides r (s ∷ xs) q on zero d below = on.1
  leads_on-rides r (s ∷ xs) q on (suc k) d below = leads_on-rides s xs q on.2 k d (omega (arith, below))

  leads-rides : (o : ℕ) (xs : List Ride) (q : ℕ) → Leads T o xs q → (k : ℕ) (d : Ride) → k < length xs → IsRide T (get_or xs k d)
  leads-rides o [] q leads k d below = absurd (omega (arith, below))
  leads-rides o (r ∷ xs) q leads zero d below = leads.1
  leads-rides o (r ∷ xs) q leads (suc k) d below = leads_on-rides r xs q leads.2 k d (omega (arith, below))

  -- the ridden of an arrival
  module _ (back : List Ride) (last : Ride) (boarded : IsBoarded T (IsReadyAfter T Q back) last) (target : ℕ) (walks : IsSome (walk T (alighting_stop T last) target)) (rides : List PlainRide) (are : map ride_of rides ≡ reverse (last ∷ back)) where
    are_onto : map ride_of rides ≡ rev_onto back (last ∷ [])
    are_onto = are ∙ reverse-rev_onto back last

    journey : (o : ℕ) × Contains Q.from o × (Leads T o (map ride_of rides) target × LeavesNoEarlier T Q.leave o (map ride_of rides))
    journey = subst (λ xs. (o : ℕ) × Contains Q.from o × (Leads T o xs target × LeavesNoEarlier T Q.leave o xs)) (sym are_onto) (leads_back back last [] target boarded walks)

    pub ridden-inside : All (IsInside T) rides
    ridden-inside k d below =
        let ride : IsRide T (ride_of (get_or rides k d)) = subst (λ r. IsRide T r) (get_or-map ride_of rides k d (ride_of d) below) (leads-rides journey.0 (map ride_of rides) target journey.2.0 k (ride_of d) (omega (arith, length-map {A = PlainRide} {B = Ride} rides ride_of, below))) in
        ((MayBoard-inside T (get_or rides k d).trip (get_or rides k d).board ride.boards).0, (MayBoard-inside T (get_or rides k d).trip (get_or rides k d).board ride.boards).1, (MayAlight-inside T (get_or rides k d).trip (get_or rides k d).alight ride.alights).1)

    pub ridden-some : 0 < length rides
    ridden-some = omega (arith, length-map {A = PlainRide} {B = Ride} rides ride_of, ap length are_onto, length_back back (last ∷ []))

    -- an origin has a walk to the first boarding
    pub first-walk : (f : PlainRide) (rest : List PlainRide) → rides ≡ f ∷ rest → (o s : ℕ) × (Contains Q.from o × (walk T o (stop_at T f.trip f.board) ≡ Some s))
    first-walk f rest e =
        let j : Leads T journey.0 (map ride_of (f ∷ rest)) target = subst (λ (xs : List PlainRide). Leads T journey.0 (map ride_of xs) target) e journey.2.0 in
        let w = IsSome-some (walk T journey.0 (stop_at T f.trip f.board)) j.0 in
        (journey.0, w.0, (journey.1, w.1))

    -- from the nearest origin to the nearest target they are a journey that is shown
    pub shown : (f : PlainRide) (rest : List PlainRide) → rides ≡ f ∷ rest → (o : ℕ) → IsNearest (λ o. walk T o (stop_at T f.trip f.board)) Q.from o → IsNearest (λ q. walk T (alighting_stop T last) q) Q.to target →
        (arrive : ℤ) → arrive ≡ (alighting_time T last +ℤ walk_secs T (alighting_stop T last) target) → (legs : List Leg) → legs ≡ legs_of T o (map ride_of rides) target →
        SpellShortest T Q legs (record { arrive = arrive; rides = suc (length back) })
    shown f rest e o near_origin near_target arrive arrives legs spelt = record {
      by = record { origin = o; rides = map ride_of rides; target = target };
      has = record {
        journey = record { origin = near_origin.among; target = near_target.among; leads = subst (λ (xs : List PlainRide). Leads T o (map ride_of xs) target) (sym e) (near_origin.walks, leads.1, leads.2) };
        leaves = subst (λ (xs : List PlainRide). LeavesNoEarlier T Q.leave o (map ride_of xs)) (sym e) leaves;
        value = same_value arrive (arrival T Q.leave o (map ride_of rides) target) (suc (length back)) (length (map ride_of rides))
            (arrives ∙ sym (arrival_back back last [] o target) ∙ ap (λ xs. arrival T Q.leave o xs target) (sym are_onto))
            (omega (arith, ap length are_onto, length_back back (last ∷ [])));
      };
      spelt = spelt;
      shortest = subst (λ (xs : List PlainRide). HasShortestWalks T Q o (map ride_of xs) target) (sym e)
          (near_origin, subst (λ r. IsNearest (λ q. walk T (alighting_stop T r) q) Q.to target) (sym last_is) near_target);
    }
      where
        same_value : (a a' : ℤ) (n n' : ℕ) → a ≡ a' → n ≡ n' → ◌≡◌ {A = Value} (record { arrive = a; rides = n }) (record { arrive = a'; rides = n' })
        same_value a a' n n' e f = cc

        leads : Leads T journey.0 (map ride_of (f ∷ rest)) target
        leads = subst (λ (xs : List PlainRide). Leads T journey.0 (map ride_of xs) target) e journey.2.0

        onto : map ride_of (f ∷ rest) ≡ rev_onto back (last ∷ [])
        onto = ap (λ (xs : List PlainRide). map ride_of xs) (sym e) ∙ are_onto

        last_is : last_ride (ride_of f) (map ride_of rest) ≡ last
        last_is = ap (λ xs. last_or last xs) onto ∙ last_back back last [] last

        later : (a d : ℤ) (m n : ℕ) → a ≤ℤ (d -ℤ pos n) → m ≤ n → a ≤ℤ (d -ℤ pos m)
        later a d m n h g = omega (arith, ints, h, g)

        at_most : (m s q p : ℕ) → (m < s) ⊎ ((m ≡ s) × (p ≤ q)) → m ≤ s
        at_most m s q p (inl h) = omega (arith, h)
        at_most m s q p (inr h) = omega (arith, h.0)

        leaves : Q.leave ≤ℤ (boarding_time T (ride_of f) -ℤ walk_secs T o (stop_at T f.trip f.board))
        leaves =
            let early : LeavesNoEarlier T Q.leave journey.0 (map ride_of (f ∷ rest)) = subst (λ (xs : List PlainRide). LeavesNoEarlier T Q.leave journey.0 (map ride_of xs)) e journey.2.1 in
            let w = IsSome-some (walk T journey.0 (stop_at T f.trip f.board)) leads.0 in
            later Q.leave (boarding_time T (ride_of f)) (unwrap_or (walk T o (stop_at T f.trip f.board)) 0) (unwrap_or (walk T journey.0 (stop_at T f.trip f.board)) 0) early
            (subst (λ n. unwrap_or (walk T o (stop_at T f.trip f.board)) 0 ≤ n) (sym (secs_is (walk T journey.0 (stop_at T f.trip f.board)) w.0 w.1))
            (at_most (unwrap_or (walk T o (stop_at T f.trip f.board)) 0) w.0 journey.0 o (near_origin.first journey.0 w.0 journey.1 w.1)))

  -- the last ride of a journey, with the rides before it
  pub record IsEnded (v : Value) : Type 0 where
    pub back : List Ride
    pub last : Ride
    pub target : ℕ
    pub rides : suc (length back) ≡ v.rides
    pub boarded : IsBoarded T (IsReadyAfter T Q back) last
    pub to : Contains Q.to target
    pub walks : IsSome (walk T (alighting_stop T last) target)
    pub arrives : v.arrive ≡ (alighting_time T last +ℤ walk_secs T (alighting_stop T last) target)

  on_last : (back : List Ride) (r : Ride) (rest : List Ride) (q : ℕ) (v : Value) → Contains Q.to q → IsBoarded T (IsReadyAfter T Q back) r → LeadsOn T r rest q → suc (length back + length rest) ≡ v.rides → v.arrive ≡ arrival_after T r rest q → IsEnded v
  on_last back r [] q v to b on n e = record { back = back; last = r; target = q; rides = omega (arith, n); boarded = b; to = to; walks = on; arrives = e }
  on_last back r (s ∷ rest) q v to b on n e =
      let c = some_and (λ secs. (alighting_time T r +ℤ pos secs) ≤ℤ boarding_time T s) (change T (alighting_stop T r) (boarding_stop T s)) on.0 in
      on_last (r ∷ back) s rest q v to (record {
        ride = on.1;
        ready = alighting_time T r +ℤ pos c.0;
        at = (b, and_some (λ secs. (alighting_time T r +ℤ pos c.0) ≡ (alighting_time T r +ℤ pos secs)) (change T (alighting_stop T r) (boarding_stop T s)) c.0 c.1 refl);
        in_time = c.2;
      }) on.2 (omega (arith, n)) e

  pub attained-ended : (v : Value) → IsAttained T Q v → 0 < v.rides → IsEnded v
  attained-ended v (j, has) some = by_rides j.origin j.rides j.target has.journey.origin has.journey.target has.journey.leads has.leaves (ap (λ (x : Value). x.rides) has.value) (ap (λ (x : Value). x.arrive) has.value)
    where
      in_time : (a d : ℤ) (n m : ℕ) → a ≤ℤ (d -ℤ pos m) → m ≡ n → (a +ℤ pos n) ≤ℤ d
      in_time a d n m h e = omega (arith, ints, h, e)

      by_rides : (o : ℕ) (rides : List Ride) (q : ℕ) → Contains Q.from o → Contains Q.to q → Leads T o rides q → LeavesNoEarlier T Q.leave o rides → v.rides ≡ length rides → v.arrive ≡ arrival T Q.leave o rides q → IsEnded v
      by_rides o [] q from to leads leaves n e = absurd (omega (arith, n, some))
      by_rides o (r ∷ rest) q from to leads leaves n e =
          let w = IsSome-some (walk T o (boarding_stop T r)) leads.0 in
          on_last [] r rest q v to (record {
            ride = leads.1;
            ready = Q.leave +ℤ pos w.0;
            at = (o, from, and_some (λ secs. (Q.leave +ℤ pos w.0) ≡ (Q.leave +ℤ pos secs)) (walk T o (boarding_stop T r)) w.0 w.1 refl);
            in_time = in_time Q.leave (boarding_time T r) w.0 (unwrap_or (walk T o (boarding_stop T r)) 0) leaves (secs_is (walk T o (boarding_stop T r)) w.0 w.1);
          }) leads.2 (omega (arith, n)) e

  pub attained-walk : (v : Value) → IsAttained T Q v → v.rides ≡ 0 → (o : ℕ) × Contains Q.from o × ((q : ℕ) × Contains Q.to q × IsSomeAnd (walk T o q) (λ secs. v.arrive ≡ (Q.leave +ℤ pos secs)))
  attained-walk v (j, has) none = by_rides j.origin j.rides j.target has.journey.origin has.journey.target has.journey.leads (ap (λ (x : Value). x.rides) has.value) (ap (λ (x : Value). x.arrive) has.value)
    where
      by_rides : (o : ℕ) (rides : List Ride) (q : ℕ) → Contains Q.from o → Contains Q.to q → Leads T o rides q → v.rides ≡ length rides → v.arrive ≡ arrival T Q.leave o rides q → (o : ℕ) × Contains Q.from o × ((q : ℕ) × Contains Q.to q × IsSomeAnd (walk T o q) (λ secs. v.arrive ≡ (Q.leave +ℤ pos secs)))
      by_rides o [] q from to leads n e =
          let w = IsSome-some (walk T o q) leads in
          (o, from, (q, to, and_some (λ secs. v.arrive ≡ (Q.leave +ℤ pos secs)) (walk T o q) w.0 w.1 (e ∙ ap (λ n. Q.leave +ℤ pos n) (secs_is (walk T o q) w.0 w.1))))
      by_rides o (r ∷ rest) q from to leads n e = absurd (omega (arith, n, none))

  -- such a last ride and a walk to a target are a value
  pub ended-attained : (back : List Ride) (last : Ride) → IsBoarded T (IsReadyAfter T Q back) last → (target : ℕ) → Contains Q.to target → (arrive : ℤ) (secs : ℕ) → walk T (alighting_stop T last) target ≡ Some secs → arrive ≡ (alighting_time T last +ℤ pos secs) →
      IsAttained T Q (record { arrive = arrive; rides = suc (length back) })
  ended-attained back last boarded target to arrive secs walks arrives =
      let led = leads_back back last [] target boarded (some-IsSome (walk T (alighting_stop T last) target) secs walks) in (
        record { origin = led.0; rides = rev_onto back (last ∷ []); target = target },
        record {
          journey = record { origin = led.1; target = to; leads = led.2.0 };
          leaves = led.2.1;
          value = same_value arrive (arrival T Q.leave led.0 (rev_onto back (last ∷ [])) target) (suc (length back)) (length (rev_onto back (last ∷ [])))
              (arrives ∙ ap (λ n. alighting_time T last +ℤ pos n) (sym (secs_is (walk T (alighting_stop T last) target) secs walks)) ∙ sym (arrival_back back last [] led.0 target))
              (omega (arith, length_back back (last ∷ [])));
        },
      )
    where
      same_value : (a a' : ℤ) (n n' : ℕ) → a ≡ a' → n ≡ n' → ◌≡◌ {A = Value} (record { arrive = a; rides = n }) (record { arrive = a'; rides = n' })
      same_value a a' n n' e f = cc
