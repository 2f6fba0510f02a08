-- Rides along a chain of parents, from the last one back.
use Rattle.std.proofs.Common.{◌≡◌, ℕ, suc, ◌<◌, ◌≤◌, ◌+◌, inl, inr, List, [], ◌∷◌, ◌++◌, length, reverse, filter_map, refl, sym, ap, subst, ◌∙◌, arith, Option, None, Some, ℤ, pos, ◌+ℤ◌, ◌-ℤ◌, ◌≤ℤ◌}
use Rattle.std.specs.Prelude.{Contains, IsSome, unwrap_or}
use Rattle.std.proofs.lemmas.Int.{ints}
use Rattle.std.proofs.lemmas.List.{append_assoc, append-nil, reverse-append}
use Rattle.tb_base.specs.declared.query.Leg.{Leg}
use Rattle.tb_base.specs.declared.query.Leg.TheVariants.{Ride as RideLeg}
use Rattle.tb_base.specs.declared.query.Value.{Value}
use Rattle.tb_base.specs.declared.transfer.Hop.{Hop}
use Rattle.tb_base.specs.TimetableData.{TimetableData, stop_at, arrival_at, departure_at, MayBoard}
use Rattle.tb_base.specs.Walking.{walk}
use Rattle.tb_base.specs.Journeys.{Ride, IsRide, LeadsOn, walk_secs, arrival_after, alighting_stop, alighting_time}
use Rattle.tb_base.specs.BestValues.{QueryData}
use Rattle.tb_base.specs.JourneyRules.{walk_legs, legs_after, legs_of}
use Rattle.segment_queue.specs.declared.desk.Segment.{Segment}
use Rattle.segment_queue.specs.declared.desk.LastLeg.TheVariants.{OnFoot, Aboard}
use Rattle.segment_queue.specs.Queue.{DeskData}
use Rattle.segment_queue.specs.Traced.{IsBoardedFirst, IsEntered, IsHoppedOnto, IsRideHit, IsTraced, IsWalkHit, LegsFollow, RidesFollow, UsesHops, ride_of_leg, round_of, segment_of}
use Rattle.plain_rounds.specs.Shown.{IsNearest, last_ride}
use Rattle.tb_laws.proofs.UTurnLaws.{some}
use Rattle.segment_queue.proofs.Rounds.{round_behind}
use Rattle.journey_unfold.specs.Unfolded.{IsChain, SpellEnding, ride_in}
use Rattle.journey_unfold.proofs.Spelling.{reverse-ridden, reverse-walked, rides-of}
use Rattle.tb_base.proofs.Lists.{some-IsSome}
use Rattle.tb_base.proofs.Values.{same_value, value_is}

-- how many segments there may be up to this one
abbrev pub height : Option (ℕ × ℕ) → ℕ
height None = 0
height (Some p) = suc p.0

-- the seconds to the nearest are no more than those of another
no_more : (secs_to : ℕ → Option ℕ) (stops : List ℕ) (p q s : ℕ) → IsNearest secs_to stops p → Contains stops q → secs_to q ≡ Some s → unwrap_or (secs_to p) 0 ≤ s
no_more secs_to stops p q s near among is = elim (near.first q s among is) [ inl h ↦ omega (arith, h) | inr h ↦ omega (arith, h.0) ]

-- a journey arrives as its last ride does
arrival-last : (T : TimetableData) (r : Ride) (rest : List Ride) (target : ℕ) →
    arrival_after T r rest target ≡ alighting_time T (last_ride r rest) +ℤ walk_secs T (alighting_stop T (last_ride r rest)) target
arrival-last T r [] target = refl
arrival-last T r (s ∷ rest) target = arrival-last T s rest target

in_time : (asked d : ℤ) (m n : ℕ) → m ≤ n → (asked +ℤ pos n) ≤ℤ d → asked ≤ℤ (d -ℤ pos m)
in_time asked d m n h k = omega (arith, ints, h, k)

module _ (T : TimetableData) (D : DeskData) where
  -- The legs so far, the last one first, are those behind a walk to the target, by the chain of parents from index i of segment e back to the segment.
  pub record IsUnder (Q : QueryData) (e i : ℕ) (segment : Segment) (done : List Leg) : Type 0 where
    pub target : ℕ
    pub near : IsNearest (λ q. walk T (stop_at T (segment_of D.segments e).trip i) q) Q.to target
    pub n : ℕ
    pub inside : n < length D.segments
    pub is : segment ≡ segment_of D.segments n
    pub at : ℕ
    pub rest : List Ride
    pub ride : IsRide T (ride_in D.segments n at)
    pub on : LeadsOn T (ride_in D.segments n at) rest target
    pub legs : reverse done ≡ RideLeg (segment_of D.segments n).trip (segment_of D.segments n).board at ∷ legs_after T (ride_in D.segments n at) rest target
    pub rounds : round_of D.segments n + length rest ≡ round_of D.segments e
    pub last : last_ride (ride_in D.segments n at) rest ≡ ride_in D.segments e i
    pub chain : (back : List Ride) → IsChain D.segments (Some (n, at)) back → IsChain D.segments (Some (e, i)) (reverse rest ++ back)
    pub follows : (hops : ℕ → ℕ → List Hop) → UsesHops hops D.segments → RidesFollow hops (ride_in D.segments n at ∷ rest)

module _ (T : TimetableData) (Q : QueryData) (D : DeskData) (traced : IsTraced T Q D) where
  abbrev seg : ℕ → Segment
  seg n = segment_of D.segments n

  -- how a segment is boarded
  entered_by : (n : ℕ) → n < length D.segments → (o : Option (ℕ × ℕ)) → (seg n).parent ≡ o → IsEntered T Q D.segments n o (seg n).trip (seg n).board
  entered_by n inside o is = subst (λ p. IsEntered T Q D.segments n p (seg n).trip (seg n).board) is (traced.entered n inside)

  boards : (n : ℕ) → n < length D.segments → MayBoard T (seg n).trip (seg n).board
  boards n inside = by_parent (seg n).parent (traced.entered n inside)
    where
      by_parent : (o : Option (ℕ × ℕ)) → IsEntered T Q D.segments n o (seg n).trip (seg n).board → MayBoard T (seg n).trip (seg n).board
      by_parent None h = h.boards
      by_parent (Some p) h = h.possible.boards

  -- the last ride
  pub under-first : (e i target to : ℕ) (v : Value) → IsRideHit T Q D.segments e i to v.arrive v.rides → (segment : Segment) → segment ≡ seg e → (end : ℕ) → end ≡ stop_at T segment.trip i → IsNearest (λ q. walk T end q) Q.to target →
      (none done : List Leg) → none ≡ [] → done ≡ (none ++ walk_legs T end target) ++ RideLeg segment.trip segment.board i ∷ [] → IsUnder T D Q e i segment done
  under-first e i target to v hit segment is end end_is near none done none_is done_is =
      let there : end ≡ stop_at T (seg e).trip i = end_is ∙ ap (λ (s : Segment). stop_at T s.trip i) is in
      let leg : ◌≡◌ {A = Leg} (RideLeg segment.trip segment.board i) (RideLeg (seg e).trip (seg e).board i) = ap (λ (s : Segment). RideLeg s.trip s.board i) is in
      record {
        target = target;
        near = subst (λ p. IsNearest (λ q. walk T p q) Q.to target) there near;
        n = e;
        inside = hit.inside;
        is = is;
        at = i;
        rest = [];
        ride = record { onward = hit.onward; boards = boards e hit.inside; alights = hit.alights };
        on = subst (λ p. IsSome (walk T p target)) there near.walks;
        legs = ap reverse done_is
            ∙ reverse-ridden T none end target (RideLeg segment.trip segment.board i)
            ∙ ap (λ xs. RideLeg segment.trip segment.board i ∷ (walk_legs T end target ++ reverse xs)) none_is
            ∙ ap (λ xs. RideLeg segment.trip segment.board i ∷ xs) (append-nil (walk_legs T end target))
            ∙ ap (λ l. l ∷ walk_legs T end target) leg
            ∙ ap (λ p. RideLeg (seg e).trip (seg e).board i ∷ walk_legs T p target) there;
        rounds = omega arith;
        last = refl;
        chain = λ back h. h;
        follows = λ hops uses. tt;
      }

  -- one ride further back
  module _ (e i : ℕ) (segment : Segment) (done : List Leg) (u : IsUnder T D Q e i segment done) (p : ℕ × ℕ) (parent : segment.parent ≡ Some p) where
    parent_is : (seg u.n).parent ≡ Some p
    parent_is = ap (λ (s : Segment). s.parent) (sym u.is) ∙ parent

    hopped : IsHoppedOnto T D.segments u.n p (seg u.n).trip (seg u.n).board
    hopped = entered_by u.n u.inside (Some p) parent_is

    parent-inside : p.0 < length D.segments
    parent-inside = omega (arith, hopped.earlier, u.inside)

    pub under-more : (before : Segment) → before ≡ seg p.0 → (change boarded : ℕ) → change ≡ stop_at T before.trip p.1 → boarded ≡ stop_at T segment.trip segment.board →
        (new : List Leg) → new ≡ (done ++ walk_legs T change boarded) ++ RideLeg before.trip before.board p.1 ∷ [] → IsUnder T D Q e i before new
    under-more before before_is change boarded change_is boarded_is new new_is =
        let r : Ride = ride_in D.segments u.n u.at in
        let leg : Leg = RideLeg (seg p.0).trip (seg p.0).board p.1 in
        let leg_is : ◌≡◌ {A = Leg} (RideLeg before.trip before.board p.1) leg = ap (λ (s : Segment). RideLeg s.trip s.board p.1) before_is in
        let there : change ≡ stop_at T (seg p.0).trip p.1 = change_is ∙ ap (λ (s : Segment). stop_at T s.trip p.1) before_is in
        let here : boarded ≡ stop_at T (seg u.n).trip (seg u.n).board = boarded_is ∙ ap (λ (s : Segment). stop_at T s.trip s.board) u.is in
        record {
          target = u.target;
          near = u.near;
          n = p.0;
          inside = parent-inside;
          is = before_is;
          at = p.1;
          rest = r ∷ u.rest;
          ride = record { onward = hopped.onward; boards = boards p.0 parent-inside; alights = hopped.possible.alights };
          on = (hopped.possible.in_time, u.ride, u.on);
          legs = ap reverse new_is
              ∙ reverse-ridden T done change boarded (RideLeg before.trip before.board p.1)
              ∙ ap (λ l. l ∷ (walk_legs T change boarded ++ reverse done)) leg_is
              ∙ ap (λ q. leg ∷ (walk_legs T q boarded ++ reverse done)) there
              ∙ ap (λ q. leg ∷ (walk_legs T (stop_at T (seg p.0).trip p.1) q ++ reverse done)) here
              ∙ ap (λ xs. leg ∷ (walk_legs T (stop_at T (seg p.0).trip p.1) (stop_at T (seg u.n).trip (seg u.n).board) ++ xs)) u.legs;
          rounds = omega (arith, u.rounds, round_behind D.segments u.n u.inside (Some p) parent_is hopped.earlier);
          last = u.last;
          chain = λ back h.
              subst (λ xs. IsChain D.segments (Some (e, i)) xs)
              (sym (append_assoc (reverse u.rest) (r ∷ []) back) ∙ ap (λ xs. xs ++ back) (sym (reverse-append (r ∷ []) u.rest)))
              (u.chain (r ∷ back) (refl, subst (λ o. IsChain D.segments o back) (sym parent_is) h));
          follows = λ hops uses. (uses u.n p u.inside parent_is, u.follows hops uses);
        }

  -- the first ride
  module _ (e i : ℕ) (segment : Segment) (done : List Leg) (u : IsUnder T D Q e i segment done) where
    module _ (none : segment.parent ≡ None) (start : ℕ) (start_is : start ≡ stop_at T segment.trip segment.board) where
      here : start ≡ stop_at T (seg u.n).trip (seg u.n).board
      here = start_is ∙ ap (λ (s : Segment). stop_at T s.trip s.board) u.is

      none_is : (seg u.n).parent ≡ None
      none_is = ap (λ (s : Segment). s.parent) (sym u.is) ∙ none

      boarded : IsBoardedFirst T Q (seg u.n).trip (seg u.n).board
      boarded = entered_by u.n u.inside None none_is

      -- an origin has a walk
      pub under-walk : (q secs : ℕ) × Contains Q.from q × (walk T q start ≡ Some secs)
      under-walk = (boarded.origin, boarded.secs, boarded.from, subst (λ p. walk T boarded.origin p ≡ Some boarded.secs) (sym here) boarded.walks)

      module _ (origin : ℕ) (near_from : IsNearest (λ o. walk T o start) Q.from origin) (legs : List Leg) (legs_are : legs ≡ reverse (done ++ walk_legs T origin start)) where
        abbrev first : Ride
        first = ride_in D.segments u.n u.at

        spelt : legs ≡ legs_of T origin (first ∷ u.rest) u.target
        spelt = legs_are ∙ reverse-walked T done origin start ∙ ap (λ xs. walk_legs T origin start ++ xs) u.legs
            ∙ ap (λ p. walk_legs T origin p ++ RideLeg (seg u.n).trip (seg u.n).board u.at ∷ legs_after T first u.rest u.target) here

        pub under-follows : (hops : ℕ → ℕ → List Hop) → UsesHops hops D.segments → LegsFollow hops legs
        under-follows hops uses = subst (λ rs. RidesFollow hops rs) (sym (ap (filter_map ride_of_leg) spelt ∙ rides-of T origin (first ∷ u.rest) u.target)) (u.follows hops uses)

        near_here : IsNearest (λ o. walk T o (stop_at T (seg u.n).trip (seg u.n).board)) Q.from origin
        near_here = subst (λ p. IsNearest (λ o. walk T o p) Q.from origin) here near_from

        pub under-all : (to : ℕ) (v : Value) → IsRideHit T Q D.segments e i to v.arrive v.rides → SpellEnding T Q D.segments (Aboard e i to) v legs
        under-all to v hit =
            let last_stop : ℕ = stop_at T (seg e).trip i in
            let w = some (walk T last_stop u.target) u.near.walks in
            let least : unwrap_or (walk T last_stop u.target) 0 ≤ hit.secs = no_more (λ q. walk T last_stop q) Q.to u.target to hit.secs u.near hit.target hit.walks in
            let most : hit.secs ≤ w.0 = hit.nearest u.target w.0 u.near.among w.1 in
            let w_is : unwrap_or (walk T last_stop u.target) 0 ≡ w.0 = ap (λ o. unwrap_or o 0) w.1 in
            let secs : hit.secs ≡ unwrap_or (walk T last_stop u.target) 0 = omega (arith, least, most, w_is) in
            record {
              by = record { origin = origin; rides = first ∷ u.rest; target = u.target };
              has = record {
                journey = record { origin = near_from.among; target = u.near.among; leads = (near_here.walks, u.ride, u.on) };
                leaves = in_time Q.leave (departure_at T (seg u.n).trip (seg u.n).board) (unwrap_or (walk T origin (stop_at T (seg u.n).trip (seg u.n).board)) 0) boarded.secs
                    (no_more (λ o. walk T o (stop_at T (seg u.n).trip (seg u.n).board)) Q.from origin boarded.origin boarded.secs near_here boarded.from boarded.walks) boarded.in_time;
                value = value_is v _ _
                    (hit.arrives ∙ ap (λ s. arrival_at T (seg e).trip i +ℤ pos s) secs
                    ∙ sym (arrival-last T first u.rest u.target ∙ ap (λ (r : Ride). alighting_time T r +ℤ walk_secs T (alighting_stop T r) u.target) u.last))
                    (omega (arith, hit.rounds, u.rounds, round_behind D.segments u.n u.inside None none_is tt));
              };
              spelt = spelt;
              shortest = (near_here, subst (λ (r : Ride). IsNearest (λ q. walk T (alighting_stop T r) q) Q.to u.target) (sym u.last) u.near);
              rides = subst (λ xs. IsChain D.segments (Some (e, i)) xs) (sym (reverse-append (first ∷ []) u.rest))
                  (u.chain (first ∷ []) (refl, subst (λ o. IsChain D.segments o []) (sym none_is) tt));
            }

  -- a walk
  pub walk-ending : (from to : ℕ) (v : Value) (legs : List Leg) → IsWalkHit T Q from to v.arrive v.rides → legs ≡ walk_legs T from to → SpellEnding T Q D.segments (OnFoot from to) v legs
  walk-ending from to v legs hit legs_are = record {
    by = record { origin = from; rides = []; target = to };
    has = record {
      journey = record { origin = hit.origin; target = hit.target; leads = some-IsSome (walk T from to) hit.secs hit.walks };
      leaves = tt;
      value = value_is v _ _ (hit.arrives ∙ ap (λ n. Q.leave +ℤ pos n) (sym (ap (λ o. unwrap_or o 0) hit.walks))) hit.no_ride;
    };
    spelt = legs_are;
    shortest = tt;
    rides = refl;
  }
