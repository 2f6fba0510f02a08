-- The candidates are sufficient: no footpath law is needed.
use Rattle.std.proofs.Common.{◌≡◌, ℕ, ◌<◌, ◌≤◌, ◌+◌, ◌⊎◌, inl, inr, List, [], ◌∷◌, ◌++◌, length, ◌==◌, ◌&&◌, ◌||◌, Bool, true, false, cond, refl, sym, ap, subst, ◌∙◌, arith, ℤ, pos, ◌+ℤ◌, ◌≤ℤ◌, Option, Some, None, length-append}
use Rattle.std.specs.Prelude.{int_le, nat_lt, Contains, AllPairs, slice_index_or, IsSomeAnd, flat_map, filter_map}
use Rattle.std.specs.List.{list_any, concat}
use Rattle.std.specs.Option.{option_and_then}
use Rattle.std.proofs.lemmas.Option.{option_and_then_some}
use Rattle.std.proofs.lemmas.List.Elements.{All-contains}
use Rattle.std.proofs.lemmas.Bool.{eq-eqb, and_from, lt-ltb, leb-true, ltb-true, and_parts}
use Rattle.tb_base.specs.declared.transfer.Hop.{Hop}
use Rattle.tb_base.specs.TimetableData.{TimetableData, no_event, events_of, event_at, stop_at, arrival_at, departure_at, MayBoard, MayAlight, no_trip}
use Rattle.tb_base.specs.Walking.{change}
use Rattle.tb_base.specs.Soundness.{IsSound, IsSoundTrip}
use Rattle.tb_base.specs.Journeys.{Ride, IsRide, LeadsOn, Leads, LeavesNoEarlier, boarding_stop, boarding_time, alighting_stop, alighting_time}
use Rattle.tb_base.specs.Lines.{AreDividedInto}
use Rattle.tb_base.specs.Transfers.{candidates, hop_onto, boarding_indexes, may_be_boarded, is_own_line_onward, line_from, earliest_trip, numbers_below}
use Rattle.tb_base.specs.Sufficiency.{IsPossibleHop, DoesAsWell, SavesARide, GoesByHop, AreSufficient}
use Rattle.tb_base.proofs.Events.{MayBoard-inside, MayAlight-inside}
use Rattle.tb_base.proofs.Ordered.{Member, Member-from_Contains, Contains-from_Member, AllPairs-head, AllPairs-tail}
use Rattle.tb_base.proofs.Members.{find_first, find_found, Member-flat_map, Member-flat_map_back, Member-filter, Member-filter_back, Member-filter_map, Member-filter_map_back, Member-numbers_below}
use Rattle.tb_base.proofs.LineFacts.{IsTripNoLater, MayFollow, no_later, first_no_later, line_of}
use Rattle.tb_laws.proofs.Exchange.{change_in, ≤ℤ-refl, ≤ℤ-trans, AlightsAs, LeadsOn-alights, arrival_after-alights, Leads-at, replaced}
use Rattle.tb_base.proofs.NumberFacts.{le-int_le, int_le-true}

-- what is known of a number that is there
pub some_and : (P : ℕ → Type 0) (o : Option ℕ) → IsSomeAnd o P → (n : ℕ) × (o ≡ Some n) × P n
some_and P None h = absurd h
some_and P (Some n) h = (n, refl, h)

pub and_some : (P : ℕ → Type 0) (o : Option ℕ) (n : ℕ) → o ≡ Some n → P n → IsSomeAnd o P
and_some P o n e h = subst (λ x. IsSomeAnd x P) (sym e) h

module _ (T : TimetableData) (sound : IsSound T) where
  -- an event of a trip is at a stop of the table
  pub stop_inside : (t i : ℕ) → t < length T.trips → i < length (events_of T t) → stop_at T t i < length T.stops
  stop_inside t i trip event =
      let s : IsSoundTrip (length T.stops) (slice_index_or T.trips t no_trip) = sound.trip t no_trip trip in
      (s.events i no_event event).stop

-- t@i onto a line at j: the first trip in time is hopped onto, unless staying does as well
hop_onto-is : (T : TimetableData) (t i j c u : ℕ) (line : List ℕ) → change T (stop_at T t i) (stop_at T (slice_index_or line 0 0) j) ≡ Some c →
    earliest_trip T line j (arrival_at T t i +ℤ pos c) ≡ Some u → is_own_line_onward line t i u j ≡ false → hop_onto T t i line j ≡ Some (record { trip = u; at = j })
hop_onto-is T t i j c u line changes first moves =
    ap (option_and_then (λ secs. option_and_then (λ v. cond (is_own_line_onward line t i v j) None (Some (record { trip = v; at = j }))) (earliest_trip T line j (arrival_at T t i +ℤ pos secs)))) changes
    ∙ (ap (option_and_then (λ v. cond (is_own_line_onward line t i v j) None (Some (record { trip = v; at = j })))) first
    ∙ ap (λ b. cond b None (Some (record { trip = u; at = j }))) moves)

-- a trip that stands on the part of a line from t on is t or a later one
from_trip_follows : (R : ℕ → ℕ → Type 0) (line : List ℕ) (t u : ℕ) → AllPairs R line → list_any (λ x. x == u) (line_from t line) ≡ true → (t ≡ u) ⊎ R t u
from_trip_follows R [] t u pairs h = cc
from_trip_follows R (x ∷ xs) t u pairs h = by_test (λ k. from_trip_follows R xs t u (AllPairs-tail R x xs pairs) k) (x == t) refl h
  where
    member : (xs : List ℕ) → list_any (λ x. x == u) xs ≡ true → Member u xs
    member [] h = cc
    member (x ∷ xs) h = one (λ k. member xs k) (x == u) refl h
      where
        one : (list_any (λ x. x == u) xs ≡ true → Member u xs) → (b : Bool) → b ≡ (x == u) → (b || list_any (λ x. x == u) xs) ≡ true → Member u (x ∷ xs)
        one more true e h = inl (let f : x ≡ u = grind (arith, e) in f)
        one more false e h = inr (more h)

    by_test : (list_any (λ x. x == u) (line_from t xs) ≡ true → (t ≡ u) ⊎ R t u) → (b : Bool) → b ≡ (x == t) → list_any (λ x. x == u) (cond b (x ∷ xs) (line_from t xs)) ≡ true → (t ≡ u) ⊎ R t u
    by_test more true e h = head_first (let f : x ≡ t = grind (arith, e) in f) (member (x ∷ xs) h)
      where
        head_first : x ≡ t → Member u (x ∷ xs) → (t ≡ u) ⊎ R t u
        head_first e (inl f) = inl (sym e ∙ f)
        head_first e (inr k) = inr (subst (λ y. R y u) e (AllPairs-head R x xs pairs u (Contains-from_Member u xs k)))
    by_test more false e h = more h

module _ (T : TimetableData) (lines : List (List ℕ)) (sound : IsSound T) (divided : AreDividedInto T lines) where
  pairs_of : (line : List ℕ) → Member line lines → AllPairs (MayFollow T) line
  pairs_of line h = All-contains (λ l. AllPairs (MayFollow T) l) lines line divided.ordered (Contains-from_Member line lines h)

  -- the earliest trip of a line that leaves in time is a candidate, unless staying does as well
  candidate_of : (t i j c u : ℕ) (line : List ℕ) → 0 < i → MayAlight T t i → Member line lines → Member u line → MayBoard T u j → j + 1 < length (events_of T u) →
      change T (stop_at T t i) (stop_at T u j) ≡ Some c → earliest_trip T line j (arrival_at T t i +ℤ pos c) ≡ Some u → is_own_line_onward line t i u j ≡ false →
      Member (record { trip = u; at = j }) (candidates T lines t i)
  candidate_of t i j c u line later alights of_lines on_line boards not_last changes first moves =
      let like : IsTripNoLater T (slice_index_or line 0 0) u = first_no_later T line u (pairs_of line of_lines) on_line in
      let q : ℕ = stop_at T u j in
      let here : stop_at T (slice_index_or line 0 0) j ≡ stop_at T u j = (like.at j).stop in
      let q_inside : stop_at T u j < length T.stops = stop_inside T sound u j (MayBoard-inside T u j boards).0 (MayBoard-inside T u j boards).1 in
      let long : j + 1 < length (events_of T (slice_index_or line 0 0)) = omega (arith, like.long, not_last) in
      let boarded : may_be_boarded T (slice_index_or line 0 0) j ≡ true = and_from _ _ ((like.at j).board ∙ boards) (lt-ltb _ _ long) in
      let hop : hop_onto T t i line j ≡ Some (record { trip = u; at = j }) = hop_onto-is T t i j c u line (ap (change T (stop_at T t i)) here ∙ changes) first moves in
      let at_index : Member j (boarding_indexes T line q) = in_boarding_indexes line j q on_line (eq-eqb _ _ here) boarded (omega (arith, long)) in
      let by_lines : Member (record { trip = u; at = j }) (flat_map (λ line. filter_map (λ j. hop_onto T t i line j) (boarding_indexes T line q)) lines)
      = Member-flat_map (λ line. filter_map (λ j. hop_onto T t i line j) (boarding_indexes T line q)) line _ lines of_lines (Member-filter_map (λ j. hop_onto T t i line j) j _ (boarding_indexes T line q) at_index hop) in
      let by_stops : Member (record { trip = u; at = j }) (flat_map (λ q. flat_map (λ line. filter_map (λ j. hop_onto T t i line j) (boarding_indexes T line q)) lines) (numbers_below (length T.stops)))
      = Member-flat_map (λ q. flat_map (λ line. filter_map (λ j. hop_onto T t i line j) (boarding_indexes T line q)) lines) q _ (numbers_below (length T.stops)) (Member-numbers_below q (length T.stops) q_inside) by_lines in
      subst (λ b. Member (record { trip = u; at = j }) (cond b (flat_map (λ q. flat_map (λ line. filter_map (λ j. hop_onto T t i line j) (boarding_indexes T line q)) lines) (numbers_below (length T.stops))) []))
      (sym (and_from (nat_lt 0 i) (event_at T t i).alight (lt-ltb 0 i later) alights)) by_stops
    where
      in_boarding_indexes : (line : List ℕ) (j q : ℕ) → Member u line → (stop_at T (slice_index_or line 0 0) j == q) ≡ true → may_be_boarded T (slice_index_or line 0 0) j ≡ true → j < length (events_of T (slice_index_or line 0 0)) → Member j (boarding_indexes T line q)
      in_boarding_indexes [] j q h s b l = absurd h
      in_boarding_indexes (x ∷ xs) j q h s b l = Member-filter (λ j. (stop_at T x j == q) && may_be_boarded T x j) j (numbers_below (length (events_of T x))) (Member-numbers_below j _ l) (and_from _ _ s b)

  -- from the same event of r by a candidate, and then as before
  pub record GoesByCandidate (asked : ℤ) (origin target : ℕ) (before : List Ride) (r s : Ride) (after : List Ride) : Type 0 where
    pub next : Ride
    pub in_set : Contains (candidates T lines r.trip r.alight) (record { trip = next.trip; at = next.board })
    pub as_well : DoesAsWell T asked origin target (before ++ r ∷ s ∷ after) (before ++ r ∷ next ∷ after)

  -- wherever a journey changes, it may stay on its trip, or go by a candidate
  pub candidates_step : (asked : ℤ) (origin target : ℕ) (before : List Ride) (r s : Ride) (after : List Ride) →
      Leads T origin (before ++ r ∷ s ∷ after) target → LeavesNoEarlier T asked origin (before ++ r ∷ s ∷ after) →
      SavesARide T (change_in asked origin target before r s after) ⊎ GoesByCandidate asked origin target before r s after
  candidates_step asked origin target before r s after leads leaves =
      let at_r : IsRide T r × LeadsOn T r (s ∷ after) target = Leads-at T origin before r (s ∷ after) target leads in
      let changing = some_and (λ secs. (alighting_time T r +ℤ pos secs) ≤ℤ boarding_time T s) _ at_r.1.0 in
      let s_rides : IsRide T s = at_r.1.1 in
      let s_on : LeadsOn T s after target = at_r.1.2 in
      let on_line = line_of lines s.trip (Member-from_Contains s.trip (concat lines) (divided.complete s.trip (MayBoard-inside T s.trip s.board s_rides.boards).0)) in
      let of_lines : Member on_line.0 lines = on_line.1 in
      let found = find_first (MayFollow T) (λ u. int_le (arrival_at T r.trip r.alight +ℤ pos changing.0) (departure_at T u s.board)) on_line.0 s.trip
      (pairs_of on_line.0 of_lines) on_line.2 (le-int_le _ _ changing.2) in
      let like : IsTripNoLater T found.0 s.trip = no_later T found.0 s.trip found.4 in
      by_test at_r.0 s_rides s_on on_line.0 of_lines changing.0 changing.1 found.0 found.1 found.2 (int_le-true _ _ found.3) like (is_own_line_onward on_line.0 r.trip r.alight found.0 s.board) refl
    where
      by_test : IsRide T r → IsRide T s → LeadsOn T s after target → (line : List ℕ) → Member line lines → (c : ℕ) → change T (alighting_stop T r) (boarding_stop T s) ≡ Some c → (u : ℕ) →
          earliest_trip T line s.board (arrival_at T r.trip r.alight +ℤ pos c) ≡ Some u → Member u line → (arrival_at T r.trip r.alight +ℤ pos c) ≤ℤ departure_at T u s.board →
          IsTripNoLater T u s.trip → (b : Bool) → b ≡ is_own_line_onward line r.trip r.alight u s.board →
          SavesARide T (change_in asked origin target before r s after) ⊎ GoesByCandidate asked origin target before r s after
      by_test r_rides s_rides s_on line of_lines c changes u first on_line in_time like true e =
          let tests = and_parts _ _ (sym e) in
          let after_i : r.alight ≤ s.board = leb-true _ _ tests.1 in
          let own : IsTripNoLater T r.trip u = no_later T r.trip u (from_trip_follows (MayFollow T) line r.trip u (pairs_of line of_lines) tests.0) in
          let stay : Ride = record { trip = r.trip; board = r.board; alight = s.alight } in
          let ends : AlightsAs T s stay = record {
            stop = sym ((own.at s.alight).stop ∙ (like.at s.alight).stop);
            time = ≤ℤ-trans _ _ _ (own.at s.alight).arr (like.at s.alight).arr;
          } in
          let rides : IsRide T stay = record {
            onward = omega (arith, r_rides.onward, after_i, s_rides.onward);
            boards = r_rides.boards;
            alights = (own.at s.alight).alight ∙ ((like.at s.alight).alight ∙ s_rides.alights);
          } in
          inl (record {
            new = before ++ stay ∷ after;
            fewer = omega (arith, length-append before (stay ∷ after), length-append before (r ∷ s ∷ after));
            as_well = replaced T asked origin before r stay (s ∷ after) after target (record { stop = refl; time = ≤ℤ-refl _ }) rides
                (LeadsOn-alights T s stay after target ends s_on) (arrival_after-alights T s stay after target ends) leads leaves;
          })
      by_test r_rides s_rides s_on line of_lines c changes u first on_line in_time like false e =
          let next : Ride = record { trip = u; board = s.board; alight = s.alight } in
          let inside : s.alight < length (events_of T s.trip) = (MayAlight-inside T s.trip s.alight s_rides.alights).1 in
          let ends : AlightsAs T s next = record { stop = sym (like.at s.alight).stop; time = (like.at s.alight).arr } in
          let there : boarding_stop T s ≡ boarding_stop T next = sym (like.at s.board).stop in
          let changes' : change T (alighting_stop T r) (boarding_stop T next) ≡ Some c = subst (λ q. change T (alighting_stop T r) q ≡ Some c) there changes in
          let boards : MayBoard T u s.board = (like.at s.board).board ∙ s_rides.boards in
          let rides : IsRide T next = record { onward = s_rides.onward; boards = boards; alights = (like.at s.alight).alight ∙ s_rides.alights } in
          let not_last : s.board + 1 < length (events_of T u) = omega (arith, inside, like.long, s_rides.onward) in
          inr (record {
            next = next;
            in_set = Contains-from_Member _ (candidates T lines r.trip r.alight)
                (candidate_of r.trip r.alight s.board c u line (omega (arith, r_rides.onward)) r_rides.alights of_lines on_line boards not_last changes' first (sym e));
            as_well = replaced T asked origin before r r (s ∷ after) (next ∷ after) target (record { stop = refl; time = ≤ℤ-refl _ }) r_rides
                (and_some (λ secs. (alighting_time T r +ℤ pos secs) ≤ℤ boarding_time T next) _ c changes' in_time, rides, LeadsOn-alights T s next after target ends s_on)
                (arrival_after-alights T s next after target ends) leads leaves;
          })

  pub candidates_enough : (asked : ℤ) (origin target : ℕ) (before : List Ride) (r s : Ride) (after : List Ride) →
      Leads T origin (before ++ r ∷ s ∷ after) target → LeavesNoEarlier T asked origin (before ++ r ∷ s ∷ after) →
      SavesARide T (change_in asked origin target before r s after) ⊎ GoesByHop T (candidates T lines) (change_in asked origin target before r s after)
  candidates_enough asked origin target before r s after leads leaves =
      elim (candidates_step asked origin target before r s after leads leaves) [
        | inl saves ↦ inl saves
        | inr goes ↦ inr (record {
          at = r.alight;
          hop = record { trip = goes.next.trip; at = goes.next.board };
          until = goes.next.alight;
          others = after;
          onward = (Leads-at T origin before r (s ∷ after) target leads).0.onward;
          in_set = goes.in_set;
          as_many = refl;
          as_well = goes.as_well;
        })
      ]

module _ (T : TimetableData) (lines : List (List ℕ)) (divided : AreDividedInto T lines) where
  -- what a hop onto a line at one of its boarding indexes is
  hop_possible : (t i j q : ℕ) (line : List ℕ) (h : Hop) → 0 < i → MayAlight T t i → AllPairs (MayFollow T) line → Member j (boarding_indexes T line q) → hop_onto T t i line j ≡ Some h → IsPossibleHop T t i h
  hop_possible t i j q [] h later alights pairs boarded hop = absurd boarded
  hop_possible t i j q (x ∷ xs) h later alights pairs boarded hop =
      option_and_then_some (λ secs. option_and_then (λ v. cond (is_own_line_onward (x ∷ xs) t i v j) None (Some (record { trip = v; at = j }))) (earliest_trip T (x ∷ xs) j (arrival_at T t i +ℤ pos secs)))
      (change T (stop_at T t i) (stop_at T x j)) h hop
      (λ c changes rest. option_and_then_some (λ v. cond (is_own_line_onward (x ∷ xs) t i v j) None (Some (record { trip = v; at = j })))
      (earliest_trip T (x ∷ xs) j (arrival_at T t i +ℤ pos c)) h rest
      (λ u first moves. by_parts c u changes first (only (is_own_line_onward (x ∷ xs) t i u j) u moves)))
    where
      only : (b : Bool) (u : ℕ) → cond b None (Some (record { trip = u; at = j })) ≡ Some h → record { trip = u; at = j } ≡ h
      only true u e = cc
      only false u e = cc

      by_parts : (c u : ℕ) → change T (stop_at T t i) (stop_at T x j) ≡ Some c → earliest_trip T (x ∷ xs) j (arrival_at T t i +ℤ pos c) ≡ Some u → record { trip = u; at = j } ≡ h → IsPossibleHop T t i h
      by_parts c u changes first is =
          let found = find_found (λ u. int_le (arrival_at T t i +ℤ pos c) (departure_at T u j)) (x ∷ xs) u first in
          let like : IsTripNoLater T x u = first_no_later T (x ∷ xs) u pairs found.0 in
          let tests = and_parts (event_at T x j).board (nat_lt (j + 1) (length (events_of T x))) (and_parts (stop_at T x j == q) (may_be_boarded T x j) (Member-filter_back (λ j. (stop_at T x j == q) && may_be_boarded T x j) j (numbers_below (length (events_of T x))) boarded).1).1 in
          subst (λ h. IsPossibleHop T t i h) is (record {
            later = later;
            not_last = (let below : j + 1 < length (events_of T x) = ltb-true _ _ tests.1 in omega (arith, below, like.long));
            alights = alights;
            boards = sym (like.at j).board ∙ tests.0;
            in_time = and_some (λ secs. (arrival_at T t i +ℤ pos secs) ≤ℤ departure_at T u j) _ c (ap (change T (stop_at T t i)) (sym (like.at j).stop) ∙ changes) (int_le-true _ _ found.1);
          })

  pub candidates_possible : (t i : ℕ) (h : Hop) → Contains (candidates T lines t i) h → IsPossibleHop T t i h
  candidates_possible t i h contains = by_test (nat_lt 0 i && (event_at T t i).alight) refl (Member-from_Contains h (candidates T lines t i) contains)
    where
      by_test : (b : Bool) → b ≡ (nat_lt 0 i && (event_at T t i).alight) → Member h (cond b (flat_map (λ q. flat_map (λ line. filter_map (λ j. hop_onto T t i line j) (boarding_indexes T line q)) lines) (numbers_below (length T.stops))) []) → IsPossibleHop T t i h
      by_test false e k = absurd k
      by_test true e k =
          let tests = and_parts _ _ (sym e) in
          let at_stop = Member-flat_map_back (λ q. flat_map (λ line. filter_map (λ j. hop_onto T t i line j) (boarding_indexes T line q)) lines) h (numbers_below (length T.stops)) k in
          let of_line = Member-flat_map_back (λ line. filter_map (λ j. hop_onto T t i line j) (boarding_indexes T line at_stop.0)) h lines at_stop.2 in
          let at_index = Member-filter_map_back (λ j. hop_onto T t i of_line.0 j) h (boarding_indexes T of_line.0 at_stop.0) of_line.2 in
          hop_possible t i at_index.0 at_stop.0 of_line.0 h (ltb-true _ _ tests.0) tests.1
          (All-contains (λ l. AllPairs (MayFollow T) l) lines of_line.0 divided.ordered (Contains-from_Member of_line.0 lines of_line.1)) at_index.1 at_index.2

-- The candidates are sufficient.
pub candidates_sufficient : (T : TimetableData) (lines : List (List ℕ)) → IsSound T → AreDividedInto T lines → AreSufficient T (candidates T lines)
candidates_sufficient T lines sound divided = record {
  possible = candidates_possible T lines divided;
  enough = λ c journey. candidates_enough T lines sound divided c.asked c.origin c.target c.before c.left c.boarded c.after journey.leads journey.leaves;
}
