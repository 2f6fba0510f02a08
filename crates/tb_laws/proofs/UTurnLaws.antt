-- The candidates without U-turns are sufficient, under the law on footpaths.
use Rattle.std.proofs.Common.{◌≡◌, ℕ, zero, suc, ◌<◌, ◌≤◌, ◌+◌, ◌-◌, ◌⊎◌, inl, inr, List, [], ◌∷◌, ◌++◌, length, ◌==◌, ◌&&◌, not, Bool, true, false, cond, refl, sym, ap, subst, ◌∙◌, arith, ℤ, pos, ◌+ℤ◌, ◌-ℤ◌, ◌≤ℤ◌, Option, Some, None, length-append}
use Rattle.std.specs.Prelude.{int_le, nat_lt, slice_index_or, IsSomeAnd, IsSome, is_some}
use Rattle.std.specs.Option.{option_and_then}
use Rattle.std.proofs.lemmas.Int.{ints}
use Rattle.std.proofs.lemmas.Bool.{eqb-true, and_parts}
use Rattle.tb_base.specs.declared.transfer.Hop.{Hop}
use Rattle.tb_base.specs.TimetableData.{TimetableData, no_event, events_of, event_at, stop_at, arrival_at, departure_at, MayBoard, MayAlight, no_trip}
use Rattle.tb_base.specs.Walking.{walk, change, change_time}
use Rattle.tb_base.specs.Soundness.{IsSound, IsSoundTrip}
use Rattle.tb_base.specs.Journeys.{Ride, IsRide, CanChange, LeadsOn, Leads, LeavesNoEarlier, arrival_after, walk_secs, boarding_stop, boarding_time, alighting_stop, alighting_time}
use Rattle.tb_base.specs.Lines.{AreDividedInto}
use Rattle.tb_base.specs.Transfers.{candidates, candidates_without_u_turns, is_u_turn}
use Rattle.tb_base.specs.Sufficiency.{DoesAsWell, SavesARide, GoesByHop, AreSufficient}
use Rattle.tb_base.proofs.Events.{MayAlight-inside}
use Rattle.tb_base.proofs.Ordered.{Member-from_Contains, Contains-from_Member}
use Rattle.tb_base.proofs.Members.{Member-filter, Member-filter_back}
use Rattle.tb_laws.proofs.Triangles.{change-same, walk_secs-is, change-change, walk-change, change-walk, walk-walk}
use Rattle.tb_laws.proofs.Exchange.{change_in, ≤ℤ-refl, ≤ℤ-trans, AlightsAs, LeadsOn-alights, arrival_after-alights, Leads-at, replaced}
use Rattle.tb_laws.proofs.CandidateLaws.{some_and, and_some, GoesByCandidate, candidates_step, candidates_possible}
use Rattle.tb_base.proofs.NumberFacts.{less_or_same, int_le-true}

pub some : {X : Type 0} (o : Option X) → IsSome o → (n : X) × (o ≡ Some n)
some None h = cc
some (Some n) h = (n, refl)

some_there : (P : ℕ → Type 0) (o : Option ℕ) → IsSomeAnd o P → IsSome o
some_there P None h = absurd h
some_there P (Some n) h = refl

pos_sum : (u s t : ℕ) (x : ℤ) → u ≤ s + t → (x +ℤ pos u) ≤ℤ ((x +ℤ pos s) +ℤ pos t)
pos_sum u s t x h = omega (arith, ints, h)

-- what a U-turn is
pub record IsUTurn (T : TimetableData) (t i : ℕ) (h : Hop) : Type 0 where
  pub stop : stop_at T t (i - 1) ≡ stop_at T h.trip (h.at + 1)
  pub alights : MayAlight T t (i - 1)
  pub boards : MayBoard T h.trip (h.at + 1)
  pub secs : ℕ
  pub changes : change T (stop_at T t (i - 1)) (stop_at T h.trip (h.at + 1)) ≡ Some secs
  pub in_time : (arrival_at T t (i - 1) +ℤ pos secs) ≤ℤ departure_at T h.trip (h.at + 1)

in_time_secs : (a d : ℤ) (o : Option ℕ) → is_some (option_and_then (λ secs. cond (int_le (a +ℤ pos secs) d) (Some secs) None) o) ≡ true → (n : ℕ) × (o ≡ Some n) × ((a +ℤ pos n) ≤ℤ d)
in_time_secs a d None h = cc
in_time_secs a d (Some n) h = (n, refl, by_test (int_le (a +ℤ pos n) d) refl h)
  where
    by_test : (b : Bool) → b ≡ int_le (a +ℤ pos n) d → is_some (cond b (Some n) None) ≡ true → (a +ℤ pos n) ≤ℤ d
    by_test true e h = int_le-true _ _ (sym e)
    by_test false e h = cc

u_turn_parts : (T : TimetableData) (t i : ℕ) (h : Hop) → is_u_turn T t i h ≡ true → IsUTurn T t i h
u_turn_parts T t i h e =
    let before = event_at T t (i - 1) in
    let after = event_at T h.trip (h.at + 1) in
    let last = and_parts (nat_lt 0 i && (before.stop == after.stop) && before.alight && after.board) (is_some (option_and_then (λ secs. cond (int_le (before.arr +ℤ pos secs) after.dep) (Some secs) None) (change_time T.footpaths before.stop))) e in
    let marks = and_parts (nat_lt 0 i && (before.stop == after.stop) && before.alight) after.board last.0 in
    let first = and_parts (nat_lt 0 i && (before.stop == after.stop)) before.alight marks.0 in
    let same = and_parts (nat_lt 0 i) (before.stop == after.stop) first.0 in
    let found = in_time_secs before.arr after.dep (change_time T.footpaths before.stop) last.1 in
    let here : before.stop ≡ after.stop = eqb-true _ _ same.1 in
    record {
      stop = here;
      alights = first.1;
      boards = marks.1;
      secs = found.0;
      changes = subst (λ q. change T before.stop q ≡ Some found.0) here (change-same T before.stop ∙ found.1);
      in_time = found.2;
    }

module _ (T : TimetableData) (sound : IsSound T) where
  sound_trip : (t : ℕ) → t < length T.trips → IsSoundTrip (length T.stops) (slice_index_or T.trips t no_trip)
  sound_trip t h = sound.trip t no_trip h

  -- a trip leaves an event before it reaches a later one, and is not left before it is reached
  pub departs_first : (t b i : ℕ) → t < length T.trips → b < i → i < length (events_of T t) → departure_at T t b ≤ℤ arrival_at T t i
  departs_first t b i trip before inside = (sound_trip t trip).onward b i no_event before inside

  pub waits : (t i : ℕ) → t < length T.trips → i < length (events_of T t) → arrival_at T t i ≤ℤ departure_at T t i
  waits t i trip inside = ((sound_trip t trip).events i no_event inside).waits

  pub ride_onward : (r : Ride) → IsRide T r → boarding_time T r ≤ℤ alighting_time T r
  ride_onward r ride = let inside = MayAlight-inside T r.trip r.alight ride.alights in departs_first r.trip r.board r.alight inside.0 ride.onward inside.1

  -- two rides that lead back to the stop where the first is boarded, and take time
  pub record LeadBack (r s : Ride) : Type 0 where
    pub stop : alighting_stop T s ≡ boarding_stop T r
    pub time : boarding_time T r ≤ℤ alighting_time T s

  -- behind an earlier ride they can be left out
  skip_next : (x r s : Ride) (after : List Ride) (q : ℕ) → LeadBack r s → CanChange T x r → LeadsOn T s after q → LeadsOn T x after q × (arrival_after T x after q ≤ℤ arrival_after T s after q)
  skip_next x r s [] q back changes walks =
      let c = some_and (λ secs. (alighting_time T x +ℤ pos secs) ≤ℤ boarding_time T r) _ changes in
      let w = some (walk T (alighting_stop T s) q) walks in
      let w' : walk T (boarding_stop T r) q ≡ Some w.0 = subst (λ p. walk T p q ≡ Some w.0) back.stop w.1 in
      let joined = some_and (λ u. u ≤ c.0 + w.0) _ (change-walk T sound.law (alighting_stop T x) (boarding_stop T r) q c.0 w.0 c.1 w') in
      let secs : walk_secs T (alighting_stop T x) q ≡ pos joined.0 = walk_secs-is T _ _ _ joined.1 in
      let secs' : walk_secs T (alighting_stop T s) q ≡ pos w.0 = walk_secs-is T _ _ _ w.1 in (
        subst (λ o. IsSome o) (sym joined.1) refl,
        subst (λ z. (alighting_time T x +ℤ z) ≤ℤ arrival_after T s [] q) (sym secs)
            (subst (λ z. (alighting_time T x +ℤ pos joined.0) ≤ℤ (alighting_time T s +ℤ z)) (sym secs')
            (sums (alighting_time T x) (boarding_time T r) (alighting_time T s) c.0 w.0 joined.0 c.2 back.time joined.2)),
      )
    where
      sums : (a d z : ℤ) (c w u : ℕ) → (a +ℤ pos c) ≤ℤ d → d ≤ℤ z → u ≤ c + w → (a +ℤ pos u) ≤ℤ (z +ℤ pos w)
      sums a d z c w u g h k = omega (arith, ints, g, h, k)
  skip_next x r s (y ∷ rest) q back changes on =
      let c = some_and (λ secs. (alighting_time T x +ℤ pos secs) ≤ℤ boarding_time T r) _ changes in
      let w = some_and (λ secs. (alighting_time T s +ℤ pos secs) ≤ℤ boarding_time T y) _ on.0 in
      let w' : change T (boarding_stop T r) (boarding_stop T y) ≡ Some w.0 = subst (λ p. change T p (boarding_stop T y) ≡ Some w.0) back.stop w.1 in
      let joined = some_and (λ u. u ≤ c.0 + w.0) _ (change-change T sound.law (alighting_stop T x) (boarding_stop T r) (boarding_stop T y) c.0 w.0 c.1 w') in (
        (
          and_some (λ secs. (alighting_time T x +ℤ pos secs) ≤ℤ boarding_time T y) _ joined.0 joined.1
              (sums (alighting_time T x) (boarding_time T r) (alighting_time T s) (boarding_time T y) c.0 w.0 joined.0 c.2 back.time w.2 joined.2),
          on.1,
          on.2,
        ),
        ≤ℤ-refl (arrival_after T y rest q),
      )
    where
      sums : (a d z e : ℤ) (c w u : ℕ) → (a +ℤ pos c) ≤ℤ d → d ≤ℤ z → (z +ℤ pos w) ≤ℤ e → u ≤ c + w → (a +ℤ pos u) ≤ℤ e
      sums a d z e c w u g h l k = omega (arith, ints, g, h, l, k)

  skip_behind : (x : Ride) (before : List Ride) (r s : Ride) (after : List Ride) (q : ℕ) → LeadBack r s → LeadsOn T x (before ++ r ∷ s ∷ after) q →
      LeadsOn T x (before ++ after) q × (arrival_after T x (before ++ after) q ≤ℤ arrival_after T x (before ++ r ∷ s ∷ after) q)
  skip_behind x [] r s after q back on = skip_next x r s after q back on.0 on.2.2
  skip_behind x (y ∷ ys) r s after q back on = let k = skip_behind y ys r s after q back on.2 in ((on.0, on.1, k.0), k.1)

  -- at the start of a journey they can be left out
  skip_first : (asked : ℤ) (o : ℕ) (r s : Ride) (after : List Ride) (q : ℕ) → LeadBack r s → IsSome (walk T o (boarding_stop T r)) → LeadsOn T s after q → LeavesNoEarlier T asked o (r ∷ s ∷ after) → DoesAsWell T asked o q (r ∷ s ∷ after) after
  skip_first asked o r s [] q back walks on leaves =
      let c = some (walk T o (boarding_stop T r)) walks in
      let w = some (walk T (alighting_stop T s) q) on in
      let w' : walk T (boarding_stop T r) q ≡ Some w.0 = subst (λ p. walk T p q ≡ Some w.0) back.stop w.1 in
      let joined = some_and (λ u. u ≤ c.0 + w.0) _ (walk-walk T sound.law o (boarding_stop T r) q c.0 w.0 c.1 w') in
      record {
        leads = subst (λ o. IsSome o) (sym joined.1) refl;
        leaves = tt;
        arrives = sums (walk_secs T o q) (walk_secs T (alighting_stop T s) q) (walk_secs T o (boarding_stop T r)) (boarding_time T r) (alighting_time T s) c.0 w.0 joined.0
            (walk_secs-is T _ _ _ joined.1) (walk_secs-is T _ _ _ w.1) (walk_secs-is T _ _ _ c.1) leaves back.time joined.2;
      }
    where
      sums : (x y v d z : ℤ) (c w u : ℕ) → x ≡ pos u → y ≡ pos w → v ≡ pos c → asked ≤ℤ (d -ℤ v) → d ≤ℤ z → u ≤ c + w → (asked +ℤ x) ≤ℤ (z +ℤ y)
      sums x y v d z c w u e f g h k l = rw (e, f) (let h' : asked ≤ℤ (d -ℤ pos c) = rw g at h in omega (arith, ints, h', k, l))
  skip_first asked o r s (y ∷ rest) q back walks on leaves =
      let c = some (walk T o (boarding_stop T r)) walks in
      let w = some_and (λ secs. (alighting_time T s +ℤ pos secs) ≤ℤ boarding_time T y) _ on.0 in
      let w' : change T (boarding_stop T r) (boarding_stop T y) ≡ Some w.0 = subst (λ p. change T p (boarding_stop T y) ≡ Some w.0) back.stop w.1 in
      let joined = some_and (λ u. u ≤ c.0 + w.0) _ (walk-change T sound.law o (boarding_stop T r) (boarding_stop T y) c.0 w.0 c.1 w') in
      record {
        leads = (subst (λ o. IsSome o) (sym joined.1) refl, on.1, on.2);
        leaves = sums (walk_secs T o (boarding_stop T y)) (walk_secs T o (boarding_stop T r)) (boarding_time T r) (alighting_time T s) (boarding_time T y) c.0 w.0 joined.0
            (walk_secs-is T _ _ _ joined.1) (walk_secs-is T _ _ _ c.1) leaves back.time w.2 joined.2;
        arrives = ≤ℤ-refl (arrival_after T y rest q);
      }
    where
      sums : (x v d z e : ℤ) (c w u : ℕ) → x ≡ pos u → v ≡ pos c → asked ≤ℤ (d -ℤ v) → d ≤ℤ z → (z +ℤ pos w) ≤ℤ e → u ≤ c + w → asked ≤ℤ (e -ℤ x)
      sums x v d z e c w u f g h k m l = rw f (let h' : asked ≤ℤ (d -ℤ pos c) = rw g at h in omega (arith, ints, h', k, l, m))

  pub skipped : (asked : ℤ) (o : ℕ) (before : List Ride) (r s : Ride) (after : List Ride) (q : ℕ) → LeadBack r s → Leads T o (before ++ r ∷ s ∷ after) q → LeavesNoEarlier T asked o (before ++ r ∷ s ∷ after) → DoesAsWell T asked o q (before ++ r ∷ s ∷ after) (before ++ after)
  skipped asked o [] r s after q back leads leaves = skip_first asked o r s after q back leads.0 leads.2.2 leaves
  skipped asked o (y ∷ ys) r s after q back leads leaves =
      let k = skip_behind y ys r s after q back leads.2 in
      record { leads = (leads.0, leads.1, k.0); leaves = leaves; arrives = k.1 }

-- Two journeys in turn that do as well.
pub DoesAsWell-trans : (T : TimetableData) (asked : ℤ) (o q : ℕ) (a b c : List Ride) → DoesAsWell T asked o q a b → DoesAsWell T asked o q b c → DoesAsWell T asked o q a c
DoesAsWell-trans T asked o q a b c g h = record { leads = h.leads; leaves = h.leaves; arrives = ≤ℤ-trans _ _ _ h.arrives g.arrives }

pub SavesARide-trans : (T : TimetableData) (asked : ℤ) (o q : ℕ) (before : List Ride) (r s : Ride) (after : List Ride) (r' s' : Ride) (after' : List Ride) →
    length (before ++ r' ∷ s' ∷ after') ≡ length (before ++ r ∷ s ∷ after) → DoesAsWell T asked o q (before ++ r ∷ s ∷ after) (before ++ r' ∷ s' ∷ after') →
    SavesARide T (change_in asked o q before r' s' after') → SavesARide T (change_in asked o q before r s after)
SavesARide-trans T asked o q before r s after r' s' after' long g h = record { new = h.new; fewer = omega (arith, h.fewer, long); as_well = DoesAsWell-trans T asked o q _ _ h.new g h.as_well }

-- the ride r may end elsewhere on its trip, and the rides behind it may differ
pub GoesByHop-trans : (T : TimetableData) (hops : ℕ → ℕ → List Hop) (asked : ℤ) (o q : ℕ) (before : List Ride) (t b i i' : ℕ) (s s' : Ride) (after after' : List Ride) → length after' ≡ length after →
    DoesAsWell T asked o q (before ++ record { trip = t; board = b; alight = i } ∷ s ∷ after) (before ++ record { trip = t; board = b; alight = i' } ∷ s' ∷ after') →
    GoesByHop T hops (change_in asked o q before (record { trip = t; board = b; alight = i' }) s' after') → GoesByHop T hops (change_in asked o q before (record { trip = t; board = b; alight = i }) s after)
GoesByHop-trans T hops asked o q before t b i i' s s' after after' long g h = record {
  at = h.at;
  hop = h.hop;
  until = h.until;
  others = h.others;
  onward = h.onward;
  in_set = h.in_set;
  as_many = h.as_many ∙ long;
  as_well = DoesAsWell-trans T asked o q _ _ _ g h.as_well;
}

-- n is at most m, so less or equal

chain : (a b d e : ℤ) (n : ℕ) → a ≤ℤ b → (b +ℤ pos n) ≤ℤ d → d ≤ℤ e → a ≤ℤ e
chain a b d e n g h k = omega (arith, ints, g, h, k)

module _ (T : TimetableData) (lines : List (List ℕ)) (sound : IsSound T) (divided : AreDividedInto T lines) where
  abbrev Result : ℤ → ℕ → ℕ → List Ride → Ride → Ride → List Ride → Type 0
  Result asked o q before r s after = SavesARide T (change_in asked o q before r s after) ⊎ GoesByHop T (candidates_without_u_turns T lines) (change_in asked o q before r s after)

  -- from t@i to u@j by a U-turn: it can be made one event earlier, or a ride or two can be left out
  u_turn_avoided : (asked : ℤ) (o q : ℕ) (before : List Ride) (r s : Ride) (after : List Ride) → IsUTurn T r.trip r.alight (record { trip = s.trip; at = s.board }) →
      Leads T o (before ++ r ∷ s ∷ after) q → LeavesNoEarlier T asked o (before ++ r ∷ s ∷ after) →
      ((s' : Ride) → DoesAsWell T asked o q (before ++ r ∷ s ∷ after) (before ++ record { trip = r.trip; board = r.board; alight = r.alight - 1 } ∷ s' ∷ after) → Result asked o q before r s after) →
      Result asked o q before r s after
  u_turn_avoided asked o q before r s after turn leads leaves again =
      by_case (less_or_same r.board (r.alight - 1) (omega (arith, r_rides.onward))) (less_or_same (s.board + 1) s.alight (omega (arith, s_rides.onward)))
    where
      at_r : IsRide T r × LeadsOn T r (s ∷ after) q
      at_r = Leads-at T o before r (s ∷ after) q leads

      r_rides : IsRide T r
      r_rides = at_r.0

      s_rides : IsRide T s
      s_rides = at_r.1.1

      by_case : (r.board < r.alight - 1) ⊎ (r.board ≡ r.alight - 1) → (s.board + 1 < s.alight) ⊎ (s.board + 1 ≡ s.alight) → Result asked o q before r s after
      by_case x y = cases x y
        where
          s_on : LeadsOn T s after q
          s_on = at_r.1.2

          r_in : (r.trip < length T.trips) × (r.alight < length (events_of T r.trip))
          r_in = MayAlight-inside T r.trip r.alight r_rides.alights

          s_in : (s.trip < length T.trips) × (s.alight < length (events_of T s.trip))
          s_in = MayAlight-inside T s.trip s.alight s_rides.alights

          rides_on : departure_at T r.trip (r.alight - 1) ≤ℤ alighting_time T r
          rides_on = departs_first T sound r.trip (r.alight - 1) r.alight r_in.0 (omega (arith, r_rides.onward)) r_in.1

          change_of : (n : ℕ) × (change T (alighting_stop T r) (boarding_stop T s) ≡ Some n) × ((alighting_time T r +ℤ pos n) ≤ℤ boarding_time T s)
          change_of = some_and (λ secs. (alighting_time T r +ℤ pos secs) ≤ℤ boarding_time T s) (change T (alighting_stop T r) (boarding_stop T s)) at_r.1.0

          goes_on : boarding_time T s ≤ℤ arrival_at T s.trip (s.board + 1)
          goes_on = departs_first T sound s.trip s.board (s.board + 1) s_in.0 (omega arith) (omega (arith, s_in.1, s_rides.onward))

          goes_off : arrival_at T s.trip (s.board + 1) ≤ℤ departure_at T s.trip (s.board + 1)
          goes_off = waits T sound s.trip (s.board + 1) s_in.0 (omega (arith, s_in.1, s_rides.onward))

          along : departure_at T r.trip (r.alight - 1) ≤ℤ arrival_at T s.trip (s.board + 1)
          along = chain _ _ _ _ change_of.0 rides_on change_of.2 goes_on

          sooner : Ride
          sooner = record { trip = r.trip; board = r.board; alight = r.alight - 1 }

          later : Ride
          later = record { trip = s.trip; board = s.board + 1; alight = s.alight }

          left : arrival_at T r.trip (r.alight - 1) ≤ℤ departure_at T r.trip (r.alight - 1)
          left = waits T sound r.trip (r.alight - 1) r_in.0 (omega (arith, r_in.1))

          ends : s.board + 1 ≡ s.alight → AlightsAs T s sooner
          ends y = record {
            stop = subst (λ a. stop_at T s.trip a ≡ stop_at T r.trip (r.alight - 1)) y (sym turn.stop);
            time = subst (λ a. arrival_at T r.trip (r.alight - 1) ≤ℤ arrival_at T s.trip a) y (≤ℤ-trans _ _ _ left along);
          }

          back : r.board ≡ r.alight - 1 → s.board + 1 ≡ s.alight → LeadBack T sound r s
          back x y = record {
            stop = subst (λ a. stop_at T s.trip a ≡ boarding_stop T r) y (sym (ap (stop_at T r.trip) x ∙ turn.stop));
            time = subst (λ a. boarding_time T r ≤ℤ arrival_at T s.trip a) y (subst (λ b. departure_at T r.trip b ≤ℤ arrival_at T s.trip (s.board + 1)) (sym x) along);
          }

          cases : (r.board < r.alight - 1) ⊎ (r.board ≡ r.alight - 1) → (s.board + 1 < s.alight) ⊎ (s.board + 1 ≡ s.alight) → Result asked o q before r s after
          -- earlier, with the same rest
          cases (inl x) (inl y) = again later (replaced T asked o before r sooner (s ∷ after) (later ∷ after) q (record { stop = refl; time = ≤ℤ-refl _ })
              (record { onward = x; boards = r_rides.boards; alights = turn.alights }) (
                and_some (λ secs. (alighting_time T sooner +ℤ pos secs) ≤ℤ boarding_time T later) _ turn.secs turn.changes turn.in_time,
                record { onward = y; boards = turn.boards; alights = s_rides.alights },
                LeadsOn-alights T s later after q (record { stop = refl; time = ≤ℤ-refl _ }) s_on,
              )
              (arrival_after-alights T s later after q (record { stop = refl; time = ≤ℤ-refl _ })) leads leaves)
          -- s is boarded where r was
          cases (inr x) (inl y) = inl (record {
            new = before ++ later ∷ after;
            fewer = omega (arith, length-append before (later ∷ after), length-append before (r ∷ s ∷ after));
            as_well = replaced T asked o before r later (s ∷ after) after q
                (record { stop = ap (stop_at T r.trip) x ∙ turn.stop; time = ≤ℤ-trans _ _ _ (subst (λ b. departure_at T r.trip b ≤ℤ arrival_at T s.trip (s.board + 1)) (sym x) along) goes_off })
                (record { onward = y; boards = turn.boards; alights = s_rides.alights })
                (LeadsOn-alights T s later after q (record { stop = refl; time = ≤ℤ-refl _ }) s_on)
                (arrival_after-alights T s later after q (record { stop = refl; time = ≤ℤ-refl _ })) leads leaves;
          })
          -- r is left where s was
          cases (inl x) (inr y) = inl (record {
            new = before ++ sooner ∷ after;
            fewer = omega (arith, length-append before (sooner ∷ after), length-append before (r ∷ s ∷ after));
            as_well = replaced T asked o before r sooner (s ∷ after) after q (record { stop = refl; time = ≤ℤ-refl _ })
                (record { onward = x; boards = r_rides.boards; alights = turn.alights })
                (LeadsOn-alights T s sooner after q (ends y) s_on) (arrival_after-alights T s sooner after q (ends y)) leads leaves;
          })
          -- both are left out
          cases (inr x) (inr y) = inl (record {
            new = before ++ after;
            fewer = omega (arith, length-append before after, length-append before (r ∷ s ∷ after));
            as_well = skipped T sound asked o before r s after q (back x y) leads leaves;
          })

  -- the law for a ride that is left one event earlier
  abbrev Earlier : ℤ → ℕ → ℕ → List Ride → Ride → List Ride → Type 0
  Earlier asked o q before r after = (s' : Ride) → Leads T o (before ++ record { trip = r.trip; board = r.board; alight = r.alight - 1 } ∷ s' ∷ after) q →
      LeavesNoEarlier T asked o (before ++ record { trip = r.trip; board = r.board; alight = r.alight - 1 } ∷ s' ∷ after) →
      Result asked o q before (record { trip = r.trip; board = r.board; alight = r.alight - 1 }) s' after

  onward_by : (n : ℕ) (asked : ℤ) (o q : ℕ) (before : List Ride) (r s : Ride) (after : List Ride) → r.alight ≤ n →
      Leads T o (before ++ r ∷ s ∷ after) q → LeavesNoEarlier T asked o (before ++ r ∷ s ∷ after) → Result asked o q before r s after
  onward_by zero asked o q before r s after bound leads leaves = absurd (let ride : r.board < r.alight = (Leads-at T o before r (s ∷ after) q leads).0.onward in omega (arith, ride, bound))
  onward_by (suc n) asked o q before r s after bound leads leaves =
      by_step (λ s' leads leaves. onward_by n asked o q before (record { trip = r.trip; board = r.board; alight = r.alight - 1 }) s' after (omega (arith, bound)) leads leaves)
      (candidates_step T lines sound divided asked o q before r s after leads leaves)
    where
      with_next : Earlier asked o q before r after → (goes : GoesByCandidate T lines sound divided asked o q before r s after) → (b : Bool) → b ≡ is_u_turn T r.trip r.alight (record { trip = goes.next.trip; at = goes.next.board }) → Result asked o q before r s after
      with_next earlier goes false e = inr (record {
        at = r.alight;
        hop = record { trip = goes.next.trip; at = goes.next.board };
        until = goes.next.alight;
        others = after;
        onward = (Leads-at T o before r (s ∷ after) q leads).0.onward;
        in_set = Contains-from_Member _ (candidates_without_u_turns T lines r.trip r.alight) (Member-filter (λ h. not (is_u_turn T r.trip r.alight h)) _ (candidates T lines r.trip r.alight) (Member-from_Contains _ _ goes.in_set) (ap not (sym e)));
        as_many = refl;
        as_well = goes.as_well;
      })
      with_next earlier goes true e = back (u_turn_avoided asked o q before r goes.next after (u_turn_parts T r.trip r.alight _ (sym e)) goes.as_well.leads goes.as_well.leaves
          (λ s' well. elim (earlier s' well.leads well.leaves) [
            | inl saves ↦ inl (SavesARide-trans T asked o q before r goes.next after (record { trip = r.trip; board = r.board; alight = r.alight - 1 }) s' after (long s') well saves)
            | inr hop ↦ inr (GoesByHop-trans T (candidates_without_u_turns T lines) asked o q before r.trip r.board r.alight (r.alight - 1) goes.next s' after after refl well hop)
          ]))
        where
          long : (s' : Ride) → length (before ++ record { trip = r.trip; board = r.board; alight = r.alight - 1 } ∷ s' ∷ after) ≡ length (before ++ r ∷ goes.next ∷ after)
          long s' = omega (arith, length-append before (record { trip = r.trip; board = r.board; alight = r.alight - 1 } ∷ s' ∷ after), length-append before (r ∷ goes.next ∷ after))

          back : Result asked o q before r goes.next after → Result asked o q before r s after
          back (inl saves) = inl (SavesARide-trans T asked o q before r s after r goes.next after (omega (arith, length-append before (r ∷ goes.next ∷ after), length-append before (r ∷ s ∷ after))) goes.as_well saves)
          back (inr hop) = inr (GoesByHop-trans T (candidates_without_u_turns T lines) asked o q before r.trip r.board r.alight r.alight s goes.next after after refl goes.as_well hop)

      by_step : Earlier asked o q before r after → SavesARide T (change_in asked o q before r s after) ⊎ GoesByCandidate T lines sound divided asked o q before r s after → Result asked o q before r s after
      by_step earlier (inl saves) = inl saves
      by_step earlier (inr goes) = with_next earlier goes (is_u_turn T r.trip r.alight (record { trip = goes.next.trip; at = goes.next.board })) refl

-- The candidates that are no U-turns are sufficient.
pub candidates_without_u_turns_sufficient : (T : TimetableData) (lines : List (List ℕ)) → IsSound T → AreDividedInto T lines → AreSufficient T (candidates_without_u_turns T lines)
candidates_without_u_turns_sufficient T lines sound divided = record {
  possible = λ t i h c. candidates_possible T lines divided t i h (Contains-from_Member h (candidates T lines t i)
      (Member-filter_back (λ h. not (is_u_turn T t i h)) h (candidates T lines t i) (Member-from_Contains h (candidates_without_u_turns T lines t i) c)).0);
  enough = λ c journey. onward_by T lines sound divided c.left.alight c.asked c.origin c.target c.before c.left c.boarded c.after (omega arith) journey.leads journey.leaves;
}
