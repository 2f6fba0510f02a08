-- One round after another: what the labels say of rides.
use Rattle.std.proofs.Common.{◌≡◌, ℕ, suc, ◌<◌, ◌≤◌, ◌⊎◌, inl, inr, List, [], ◌∷◌, length, refl, sym, ap, subst, ◌∙◌, arith, Option, None, Some, ℤ, pos, ◌+ℤ◌, ◌≤ℤ◌}
use Rattle.std.specs.Prelude.{slice_get, IsSomeAnd, IfSome}
use Rattle.std.proofs.lemmas.Int.{ints}
use Rattle.std.proofs.lemmas.Option.{slice_get_within}
use Rattle.std.proofs.lemmas.List.{get_or_past}
use Rattle.std.proofs.lemmas.Bool.{cases_lt}
use Rattle.tb_base.specs.TimetableData.{TimetableData}
use Rattle.tb_base.specs.Walking.{walk, change}
use Rattle.tb_base.specs.Journeys.{Ride, boarding_stop, boarding_time, alighting_stop, alighting_time}
use Rattle.tb_base.specs.BestValues.{QueryData}
use Rattle.tb_laws.proofs.CandidateLaws.{some_and, and_some}
use Rattle.plain_rounds.specs.declared.arrivals.StopArrivals.{StopArrivals}
use Rattle.plain_rounds.specs.declared.arrivals.PlainRide.{PlainRide}
use Rattle.plain_rounds.specs.declared.labels.StopLabel.{StopLabel}
use Rattle.plain_rounds.specs.Labels.{IsNoLaterAt, Takes, IsOfferedByChange, IsOfferedByOrigin, label_at, later}
use Rattle.plain_rounds.specs.Rounds.{ride_of, IsBoardable, IsLabelOf, TakesRides}
use Rattle.plain_rounds.specs.Rides.{IsBoarded, IsReadyAfter, IsTrace, IsReadyLabel, IsArrivalLabel, AreArrivals, AreReady}
use Rattle.tb_base.proofs.NumberFacts.{≤ℤ-trans, ≤ℤ-plus}

-- what is known of a label that is there
pub label_and : (P : StopLabel → Type 0) (o : Option StopLabel) → IsSomeAnd o P → (l : StopLabel) × (o ≡ Some l) × P l
label_and P None h = absurd h
label_and P (Some l) h = (l, refl, h)

pub and_label : (P : StopLabel → Type 0) (o : Option StopLabel) (l : StopLabel) → o ≡ Some l → P l → IsSomeAnd o P
and_label P o l e h = subst (λ x. IsSomeAnd x P) (sym e) h

pub label_weaker : (P Q : StopLabel → Type 0) (o : Option StopLabel) → ((l : StopLabel) → P l → Q l) → IsSomeAnd o P → IsSomeAnd o Q
label_weaker P Q None f h = absurd h
label_weaker P Q (Some l) f h = f l h

-- only stops of the list have labels
pub label_inside : (labels : List (Option StopLabel)) (p : ℕ) (l : StopLabel) → label_at labels p ≡ Some l → p < length labels
label_inside labels p l h = by_case (cases_lt p (length labels))
  where
    by_case : (p < length labels) ⊎ (length labels ≤ p) → p < length labels
    by_case (inl k) = k
    by_case (inr k) = let none : label_at labels p ≡ None = get_or_past labels p None k in absurd (let no : None ≡ Some l = sym none ∙ h in cc)

-- a trace stays one where ridden are added
pub trace-grown : (old new : List PlainRide) → ((n : ℕ) (s : PlainRide) → slice_get old n ≡ Some s → slice_get new n ≡ Some s) → (back : List Ride) (o : Option ℕ) → IsTrace old back o → IsTrace new back o
trace-grown old new grown [] None h = h
trace-grown old new grown [] (Some n) h = h
trace-grown old new grown (r ∷ back) None h = h
trace-grown old new grown (r ∷ back) (Some n) h = record { step = h.step; is = grown n h.step h.is; ride = h.ride; falls = h.falls; rest = trace-grown old new grown back h.step.before h.rest }

pub trace-inside : (ridden : List PlainRide) (back : List Ride) (o : Option ℕ) → IsTrace ridden back o → IfSome o (λ n. n < length ridden)
trace-inside ridden [] None h = tt
trace-inside ridden [] (Some n) h = absurd h
trace-inside ridden (r ∷ back) None h = tt
trace-inside ridden (r ∷ back) (Some n) h = slice_get_within ridden n h.step h.is

module _ (T : TimetableData) (Q : QueryData) where
  -- a label and a change from its stop are an offer
  offered_by_change : (labels : List (Option StopLabel)) (p q : ℕ) (m : StopLabel) (secs : ℕ) → length labels ≡ length T.stops → label_at labels p ≡ Some m → change T p q ≡ Some secs → IsOfferedByChange T labels q (later m secs)
  offered_by_change labels p q m secs long at is = (
    p,
    subst (λ n. p < n) long (label_inside labels p m at),
    and_label (λ x. IsSomeAnd (change T p q) (λ n. later m secs ≡ later x n)) (label_at labels p) m at (and_some (λ n. later m secs ≡ later m n) (change T p q) secs is refl),
  )

  -- the labels from which a round boards, and the arrivals before and after it
  module _ (most : ℕ) (ready : List (Option StopLabel)) (a b : StopArrivals) (takes : TakesRides T a b (IsBoardable T ready)) where
    -- the label of a step of the round
    arrival_label : AreReady T Q most a.ridden.items ready → (p : ℕ) (l : StopLabel) → IsLabelOf T b.ridden.items (length a.ridden.items) (IsBoardable T ready) p l → IsArrivalLabel T Q b.ridden.items (suc most) p l
    arrival_label can p l of =
        let m = label_and (λ m. (m.time ≤ℤ boarding_time T (ride_of of.step)) × (m.ride ≡ of.step.before)) (label_at ready (boarding_stop T (ride_of of.step))) of.offered.boards.1 in
        by_label m.0 (can.sound (boarding_stop T (ride_of of.step)) m.0 m.1) m.2.0 m.2.1
      where
        falls : (o : Option ℕ) → IfSome o (λ n. n < length a.ridden.items) → IfSome o (λ n. n < of.place)
        falls None h = tt
        falls (Some n) h = omega (arith, h, of.new)

        by_label : (m : StopLabel) → IsReadyLabel T Q a.ridden.items most (boarding_stop T (ride_of of.step)) m → m.time ≤ℤ boarding_time T (ride_of of.step) → m.ride ≡ of.step.before → IsArrivalLabel T Q b.ridden.items (suc most) p l
        by_label m is in_time before = record {
          back = is.back;
          last = ride_of of.step;
          few = omega (arith, is.few);
          trace = subst (λ o. IsTrace b.ridden.items (ride_of of.step ∷ is.back) o) (sym of.is_place) (record {
            step = of.step;
            is = of.is_step;
            ride = refl;
            falls = subst (λ o. IfSome o (λ n. n < of.place)) before (falls m.ride (trace-inside a.ridden.items is.back m.ride is.trace));
            rest = subst (λ o. IsTrace b.ridden.items is.back o) before (trace-grown a.ridden.items b.ridden.items takes.ridden is.back m.ride is.trace);
          });
          boarded = record {
            ride = record { onward = of.offered.onward; boards = of.offered.boards.0; alights = of.offered.alights };
            ready = m.time;
            at = is.ready;
            in_time = in_time;
          };
          stop = of.stop;
          time = of.time;
        }

    -- a ride that one can board in time is one that the labels let one board
    covered : (back : List Ride) (r : Ride) → ((p : ℕ) (time : ℤ) → IsReadyAfter T Q back p time → IsNoLaterAt ready p time) → IsBoarded T (IsReadyAfter T Q back) r → IsNoLaterAt b.labels.items (alighting_stop T r) (alighting_time T r)
    covered back r can boards =
        let m = label_and (λ m. m.time ≤ℤ boards.ready) (label_at ready (boarding_stop T r)) (can (boarding_stop T r) boards.ready boards.at) in
        takes.taken (record { trip = r.trip; board = r.board; alight = r.alight; before = m.0.ride }) (record {
          onward = boards.ride.onward;
          boards = (boards.ride.boards, and_label (λ l. (l.time ≤ℤ boarding_time T r) × (l.ride ≡ m.0.ride)) (label_at ready (boarding_stop T r)) m.0 m.1 (≤ℤ-trans m.0.time boards.ready (boarding_time T r) m.2 boards.in_time, refl));
          alights = boards.ride.alights;
        })

    -- the arrivals by one more ride
    pub arrivals-more : AreArrivals T Q most a → AreReady T Q most a.ridden.items ready → AreArrivals T Q (suc most) b
    arrivals-more are can = record {
      long = takes.long ∙ are.long;
      sound = λ p l h. elim (takes.made p l h) [
        | inl k ↦ (let is : IsArrivalLabel T Q a.ridden.items most p l = are.sound p l k in record {
          back = is.back;
          last = is.last;
          few = omega (arith, is.few);
          trace = trace-grown a.ridden.items b.ridden.items takes.ridden (is.last ∷ is.back) l.ride is.trace;
          boarded = is.boarded;
          stop = is.stop;
          time = is.time;
        })
        | inr k ↦ arrival_label can p l k
      ];
      all = λ back r short boards. covered back r (λ p time h. can.all back p time (omega (arith, short)) h) boards;
    }

    -- where nothing is new, the arrivals are those by any number of rides
    pub arrivals-all : AreReady T Q most a.ridden.items ready → ((q : ℕ) (l : StopLabel) → IsOfferedByChange T a.labels.items q l → IsNoLaterAt ready q l.time) → length a.labels.items ≡ length T.stops → b.labels.items ≡ a.labels.items →
        (back : List Ride) (r : Ride) → IsBoarded T (IsReadyAfter T Q back) r → IsNoLaterAt b.labels.items (alighting_stop T r) (alighting_time T r)
    arrivals-all can changed long same back r boards = covered back r (ready_all back) boards
      where
        ready_all : (back : List Ride) (p : ℕ) (time : ℤ) → IsReadyAfter T Q back p time → IsNoLaterAt ready p time
        ready_all [] p time h = can.all [] p time (omega arith) h
        ready_all (s ∷ back) p time h =
            let m = label_and (λ m. m.time ≤ℤ alighting_time T s) (label_at a.labels.items (alighting_stop T s)) (subst (λ xs. IsNoLaterAt xs (alighting_stop T s) (alighting_time T s)) same (covered back s (ready_all back) h.0)) in
            let c = some_and (λ secs. time ≡ (alighting_time T s +ℤ pos secs)) (change T (alighting_stop T s) p) h.1 in
            by_change m.0 m.1 m.2 c.0 c.1 c.2
          where
            by_change : (m : StopLabel) → label_at a.labels.items (alighting_stop T s) ≡ Some m → m.time ≤ℤ alighting_time T s → (secs : ℕ) → change T (alighting_stop T s) p ≡ Some secs → time ≡ (alighting_time T s +ℤ pos secs) → IsNoLaterAt ready p time
            by_change m at early secs is e =
                label_weaker (λ l. l.time ≤ℤ (m.time +ℤ pos secs)) (λ l. l.time ≤ℤ time) (label_at ready p)
                (λ l h. subst (λ z. l.time ≤ℤ z) (sym e) (≤ℤ-trans l.time (m.time +ℤ pos secs) (alighting_time T s +ℤ pos secs) h (≤ℤ-plus m.time (alighting_time T s) secs early)))
                (changed p (later m secs) (offered_by_change a.labels.items (alighting_stop T s) p m secs long at is))

  -- the labels by one more ride, after the changes from where one arrives
  module _ (most : ℕ) (old new : List (Option StopLabel)) (ridden : List PlainRide) (b : StopArrivals) (arrive : AreArrivals T Q (suc most) b) (takes : Takes old new (IsOfferedByChange T b.labels.items)) where
    ready_label : (p : ℕ) (l : StopLabel) → IsOfferedByChange T b.labels.items p l → IsReadyLabel T Q b.ridden.items (suc most) p l
    ready_label q l (p, inside, offered) =
        let m = label_and (λ m. IsSomeAnd (change T p q) (λ secs. l ≡ later m secs)) (label_at b.labels.items p) offered in
        let c = some_and (λ secs. l ≡ later m.0 secs) (change T p q) m.2 in
        by_arrival m.0 c.0 (arrive.sound p m.0 m.1) c.1 c.2
      where
        by_arrival : (m : StopLabel) (secs : ℕ) → IsArrivalLabel T Q b.ridden.items (suc most) p m → change T p q ≡ Some secs → l ≡ later m secs → IsReadyLabel T Q b.ridden.items (suc most) q l
        by_arrival m secs is changes e = record {
          back = is.last ∷ is.back;
          few = omega (arith, is.few);
          trace = subst (λ o. IsTrace b.ridden.items (is.last ∷ is.back) o) (sym (ap (λ (x : StopLabel). x.ride) e)) is.trace;
          ready = (
            is.boarded,
            and_some (λ n. l.time ≡ (alighting_time T is.last +ℤ pos n)) (change T (alighting_stop T is.last) q) secs (subst (λ n. change T n q ≡ Some secs) (sym is.stop) changes)
                (ap (λ (x : StopLabel). x.time) e ∙ ap (λ z. z +ℤ pos secs) (sym is.time)),
          );
        }

    pub ready-more : AreReady T Q most ridden old → ((n : ℕ) (s : PlainRide) → slice_get ridden n ≡ Some s → slice_get b.ridden.items n ≡ Some s) → AreReady T Q (suc most) b.ridden.items new
    ready-more can grown = record {
      sound = λ p l h. elim (takes.made p l h) [
        | inl k ↦ (let is : IsReadyLabel T Q ridden most p l = can.sound p l k in record {
          back = is.back;
          few = omega (arith, is.few);
          trace = trace-grown ridden b.ridden.items grown is.back l.ride is.trace;
          ready = is.ready;
        })
        | inr k ↦ ready_label p l k
      ];
      all = λ back p time short h. covers back p time short h;
    }
      where
        by_change : (s : Ride) (q : ℕ) (time : ℤ) (m : StopLabel) → label_at b.labels.items (alighting_stop T s) ≡ Some m → m.time ≤ℤ alighting_time T s → (secs : ℕ) → change T (alighting_stop T s) q ≡ Some secs → time ≡ (alighting_time T s +ℤ pos secs) → IsNoLaterAt new q time
        by_change s q time m at early secs is e =
            label_weaker (λ l. l.time ≤ℤ (m.time +ℤ pos secs)) (λ l. l.time ≤ℤ time) (label_at new q)
            (λ l h. subst (λ z. l.time ≤ℤ z) (sym e) (≤ℤ-trans l.time (m.time +ℤ pos secs) (alighting_time T s +ℤ pos secs) h (≤ℤ-plus m.time (alighting_time T s) secs early)))
            (takes.taken q (later m secs) (offered_by_change b.labels.items (alighting_stop T s) q m secs arrive.long at is))

        covers : (back : List Ride) (p : ℕ) (time : ℤ) → length back ≤ suc most → IsReadyAfter T Q back p time → IsNoLaterAt new p time
        covers [] p time short h = takes.kept p time (can.all [] p time (omega arith) h)
        covers (s ∷ back) p time short h =
            let m = label_and (λ m. m.time ≤ℤ alighting_time T s) (label_at b.labels.items (alighting_stop T s)) (arrive.all back s (omega (arith, short)) h.0) in
            let c = some_and (λ secs. time ≡ (alighting_time T s +ℤ pos secs)) (change T (alighting_stop T s) p) h.1 in
            by_change s p time m.0 m.1 m.2 c.0 c.1 c.2

  -- before any ride
  module _ (labels new : List (Option StopLabel)) (ridden : List PlainRide) (start : StopLabel) (is_start : start ≡ record { time = Q.leave; ride = None }) (none : (p : ℕ) (l : StopLabel) → label_at labels p ≡ Some l → ⊥) (takes : Takes labels new (IsOfferedByOrigin T Q.from start)) where
    pub ready-first : AreReady T Q 0 ridden new
    ready-first = record {
      sound = λ p l h. elim (takes.made p l h) [ inl k ↦ absurd (none p l k) | inr k ↦ first_label p l k ];
      all = λ back p time short h. covers back p time short h;
    }
      where
        first_label : (p : ℕ) (l : StopLabel) → IsOfferedByOrigin T Q.from start p l → IsReadyLabel T Q ridden 0 p l
        first_label p l (o, from, walks) =
            let w = some_and (λ secs. l ≡ later start secs) (walk T o p) walks in
            let e : l ≡ record { time = Q.leave +ℤ pos w.0; ride = None } = w.2 ∙ ap (λ (x : StopLabel). later x w.0) is_start in
            record {
              back = [];
              few = omega arith;
              trace = subst (λ r. IsTrace ridden [] r) (sym (ap (λ (x : StopLabel). x.ride) e)) tt;
              ready = (o, from, and_some (λ secs. l.time ≡ (Q.leave +ℤ pos secs)) (walk T o p) w.0 w.1 (ap (λ (x : StopLabel). x.time) e));
            }

        covers : (back : List Ride) (p : ℕ) (time : ℤ) → length back ≤ 0 → IsReadyAfter T Q back p time → IsNoLaterAt new p time
        covers [] p time short (o, from, walks) =
            let w = some_and (λ secs. time ≡ (Q.leave +ℤ pos secs)) (walk T o p) walks in
            subst (λ z. IsNoLaterAt new p z) (ap (λ (x : StopLabel). x.time +ℤ pos w.0) is_start ∙ sym w.2)
            (takes.taken p (later start w.0) (o, from, and_some (λ secs. later start w.0 ≡ later start secs) (walk T o p) w.0 w.1 refl))
        covers (r ∷ back) p time short h = absurd (omega (arith, short))

  -- no arrivals before any ride
  pub arrivals-none : (a : StopArrivals) → length a.labels.items ≡ length T.stops → ((p : ℕ) (l : StopLabel) → label_at a.labels.items p ≡ Some l → ⊥) → AreArrivals T Q 0 a
  arrivals-none a long none = record { long = long; sound = λ p l h. absurd (none p l h); all = λ back r short boards. absurd (omega (arith, short)) }
