-- What a sweep to every stop has found gives the travel times.
use Rattle.std.proofs.Common.{◌≡◌, ◌∙◌, ℕ, zero, suc, ◌<◌, ◌⊎◌, inl, inr, List, [], ◌∷◌, length, get_or, refl, sym, ap, subst, arith, Option, Some, None, ℤ, pos, ◌+ℤ◌, ◌-ℤ◌, ◌≤ℤ◌, ◌<ℤ◌}
use Rattle.std.specs.Prelude.{All, Contains, IsSome}
use Rattle.std.proofs.lemmas.Int.{ints}
use Rattle.tb_base.specs.Network.{NetData}
use Rattle.tb_base.specs.declared.query.Value.{Value}
use Rattle.tb_base.specs.BestValues.{IsBest, IsLeast, QueryData, value_of}
use Rattle.tb_base.specs.Journeys.{Leads, Ride, walk_secs}
use Rattle.tb_base.specs.Search.{IsFound, IsSearched}
use Rattle.tb_base.specs.Soundness.{IsSound}
use Rattle.tb_base.specs.Sufficiency.{AreSufficient}
use Rattle.tb_base.specs.TimetableData.{TimetableData, arrival_at, stop_at, MayAlight}
use Rattle.tb_base.specs.Walking.{walk}
use Rattle.tb_base.proofs.Members.{All-from_Member}
use Rattle.tb_base.proofs.NumberFacts.{cases_ltℤ}
use Rattle.tb_base.proofs.Ordered.{Contains-from_Member}
use Rattle.tb_laws.specs.Pruning.{IsLate}
use Rattle.tb_laws.proofs.CoverLaws.{attained_later, no_best_is_absurd}
use Rattle.tb_laws.proofs.SearchLaws.{best_value_found, whole_search}
use Rattle.tb_laws.proofs.Triangles.{walk_secs-is}
use Rattle.tb_laws.proofs.UTurnLaws.{some}
use Rattle.segment_queue.specs.Queue.{DeskData}
use Rattle.segment_queue.specs.Traced.{round_segments, segment_of}
use Rattle.segment_queue.proofs.Rounds.{board_of, end_of, length-round_segments, trip_of}
use Rattle.earliest_query.specs.Sweeping.{IsSweptTo}
use Rattle.earliest_query.proofs.SweptSearch.{swept_search}
use Rattle.reach_all.specs.Reach.{query_to, values_at}
use Rattle.reach_all.specs.Spreading.{AreStarts}
use Rattle.reach_all.specs.Swept.{AreRidden, IsWalkOrRide}
use Rattle.reach_all.specs.TravelTimes.{IsTravelTime, IsWithin, Takes}
use Rattle.reach_all.specs.Ranks.{AreTimesAt}
use Rattle.reach_all.proofs.BestTimes.{within-fewer}
use Rattle.reach_all.proofs.Spread.{on_foot_attained}

module _ (N : NetData) (Q : QueryData) (most : Option ℕ) (D : DeskData) (levels : List (List (Option ℕ))) (swept : IsSweptTo N Q D levels []) (sound : IsSound N.table) (sufficient : AreSufficient N.table N.hops)
    (lists : List (List Value)) (ridden : AreRidden N.table Q most D (length D.segments) lists) (walks : List (List Value)) (starts : AreStarts N.table Q.from (pos 0) walks) (stop : ℕ) where
  abbrev from : List ℕ
  from = Q.from

  abbrev leave : ℤ
  leave = Q.leave

  abbrev To : QueryData
  To = query_to from leave stop

  -- so many seconds by a walk, or by an arrival with rides
  abbrev IsCandidate : ℤ → Type 0
  IsCandidate secs = IsWalkOrRide (values_at walks stop) (values_at lists stop) leave secs

  seconds : (l a : ℤ) → a ≡ (l +ℤ (a -ℤ l))
  seconds l a = omega (arith, ints)

  -- each of them is that of a journey
  taken : (secs : ℤ) → IsCandidate secs → Takes N.table from most leave stop secs
  taken secs (inl w) =
      let foot = starts.only stop w.0 w.1 in (
        record { arrive = leave +ℤ pos foot.secs; rides = 0 },
        on_foot_attained N.table from leave stop (record { arrive = leave +ℤ pos foot.secs; rides = 0 }) (record { origin = foot.origin; is_origin = foot.is_origin; secs = foot.secs; walks = foot.walks; is = refl }),
        none most,
        shift leave secs foot.secs (ap (λ (v : Value). v.arrive) (sym foot.is) ∙ w.2),
      )
    where
      none : (o : Option ℕ) → IsWithin o 0
      none None = tt
      none (Some n) = omega arith

      shift : (l s : ℤ) (n : ℕ) → (pos 0 +ℤ pos n) ≡ (pos 0 +ℤ s) → (l +ℤ pos n) ≡ (l +ℤ s)
      shift l s n e = omega (arith, ints, e)
  taken secs (inr r) = let k = ridden.only stop r.0 r.1 in (k.0, k.1, k.3, k.4 ∙ r.2)

  searched : IsSearched N.table N.hops from leave (round_segments D.segments)
  searched = whole_search N.table N.hops from leave (round_segments D.segments) (swept_search N Q D levels [] swept)

  is_stop : (q : ℕ) → Contains (stop ∷ []) q → q ≡ stop
  is_stop q c = let at : c.0 ≡ 0 = omega (arith, c.1) in sym (subst (λ k. get_or (stop ∷ []) k q ≡ q) at c.2)

  -- of each best value within the limit there is one that is no longer
  by_walk : (v : Value) (o : ℕ) (rides : List Ride) (q : ℕ) → Contains from o → q ≡ stop → Leads N.table o rides q → v ≡ value_of N.table leave (record { origin = o; rides = rides; target = q }) → v.rides ≡ 0 → (secs : ℤ) × IsCandidate secs × ((leave +ℤ secs) ≤ℤ v.arrive)
  by_walk v o [] q origin at leads is none =
      let w = some (walk N.table o q) leads in
      let late = subst (λ s. IsLate (values_at walks s) (pos 0 +ℤ pos w.0) 0) at (starts.held o q w.0 origin w.1) in
      let time : v.arrive ≡ leave +ℤ pos w.0 = ap (λ (x : Value). x.arrive) is ∙ ap (λ z. leave +ℤ z) (walk_secs-is N.table o q w.0 w.1) in
      (late.0.arrive -ℤ pos 0, inl (late.0, late.1, seconds (pos 0) late.0.arrive), sooner leave late.0.arrive v.arrive w.0 late.2.0 time)
    where
      sooner : (l a b : ℤ) (n : ℕ) → a ≤ℤ (pos 0 +ℤ pos n) → b ≡ (l +ℤ pos n) → (l +ℤ (a -ℤ pos 0)) ≤ℤ b
      sooner l a b n g e = omega (arith, ints, g, e)
  by_walk v o (r ∷ rest) q origin at leads is none = absurd (let e : v.rides ≡ suc (length rest) = ap (λ (x : Value). x.rides) is in omega (arith, e, none))

  by_ride : (v : Value) → IsBest N.table To v → IsWithin most v.rides → 0 < v.rides → (secs : ℤ) × IsCandidate secs × ((leave +ℤ secs) ≤ℤ v.arrive)
  by_ride v best few some_ride =
      let found : IsFound N.table (stop ∷ []) (round_segments D.segments) v = best_value_found N.table N.hops To (round_segments D.segments) searched v best sufficient some_ride in
      let n : ℕ = found.segment in
      let below : n < length D.segments = omega (arith, found.inside, length-round_segments D.segments) in
      let trip = trip_of D.segments n below in
      let walked : IsSome (walk N.table (stop_at N.table (segment_of D.segments n).trip found.at) found.target) = subst (λ t. IsSome (walk N.table (stop_at N.table t found.at) found.target)) trip found.walks in
      let w = some (walk N.table (stop_at N.table (segment_of D.segments n).trip found.at) found.target) walked in
      let late = ridden.held n found.at below (record { onward = omega (arith, found.onward, board_of D.segments n below); within = omega (arith, found.within, end_of D.segments n below) })
      (subst (λ r. IsWithin most r) (sym found.round) few) (subst (λ t. MayAlight N.table t found.at) trip found.alights) found.target w.0 w.1 in
      let here = subst (λ s. IsLate (values_at lists s) (arrival_at N.table (segment_of D.segments n).trip found.at +ℤ pos w.0) 1) (is_stop found.target found.to) late in
      let time : (arrival_at N.table (segment_of D.segments n).trip found.at +ℤ pos w.0) ≡ v.arrive
      = ap (λ z. arrival_at N.table (segment_of D.segments n).trip found.at +ℤ z) (sym (walk_secs-is N.table (stop_at N.table (segment_of D.segments n).trip found.at) found.target w.0 w.1))
      ∙ subst (λ t. (arrival_at N.table t found.at +ℤ walk_secs N.table (stop_at N.table t found.at) found.target) ≡ v.arrive) trip found.arrives in
      (here.0.arrive -ℤ leave, inr (here.0, here.1, seconds leave here.0.arrive), sooner leave here.0.arrive v.arrive (subst (λ z. here.0.arrive ≤ℤ z) time here.2.0))
    where
      sooner : (l a b : ℤ) → a ≤ℤ b → (l +ℤ (a -ℤ l)) ≤ℤ b
      sooner l a b g = omega (arith, ints, g)

  as_short : (v : Value) → IsBest N.table To v → IsWithin most v.rides → (secs : ℤ) × IsCandidate secs × ((leave +ℤ secs) ≤ℤ v.arrive)
  as_short v best few = by_rides v.rides refl
    where
      by_rides : (k : ℕ) → k ≡ v.rides → (secs : ℤ) × IsCandidate secs × ((leave +ℤ secs) ≤ℤ v.arrive)
      by_rides zero e =
          let j = best.attained.0 in let h = best.attained.1 in
          by_walk v j.origin j.rides j.target h.journey.origin (is_stop j.target h.journey.target) h.journey.leads h.value (sym e)
      by_rides (suc k) e = by_ride v best few (omega (arith, e))

  -- so it cannot be that none is as short as some journey
  one_as_short : (secs : ℤ) → Takes N.table from most leave stop secs → ((s : ℤ) → IsCandidate s → s ≤ℤ secs → ⊥) → ⊥
  one_as_short secs (v, attained, few, at) none = no_best_is_absurd N.table sound To v attained (λ b best le.
      let s = as_short b best (within-fewer most b.rides v.rides le.1 few) in none s.0 s.1 (shorter leave s.0 secs b.arrive v.arrive s.2 le.0 at))
    where
      shorter : (l s t a b : ℤ) → (l +ℤ s) ≤ℤ a → a ≤ℤ b → b ≡ (l +ℤ t) → s ≤ℤ t
      shorter l s t a b g h e = omega (arith, ints, g, h, e)

  pub swept_time : (time : Option ℤ) → IsLeast IsCandidate time → IsTravelTime N.table from most leave stop time
  swept_time None none = λ secs takes. one_as_short secs takes (λ s c le. none s c)
  swept_time (Some m) least = (taken m least.0, λ secs takes. by_order secs takes (cases_ltℤ secs m))
    where
      over : (m s t : ℤ) → t <ℤ m → m ≤ℤ s → s ≤ℤ t → ⊥
      over m s t g h k = omega (arith, ints, g, h, k)

      by_order : (secs : ℤ) → Takes N.table from most leave stop secs → (secs <ℤ m) ⊎ (m ≤ℤ secs) → m ≤ℤ secs
      by_order secs takes (inr le) = le
      by_order secs takes (inl lt) = absurd (one_as_short secs takes (λ s c le. over m s secs lt (least.1 s c) le))

-- arrivals are no earlier than the departure, and walks take no less than nothing
pub rides_later : (T : TimetableData) → IsSound T → (Q : QueryData) (most : Option ℕ) (D : DeskData) (count : ℕ) (lists : List (List Value)) → AreRidden T Q most D count lists → (p : ℕ) → All (λ (v : Value). Q.leave ≤ℤ v.arrive) (values_at lists p)
rides_later T sound Q most D count lists ridden p = All-from_Member (λ (v : Value). Q.leave ≤ℤ v.arrive) (values_at lists p) (λ v member.
    let k = ridden.only p v (Contains-from_Member v (values_at lists p) member) in subst (λ z. Q.leave ≤ℤ z) k.4 (attained_later T sound (query_to Q.from Q.leave p) k.0 k.1))

pub walks_later : (T : TimetableData) (from : List ℕ) (walks : List (List Value)) → AreStarts T from (pos 0) walks → (p : ℕ) → All (λ (v : Value). pos 0 ≤ℤ v.arrive) (values_at walks p)
walks_later T from walks starts p = All-from_Member (λ (v : Value). pos 0 ≤ℤ v.arrive) (values_at walks p) (λ v member.
    let foot = starts.only p v (Contains-from_Member v (values_at walks p) member) in subst (λ (w : Value). pos 0 ≤ℤ w.arrive) (sym foot.is) (positive foot.secs))
  where
    positive : (n : ℕ) → pos 0 ≤ℤ (pos 0 +ℤ pos n)
    positive n = omega (arith, ints)

-- the travel times of a departure
pub swept_times : (N : NetData) (Q : QueryData) (most : Option ℕ) (D : DeskData) (levels : List (List (Option ℕ))) → IsSweptTo N Q D levels [] → IsSound N.table → AreSufficient N.table N.hops → (lists walks : List (List Value)) → AreRidden N.table Q most D (length D.segments) lists → AreStarts N.table Q.from (pos 0) walks
    → (times : List (Option ℤ)) → length times ≡ length lists → ((p : ℕ) (o : Option ℤ) → p < length lists → IsLeast (IsWalkOrRide (values_at walks p) (values_at lists p) Q.leave) (get_or times p o)) → AreTimesAt N.table Q.from most Q.leave times
swept_times N Q most D levels swept sound sufficient lists walks ridden starts times long least = record {
  each_stop = long ∙ ridden.each_stop;
  travel = λ p o inside. swept_time N Q most D levels swept sound sufficient lists ridden walks starts p (get_or times p o) (least p o (let e = ridden.each_stop in omega (arith, e, inside)));
}
