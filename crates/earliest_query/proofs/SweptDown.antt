-- A sweep comes down to an earlier time.
use Rattle.std.proofs.Common.{◌≡◌, ◌∙◌, ℕ, suc, ◌<◌, ◌≤◌, ◌⊎◌, inl, inr, List, [], ◌∷◌, length, map, true, sym, ap, subst, arith, Option, Some, None, ℤ, pos, ◌+ℤ◌, ◌≤ℤ◌}
use Rattle.std.specs.Prelude.{All, AllPairs, Contains, IfSome, filter, nat_lt}
use Rattle.std.proofs.lemmas.Bool.Decides.{nat_tests}
use Rattle.std.proofs.lemmas.Int.{ints}
use Rattle.std.proofs.lemmas.List.Elements.{All-append, All-contains, All-map, All-weaker}
use Rattle.tb_base.specs.Network.{NetData}
use Rattle.tb_base.specs.declared.query.Value.{Value}
use Rattle.tb_base.specs.TimetableData.{arrival_at, departure_at, stop_at, MayAlight}
use Rattle.tb_base.specs.Walking.{walk}
use Rattle.tb_base.specs.Journeys.{Ride, IsJourney, LeavesNoEarlier, leaving_time}
use Rattle.tb_base.specs.BestValues.{IsAttained, IsStep, QueryData, value_of}
use Rattle.tb_base.specs.Soundness.{IsSound}
use Rattle.tb_base.specs.Sufficiency.{AreSufficient}
use Rattle.tb_base.proofs.Ordered.{Contains-from_Member, Member-from_Contains}
use Rattle.tb_laws.specs.Pruning.{AreCoveredBy, IsLate}
use Rattle.tb_base.proofs.Members.{Member-append, Member-filter, Member-filter_back, Member-left, Member-right}
use Rattle.tb_laws.proofs.SweepLaws.{late_still}
use Rattle.tb_laws.proofs.Triangles.{walk_secs-is}
use Rattle.tb_laws.proofs.UTurnLaws.{some}
use Rattle.segment_queue.specs.declared.desk.Hit.{Hit}
use Rattle.segment_queue.specs.declared.desk.Segment.{Segment}
use Rattle.segment_queue.specs.Queue.{DeskData}
use Rattle.segment_queue.specs.Traced.{IsEntered, IsTraced, IsTracedHit, round_of, segment_of}
use Rattle.segment_queue.proofs.Distinct.{all_by_member}
use Rattle.earliest_query.specs.Choices.{ArrivesBy, hits_of}
use Rattle.earliest_query.specs.Sweeping.{AreStarted, IsGoneOn, IsSweptQueue, IsSweptRound, IsSweptTo, values_with}
use Rattle.earliest_query.specs.UnderWay.{Covers, AddsSegments, IsHit}
use Rattle.earliest_query.proofs.Answering.{AreWalkHits, walk_hits}
use Rattle.earliest_query.proofs.BestSoFar.{IsWalkHit}
use Rattle.earliest_query.proofs.Following.{followed-kept}
use Rattle.earliest_query.proofs.Growing.{extends-long, extends-round, extends-segment}
use Rattle.earliest_query.proofs.Nearest.{contains_right}
use Rattle.earliest_query.proofs.Reaching.{hit_attained}
use Rattle.earliest_query.proofs.SweptRounds.{hit_late}
use Rattle.earliest_query.proofs.SweptSearch.{swept_cover}
use Rattle.tb_base.proofs.NumberFacts.{≤ℤ-trans}

-- the values with rides
abbrev pub rode : List Value → List Value
rode values = filter (λ (v : Value). nat_lt 0 v.rides) values

none_or_some : (n : ℕ) → (n ≡ 0) ⊎ (nat_lt 0 n ≡ true)
none_or_some n = grind (arith, nat_tests)

positive : (n : ℕ) → nat_lt 0 n ≡ true → 0 < n
positive n h = grind (arith, nat_tests, h)

-- what one of fewer values makes late, they make late
pub late_among : (hits : List Hit) (values : List Value) (time : ℤ) (rides : ℕ) → IsLate (values_with hits (rode values)) time rides → IsLate (values_with hits values) time rides
late_among hits values time rides late = (
  late.0,
  Contains-from_Member late.0 (values_with hits values) (elim (Member-append late.0 (map (λ (h : Hit). h.value) hits) (rode values) (Member-from_Contains late.0 (values_with hits (rode values)) late.1)) [
    | inl m ↦ Member-left late.0 (map (λ (h : Hit). h.value) hits) values m
    | inr m ↦ Member-right late.0 (map (λ (h : Hit). h.value) hits) values (Member-filter_back (λ (v : Value). nat_lt 0 v.rides) late.0 values m).0
  ]),
  late.2,
)

module _ (N : NetData) (Q : QueryData) (later : ℤ) (le : Q.leave ≤ℤ later) where
  abbrev Later : QueryData
  Later = record Q { leave = later }

  entered_earlier : (segments : List Segment) (n : ℕ) (parent : Option (ℕ × ℕ)) (t b : ℕ) → IsEntered N.table Later segments n parent t b → IsEntered N.table Q segments n parent t b
  entered_earlier segments n (Some p) t b e = e
  entered_earlier segments n None t b e = record { boards = e.boards; origin = e.origin; from = e.from; secs = e.secs; walks = e.walks; in_time = sooner Q.leave later e.secs (departure_at N.table t b) le e.in_time }
    where
      sooner : (a l : ℤ) (n : ℕ) (d : ℤ) → a ≤ℤ l → (l +ℤ pos n) ≤ℤ d → (a +ℤ pos n) ≤ℤ d
      sooner a l n d g h = omega (arith, ints, g, h)

  -- segments entered later are entered no earlier than asked
  pub queue_earlier : (D : DeskData) (levels : List (List (Option ℕ))) → IsSweptQueue N Later D levels → IsSweptQueue N Q D levels
  queue_earlier D levels q = record {
    sound = q.sound;
    entered = λ n inside. entered_earlier D.segments n (segment_of D.segments n).parent (segment_of D.segments n).trip (segment_of D.segments n).board (q.entered n inside);
    by_hops = q.by_hops;
    rounds = q.rounds;
    some_level = q.some_level;
    ends = q.ends;
    kept = q.kept;
    descending = q.descending;
    room = q.room;
    falling = q.falling;
    within = q.within;
  }

  -- a value with rides is attained earlier too
  attained_earlier : (v : Value) → 0 < v.rides → IsAttained N.table Later v → IsAttained N.table Q v
  attained_earlier v some_ride (j, has) = by_rides j.origin j.rides j.target has.journey has.leaves has.value
    where
      by_rides : (o : ℕ) (rides : List Ride) (q : ℕ) → IsJourney N.table Q.from Q.to (record { origin = o; rides = rides; target = q }) → LeavesNoEarlier N.table later o rides → v ≡ value_of N.table later (record { origin = o; rides = rides; target = q }) → IsAttained N.table Q v
      by_rides o [] q journey leaves value = absurd (let e : v.rides ≡ 0 = ap (λ (w : Value). w.rides) value in omega (arith, e, some_ride))
      by_rides o (r ∷ rest) q journey leaves value = (record { origin = o; rides = r ∷ rest; target = q }, record { journey = journey; leaves = ≤ℤ-trans Q.leave later (leaving_time N.table o r) le leaves; value = value })

  -- a value without rides is that of a walk
  walked_later : (v : Value) → v.rides ≡ 0 → IsAttained N.table Later v → (p q secs : ℕ) × Contains Q.from p × Contains Q.to q × (walk N.table p q ≡ Some secs) × (v.arrive ≡ later +ℤ pos secs)
  walked_later v no_ride (j, has) = by_rides j.origin j.rides j.target has.journey has.value
    where
      by_rides : (o : ℕ) (rides : List Ride) (q : ℕ) → IsJourney N.table Q.from Q.to (record { origin = o; rides = rides; target = q }) → v ≡ value_of N.table later (record { origin = o; rides = rides; target = q }) →
          (p q secs : ℕ) × Contains Q.from p × Contains Q.to q × (walk N.table p q ≡ Some secs) × (v.arrive ≡ later +ℤ pos secs)
      by_rides o [] q journey value =
          let w = some (walk N.table o q) journey.leads in
          (o, q, w.0, journey.origin, journey.target, w.1, ap (λ (x : Value). x.arrive) value ∙ ap (λ z. later +ℤ z) (walk_secs-is N.table o q w.0 w.1))
      by_rides o (r ∷ rest) q journey value = absurd (let e : v.rides ≡ suc (length rest) = ap (λ (w : Value). w.rides) value in omega (arith, e, no_ride))

  -- the first round of the time: on a desk with the segments of before and the best walk, each first ride has been boarded
  module _ (C E : DeskData) (levels : List (List (Option ℕ))) (values : List Value) (walked : Option Hit) (gone_on : IsGoneOn N Later C values (length C.segments)) (hits : C.hits ≡ hits_of 0 walked) (walk_traced : IfSome walked (IsWalkHit N.table Q))
      (bounded : (p q secs : ℕ) → Contains Q.from p → Contains Q.to q → walk N.table p q ≡ Some secs → ArrivesBy walked (Q.leave +ℤ pos secs)) (queue : IsSweptQueue N Q E levels) (extends : AddsSegments C E 1) (starts : AreStarted N.table Q E) where
    hits_are : E.hits ≡ hits_of 0 walked
    hits_are = extends.hits ∙ hits

    first : AreWalkHits N.table Q E.segments walked (hits_of 0 walked)
    first = walk_hits N.table Q E.segments walked walk_traced

    traced : All (IsTracedHit N.table Q E.segments) E.hits
    traced = subst (All (IsTracedHit N.table Q E.segments)) (sym hits_are) first.traced

    walk_late : (p q secs : ℕ) → Contains Q.from p → Contains Q.to q → walk N.table p q ≡ Some secs → IsLate (values_with E.hits (rode values)) (Q.leave +ℤ pos secs) 0
    walk_late p q secs a b w = hit_late E.hits (rode values) (Q.leave +ℤ pos secs) 0 (subst (λ hs. IsHit hs (record { arrive = Q.leave +ℤ pos secs; rides = 0 })) (sym hits_are) (first.by (Q.leave +ℤ pos secs) (bounded p q secs a b w)))

    -- what was late is late still: for a walk of before there is one that leaves now
    late_on : (time : ℤ) (rides : ℕ) → IsLate values time rides → IsLate (values_with E.hits (rode values)) time rides
    late_on time rides (v, one, le_v) = by_rides (none_or_some v.rides)
      where
        through : (a l x t : ℤ) (n : ℕ) → x ≤ℤ (a +ℤ pos n) → a ≤ℤ l → v.arrive ≡ (l +ℤ pos n) → v.arrive ≤ℤ t → x ≤ℤ t
        through a l x t n g h e k = omega (arith, ints, g, h, e, k)

        by_rides : (v.rides ≡ 0) ⊎ (nat_lt 0 v.rides ≡ true) → IsLate (values_with E.hits (rode values)) time rides
        by_rides (inr some_ride) = (v, contains_right (map (λ (h : Hit). h.value) E.hits) (rode values) v (Contains-from_Member v (rode values) (Member-filter (λ (w : Value). nat_lt 0 w.rides) v values (Member-from_Contains v values one) some_ride)), le_v)
        by_rides (inl no_ride) =
            let w = walked_later v no_ride (All-contains (IsAttained N.table Later) values v gone_on.attained one) in
            let now = walk_late w.0 w.1 w.2 w.3 w.4 w.5 in
            (now.0, now.1, (through Q.leave later now.0.arrive time w.2 now.2.0 le w.6 le_v.0, omega (arith, now.2.1)))

    rode_attained : All (IsAttained N.table Q) (rode values)
    rode_attained = all_by_member (IsAttained N.table Q) (rode values) (λ v m.
        let f = Member-filter_back (λ (w : Value). nat_lt 0 w.rides) v values m in
        attained_earlier v (positive v.rides f.1) (All-contains (IsAttained N.table Later) values v gone_on.attained (Contains-from_Member v values f.0)))

    same : (n : ℕ) → n < length C.segments → segment_of E.segments n ≡ segment_of C.segments n
    same n inside = extends-segment C E 1 extends n inside

    covers_before : (n i : ℕ) → n < length C.segments → Covers E n i → Covers C n i
    covers_before n i inside c = record { onward = subst (λ (s : Segment). s.board < i) (same n inside) c.onward; within = subst (λ (s : Segment). i ≤ s.end) (same n inside) c.within }

    late_there : (time : Segment → ℤ) (n : ℕ) → n < length C.segments → IsLate values (time (segment_of C.segments n)) (round_of C.segments n) → IsLate (values_with E.hits (rode values)) (time (segment_of E.segments n)) (round_of E.segments n)
    late_there time n inside late =
        subst (λ (s : Segment). IsLate (values_with E.hits (rode values)) (time s) (round_of E.segments n)) (sym (same n inside))
        (subst (λ r. IsLate (values_with E.hits (rode values)) (time (segment_of C.segments n)) r) (sym (extends-round C E 1 extends n inside)) (late_on (time (segment_of C.segments n)) (round_of C.segments n) late))

    pub first_round : IsSweptRound N Q E levels (rode values) (length C.segments) 1
    first_round = record {
      queue = queue;
      gone_on = record {
        done = λ n i inside covers. elim (gone_on.done n i inside (covers_before n i inside covers)) [
          | inl followed ↦ inl (followed-kept N C E 1 n i extends inside followed)
          | inr late ↦ inr (late_there (λ s. arrival_at N.table s.trip i) n inside late)
        ];
        offers = λ n i q secs inside covers offer.
            late_there (λ s. arrival_at N.table s.trip i +ℤ pos secs) n inside (gone_on.offers n i q secs inside (covers_before n i inside covers) (record {
              alights = subst (λ (s : Segment). MayAlight N.table s.trip i) (same n inside) offer.alights;
              target = offer.target;
              walks = subst (λ (s : Segment). walk N.table (stop_at N.table s.trip i) q ≡ Some secs) (same n inside) offer.walks;
            }));
        attained = All-append (IsAttained N.table Q) (map (λ (h : Hit). h.value) E.hits) (rode values)
            (All-map (IsAttained N.table Q) (λ (h : Hit). h.value) E.hits (All-weaker (IsTracedHit N.table Q E.segments) (λ (h : Hit). IsAttained N.table Q h.value) (λ h t. hit_attained N.table Q E.segments queue.entered h t) E.hits traced)) rode_attained;
      };
      starts = starts;
      walks = walk_late;
      some_round = omega arith;
      within = extends-long C E 1 extends;
      this_round = extends.rounds;
      traced = traced;
      stairs = subst (AllPairs (λ (h k : Hit). IsStep h.value k.value)) (sym hits_are) (λ i j d a b. absurd (let one = first.one in omega (arith, a, b, one)));
      fewer = subst (All (λ (h : Hit). h.value.rides < 1)) (sym hits_are) first.fewer;
      attained = rode_attained;
    }

-- a desk with the same segments has gone on as far
pub gone_on-same : (N : NetData) (Q : QueryData) (D C : DeskData) (values : List Value) → C.segments ≡ D.segments → IsGoneOn N Q D values (length D.segments) → IsGoneOn N Q C values (length C.segments)
gone_on-same N Q D C values same g = subst (λ xs. IsGoneOn N Q (record C { segments = xs }) values (length xs)) (sym same) (record {
  done = λ n i inside covers. g.done n i inside (record { onward = covers.onward; within = covers.within });
  offers = λ n i q secs inside covers offer. g.offers n i q secs inside (record { onward = covers.onward; within = covers.within }) (record { alights = offer.alights; target = offer.target; walks = offer.walks });
  attained = g.attained;
})

-- all segments have been ridden
module _ (N : NetData) (Q : QueryData) (D : DeskData) (levels : List (List (Option ℕ))) (values : List Value) (rounds : ℕ) (swept : IsSweptRound N Q D levels values (length D.segments) rounds) where
  -- the values of the hits and those of before hold each journey
  all_swept : IsSweptTo N Q D levels (values_with D.hits values)
  all_swept = record { queue = swept.queue; gone_on = swept.gone_on; starts = swept.starts; walks = swept.walks }

  pub round_found : IsSound N.table → AreSufficient N.table N.hops → (w : Value) → IsAttained N.table Q w → IsLate (values_with D.hits values) w.arrive w.rides
  round_found sound sufficient w has = swept_cover N Q D levels (values_with D.hits values) all_swept sound sufficient w has

  pub round_traced : IsTraced N.table Q D
  round_traced = record { sound = swept.queue.sound; entered = swept.queue.entered; hits = swept.traced }

  -- and so do others, where each has one among them that is no worse
  pub swept_taken : (new : List Value) → All (Contains (values_with D.hits values)) new → AreCoveredBy (values_with D.hits values) new → IsSweptTo N Q D levels new
  swept_taken new from covers = record {
    queue = swept.queue;
    gone_on = record {
      done = λ n i inside c. elim (swept.gone_on.done n i inside c) [ inl followed ↦ inl followed | inr late ↦ inr (late_still (values_with D.hits values) new _ _ covers late) ];
      offers = λ n i q secs inside c offer. late_still (values_with D.hits values) new _ _ covers (swept.gone_on.offers n i q secs inside c offer);
      attained = All-weaker (Contains (values_with D.hits values)) (IsAttained N.table Q) (λ v c. All-contains (IsAttained N.table Q) (values_with D.hits values) v swept.gone_on.attained c) new from;
    };
    starts = swept.starts;
    walks = λ p q secs a b w. late_still (values_with D.hits values) new _ _ covers (swept.walks p q secs a b w);
  }
