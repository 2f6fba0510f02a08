-- Segments of a sweep to every stop, offered one after another.
use Rattle.std.proofs.Common.{◌≡◌, ◌∙◌, ℕ, suc, ◌+◌, ◌<◌, ◌≤◌, ◌⊎◌, inl, inr, List, [], ◌∷◌, ◌++◌, Bool, true, false, length, get_or, replicate, refl, sym, ap, subst, arith, Option, Some, None, ℤ, pos, ◌+ℤ◌, ◌≤ℤ◌}
use Rattle.std.specs.Prelude.{All, AllPairs, Contains, IfSome, IsSome, MatchBool}
use Rattle.std.proofs.lemmas.List.{get_or_append_left, get_or_push, length-append, length-replicate}
use Rattle.std.proofs.lemmas.List.Elements.{All-head, All-nil}
use Rattle.tb_base.specs.declared.query.Value.{Value}
use Rattle.tb_base.specs.BestValues.{IsAttained, IsStep, QueryData, value_of}
use Rattle.tb_base.specs.Journeys.{IsJourney, Journey, LeavesNoEarlier, Ride, leaving_time, walk_secs}
use Rattle.tb_base.specs.Network.{NetData}
use Rattle.tb_base.specs.Search.{IsReached}
use Rattle.tb_base.specs.TimetableData.{TimetableData, arrival_at, event_at, stop_at, MayAlight}
use Rattle.tb_base.specs.Walking.{walk}
use Rattle.tb_base.proofs.NumberFacts.{below_or_at, ≤ℤ-trans}
use Rattle.tb_laws.specs.Pruning.{IsLate}
use Rattle.tb_laws.proofs.ReachedLaws.{reached_value}
use Rattle.tb_laws.proofs.Triangles.{walk_secs-is}
use Rattle.segment_queue.specs.declared.desk.Segment.{Segment}
use Rattle.segment_queue.specs.Queue.{DeskData}
use Rattle.segment_queue.specs.Traced.{IsEntered, round_of, segment_of}
use Rattle.segment_queue.proofs.Rounds.{round_behind, round_of-kept, segment_of-kept}
use Rattle.earliest_query.specs.Sweeping.{IsSweptTo, KeepsSegments, SweepData}
use Rattle.earliest_query.specs.UnderWay.{Covers}
use Rattle.reach_all.specs.Reach.{query_to, values_at}
use Rattle.reach_all.specs.Arriving.{AreStairs, IsOfferedFrom, Keep}
use Rattle.reach_all.specs.Spreading.{HoldsAlighting, everywhere}
use Rattle.reach_all.specs.Swept.{AreRidden, AreRounds, HoldsIndex, IsGivenBy, IsOfferedUpTo, IsRideTo, IsSweptDown}
use Rattle.reach_all.specs.TravelTimes.{IsWithin}
use Rattle.reach_all.proofs.Offering.{keep-refl, keep-trans}
use Rattle.reach_all.proofs.Reached.{alighting-kept}
use Rattle.reach_all.proofs.Spread.{none_at}

-- nothing of a segment has been offered yet
pub offered_none : (T : TimetableData) (D : DeskData) (n : ℕ) (lists : List (List Value)) → AreStairs 1 lists → IsOfferedUpTo T D n (segment_of D.segments n).board lists lists
offered_none T D n lists stairs = record {
  each_stop = refl;
  stairs = stairs;
  kept = keep-refl lists;
  held = λ i onward within. absurd (omega (arith, onward, within));
  only = λ q v c. inl c;
}

-- one index more
module _ (T : TimetableData) (D : DeskData) (n last : ℕ) (old mid new : List (List Value)) (before : IsOfferedUpTo T D n last old mid) (covers : Covers D n (last + 1)) where
  abbrev trip : ℕ
  trip = (segment_of D.segments n).trip

  with_alighting : Keep mid new → length new ≡ length mid → AreStairs 1 new → HoldsAlighting T new trip (last + 1) 1 → ((q : ℕ) (v : Value) → Contains (values_at new q) v → Contains (values_at mid q) v ⊎ IsGivenBy T D n q v) → IsOfferedUpTo T D n (last + 1) old new
  with_alighting keep long stairs held only = record {
    each_stop = long ∙ before.each_stop;
    stairs = stairs;
    kept = keep-trans old mid new before.kept keep;
    held = λ i onward within. elim (below_or_at i (last + 1) (omega (arith, within))) [
      | inl h ↦ alighting-kept T mid new trip i 1 keep (before.held i onward (omega (arith, h)))
      | inr e ↦ subst (λ j. HoldsAlighting T new trip j 1) (sym e) held
    ];
    only = λ q v c. elim (only q v c) [ inl k ↦ before.only q v k | inr given ↦ inr given ];
  }

  pub offered_more : (stop : ℕ) (arr : ℤ) (alight : Bool) → stop ≡ stop_at T trip (last + 1) → arr ≡ arrival_at T trip (last + 1) → alight ≡ (event_at T trip (last + 1)).alight →
      MatchBool alight (IsOfferedFrom T stop (record { arrive = arr; rides = 1 }) mid new) (new ≡ mid) → IsOfferedUpTo T D n (last + 1) old new
  offered_more stop arr true stop_is arr_is alight_is offers = by_offers (subst (λ s. IsOfferedFrom T s (record { arrive = arrival_at T trip (last + 1); rides = 1 }) mid new) stop_is (subst (λ a. IsOfferedFrom T stop (record { arrive = a; rides = 1 }) mid new) arr_is offers))
    where
      by_offers : IsOfferedFrom T (stop_at T trip (last + 1)) (record { arrive = arrival_at T trip (last + 1); rides = 1 }) mid new → IsOfferedUpTo T D n (last + 1) old new
      by_offers o = with_alighting o.kept o.each_stop o.stairs (λ _ q secs walks. o.held q secs walks) (λ q v c. elim (o.only q v c) [ inl k ↦ inl k | inr on ↦ inr (record { at = last + 1; covers = covers; alights = sym alight_is; walks = on }) ])
  offered_more stop arr false stop_is arr_is alight_is same = subst (IsOfferedUpTo T D n (last + 1) old) (sym same)
      (record {
        each_stop = before.each_stop;
        stairs = before.stairs;
        kept = before.kept;
        held = λ i onward within. elim (below_or_at i (last + 1) (omega (arith, within))) [
          | inl h ↦ before.held i onward (omega (arith, h))
          | inr e ↦ (λ alights q secs walks. absurd (let k : true ≡ false = sym alights ∙ (ap (λ j. (event_at T trip j).alight) e ∙ sym alight_is) in cc))
        ];
        only = before.only;
      })

-- segments, one more
module _ (T : TimetableData) (Q : QueryData) (most : Option ℕ) (D : DeskData) (n : ℕ) (old : List (List Value)) (before : AreRidden T Q most D n old) where
  abbrev trip_of_n : ℕ
  trip_of_n = (segment_of D.segments n).trip

  -- a segment with too many rides gives nothing
  pub ridden_same : (IsWithin most (round_of D.segments n) → ⊥) → AreRidden T Q most D (n + 1) old
  ridden_same over = record {
    each_stop = before.each_stop;
    stairs = before.stairs;
    held = λ m i below covers. elim (below_or_at m n below) [
      | inl h ↦ before.held m i h covers
      | inr e ↦ (λ few. absurd (over (subst (λ k. IsWithin most (round_of D.segments k)) e few)))
    ];
    only = before.only;
  }

  given : IsReached T Q.from Q.leave (round_of D.segments n) trip_of_n (segment_of D.segments n).board → IsWithin most (round_of D.segments n) → (q : ℕ) (v : Value) → IsGivenBy T D n q v → IsRideTo T Q.from most Q.leave q v.arrive
  given reached few q v g = (
    record { arrive = arrival_at T trip_of_n g.at +ℤ walk_secs T (stop_at T trip_of_n g.at) q; rides = round_of D.segments n },
    reached_value T Q.from Q.leave (query_to Q.from Q.leave q) refl refl (round_of D.segments n) trip_of_n (segment_of D.segments n).board g.at q reached g.covers.onward g.alights (0, omega arith, refl) (subst (λ o. IsSome o) (sym g.walks.walks) refl),
    (let r = reached.rides in omega (arith, r)),
    few,
    ap (λ z. arrival_at T trip_of_n g.at +ℤ z) (walk_secs-is T (stop_at T trip_of_n g.at) q g.walks.secs g.walks.walks) ∙ ap (λ (w : Value). w.arrive) (sym g.walks.is),
  )

  pub ridden_more : (new : List (List Value)) → IsReached T Q.from Q.leave (round_of D.segments n) trip_of_n (segment_of D.segments n).board → IsWithin most (round_of D.segments n) → IsOfferedUpTo T D n (segment_of D.segments n).end old new → AreRidden T Q most D (n + 1) new
  ridden_more new reached few offers = record {
    each_stop = offers.each_stop ∙ before.each_stop;
    stairs = offers.stairs;
    held = λ m i below covers. elim (below_or_at m n below) [
      | inl h ↦ (λ within. alighting-kept T old new (segment_of D.segments m).trip i 1 offers.kept (before.held m i h covers within))
      | inr e ↦ subst (λ k. Covers D k i → HoldsIndex T most D new k i) (sym e) (λ c within. offers.held i c.onward c.within) covers
    ];
    only = λ q v c. elim (offers.only q v c) [ inl k ↦ before.only q v k | inr g ↦ given reached few q v g ];
  }

-- a value with rides is attained earlier too
ride_earlier : (T : TimetableData) (from : List ℕ) (most : Option ℕ) (leave later : ℤ) → leave ≤ℤ later → (q : ℕ) (time : ℤ) → IsRideTo T from most later q time → IsRideTo T from most leave q time
ride_earlier T from most leave later le q time (v, (j, has), some_ride, few, at) = by_rides j.origin j.rides j.target has.journey has.leaves has.value
  where
    by_rides : (o : ℕ) (rides : List Ride) (t : ℕ) → IsJourney T from (q ∷ []) (record { origin = o; rides = rides; target = t }) → LeavesNoEarlier T later o rides → v ≡ value_of T later (record { origin = o; rides = rides; target = t }) → IsRideTo T from most leave q time
    by_rides o [] t journey leaves value = absurd (let e : v.rides ≡ 0 = ap (λ (w : Value). w.rides) value in omega (arith, e, some_ride))
    by_rides o (r ∷ rest) t journey leaves value = (v, (record { origin = o; rides = r ∷ rest; target = t }, record { journey = journey; leaves = ≤ℤ-trans leave later (leaving_time T o r) le leaves; value = value }), some_ride, few, at)

-- what the segments of a desk give stays so where more join them and one leaves earlier
pub ridden_earlier : (T : TimetableData) (Q : QueryData) (later : ℤ) → Q.leave ≤ℤ later → (most : Option ℕ) (D E : DeskData) (lists : List (List Value)) → KeepsSegments D E → AreRidden T (record Q { leave = later }) most D (length D.segments) lists → AreRidden T Q most E (length D.segments) lists
ridden_earlier T Q later le most D E lists keeps ridden = record {
  each_stop = ridden.each_stop;
  stairs = ridden.stairs;
  held = λ n i below covers few alights q secs walks.
      let same : segment_of E.segments n ≡ segment_of D.segments n = ap (λ xs. segment_of xs n) keeps.1 ∙ segment_of-kept D.segments keeps.0 n below in
      let round : round_of E.segments n ≡ round_of D.segments n = ap (λ xs. round_of xs n) keeps.1 ∙ round_of-kept D.segments keeps.0 n below in
      subst (λ (s : Segment). (MayAlight T s.trip i → (p m : ℕ) → walk T (stop_at T s.trip i) p ≡ Some m → IsLate (values_at lists p) (arrival_at T s.trip i +ℤ pos m) 1)) (sym same)
      (ridden.held n i below (record { onward = subst (λ (s : Segment). s.board < i) same covers.onward; within = subst (λ (s : Segment). i ≤ s.end) same covers.within }) (subst (λ r. IsWithin most r) round few)) alights q secs walks;
  only = λ q v c. ride_earlier T Q.from most Q.leave later le q v.arrive (ridden.only q v c);
}

-- rounds of segments stay as they are where more join them
pub rounds_kept : (D E : DeskData) (rounds : List ℕ) → KeepsSegments D E → length rounds ≤ length D.segments → AreRounds D rounds → AreRounds E rounds
rounds_kept D E rounds keeps all are = record {
  round = λ n d below. are.round n d below ∙ sym (same n (omega (arith, below, all)));
  few = λ n below. subst (λ r. r ≤ n + 1) (sym (same n (omega (arith, below, all)))) (are.few n below);
}
  where
    same : (n : ℕ) → n < length D.segments → round_of E.segments n ≡ round_of D.segments n
    same n below = ap (λ xs. round_of xs n) keeps.1 ∙ round_of-kept D.segments keeps.0 n below

-- all that a segment gives has been offered
pub offered_to : (T : TimetableData) (D : DeskData) (n last end : ℕ) (old new : List (List Value)) → end ≤ last → IsOfferedUpTo T D n last old new → IsOfferedUpTo T D n end old new
offered_to T D n last end old new le offers = record {
  each_stop = offers.each_stop;
  stairs = offers.stairs;
  kept = offers.kept;
  held = λ i onward within. offers.held i onward (omega (arith, le, within));
  only = offers.only;
}

-- a segment's parent stands before it
pub parent_before : (T : TimetableData) (Q : QueryData) (segments : List Segment) (n : ℕ) (parent : Option (ℕ × ℕ)) (t b : ℕ) → IsEntered T Q segments n parent t b → IfSome parent (λ p. p.0 < n)
parent_before T Q segments n None t b e = tt
parent_before T Q segments n (Some p) t b e = e.earlier

-- the round of one more segment
pub rounds_more : (D : DeskData) (rounds : List ℕ) (n : ℕ) (s : Segment) (round : ℕ) → AreRounds D rounds → length rounds ≡ n → n < length D.segments → segment_of D.segments n ≡ s → IfSome s.parent (λ p. p.0 < n)
    → (s.parent ≡ None → round ≡ 1) → IfSome s.parent (λ p. round ≡ get_or rounds p.0 0 + 1) → AreRounds D (rounds ++ round ∷ [])
rounds_more D rounds n s round are long inside same earlier first later = record {
  round = λ m d below. elim (below_or_at m n (subst (λ k. m < k) grown below)) [
    | inl h ↦ get_or_append_left rounds (round ∷ []) d m (omega (arith, h, long)) ∙ are.round m d (omega (arith, h, long))
    | inr e ↦ get_or_push rounds round d m (long ∙ sym e) ∙ subst (λ k. round ≡ round_of D.segments k) (sym e) this
  ];
  few = λ m below. elim (below_or_at m n (subst (λ k. m < k) grown below)) [
    | inl h ↦ are.few m (omega (arith, h, long))
    | inr e ↦ subst (λ k. round_of D.segments k ≤ k + 1) (sym e) (subst (λ r. r ≤ n + 1) this few_here)
  ];
}
  where
    grown : length (rounds ++ round ∷ []) ≡ n + 1
    grown = length-append rounds (round ∷ []) ∙ ap (λ k. k + 1) long

    by_parent : (o : Option (ℕ × ℕ)) → s.parent ≡ o → IfSome o (λ p. p.0 < n) → (o ≡ None → round ≡ 1) → IfSome o (λ p. round ≡ get_or rounds p.0 0 + 1) → (round ≡ round_of D.segments n) × (round ≤ n + 1)
    by_parent None is before f l = (f refl ∙ sym (round_behind D.segments n inside None (ap (λ (x : Segment). x.parent) same ∙ is) tt), (let r = f refl in omega (arith, r)))
    by_parent (Some p) is before f l =
        let old : get_or rounds p.0 0 ≡ round_of D.segments p.0 = are.round p.0 0 (omega (arith, before, long)) in
        let now : round_of D.segments n ≡ suc (round_of D.segments p.0) = round_behind D.segments n inside (Some p) (ap (λ (x : Segment). x.parent) same ∙ is) before in
        let few : round_of D.segments p.0 ≤ p.0 + 1 = are.few p.0 (omega (arith, before, long)) in
        ((omega (arith, l, old, now)), (omega (arith, l, old, few, before)))

    both : (round ≡ round_of D.segments n) × (round ≤ n + 1)
    both = by_parent s.parent refl earlier first later

    this : round ≡ round_of D.segments n
    this = both.0

    few_here : round ≤ n + 1
    few_here = both.1

-- where there is no target no value is held
pub no_values : (T : TimetableData) (Q : QueryData) (values : List Value) → Q.to ≡ [] → All (IsAttained T Q) values → values ≡ []
no_values T Q [] none attained = refl
no_values T Q (v ∷ vs) none attained =
    let has = (All-head (IsAttained T Q) v vs attained).1 in
    absurd (let c : Contains [] (Journey.target (All-head (IsAttained T Q) v vs attained).0) = subst (λ to. Contains to (Journey.target (All-head (IsAttained T Q) v vs attained).0)) none has.journey.target in omega (arith, c.1))

-- the sweep has come down
pub down : (N : NetData) (Q : QueryData) (most : Option ℕ) (D : DeskData) (S : SweepData) (rounds : List ℕ) (lists : List (List Value)) → IsSweptTo N Q D S.levels S.values → AreRidden N.table Q most D (length D.segments) lists → AreRounds D rounds → length rounds ≡ length D.segments → IsSweptDown N Q most D S rounds lists
down N Q most D S rounds lists swept ridden are all = record { sweep = record { queue = swept.queue; gone_on = swept.gone_on }; ridden = ridden; noted = are; all = all }

abbrev no_value : List Value
no_value = []

-- nothing has been ridden yet
pub ridden_none : (T : TimetableData) (Q : QueryData) (most : Option ℕ) (D : DeskData) (lists : List (List Value)) → lists ≡ replicate (length T.stops) [] → AreRidden T Q most D 0 lists
ridden_none T Q most D lists is = subst (AreRidden T Q most D 0) (sym is) (record {
  each_stop = length-replicate (length T.stops) no_value;
  stairs = record { few = λ q. subst (All (λ (v : Value). v.rides ≤ 1)) (sym (none q)) (All-nil (λ (v : Value). v.rides ≤ 1)); stairs = λ q. subst (AllPairs IsStep) (sym (none q)) (λ i j d a b. absurd (omega (arith, b))) };
  held = λ n i below. absurd (omega (arith, below));
  only = λ q v c. absurd (let k : Contains [] v = subst (λ vs. Contains vs v) (none q) c in omega (arith, k.1));
})
  where
    none : (q : ℕ) → values_at (replicate (length T.stops) []) q ≡ []
    none q = none_at T Q.from Q.leave (length T.stops) q

pub rounds_none : (D : DeskData) → AreRounds D []
rounds_none D = record { round = λ n d below. absurd (omega (arith, below)); few = λ n below. absurd (omega (arith, below)) }

pub few_rounds : (D : DeskData) (rounds : List ℕ) → AreRounds D rounds → (n d : ℕ) → n < length rounds → get_or rounds n d ≤ n + 1
few_rounds D rounds are n d below = subst (λ r. r ≤ n + 1) (sym (are.round n d below)) (are.few n below)

-- the query asked at another time
pub query_on : (from : List ℕ) (Q new : QueryData) (leave time : ℤ) → Q ≡ everywhere from Q.leave → new ≡ record Q { leave = leave } → leave ≡ time → new ≡ everywhere from time
query_on from Q new leave time is made same = made ∙ (ap (λ (q : QueryData). record q { leave = leave }) is ∙ ap (everywhere from) same)

-- what has come down to a time can go on from there
pub down_from : (N : NetData) (from : List ℕ) (Q new : QueryData) (time : ℤ) (most : Option ℕ) (D : DeskData) (S : SweepData) (rounds : List ℕ) (lists : List (List Value)) → Q ≡ everywhere from Q.leave → new ≡ everywhere from time → IsSweptDown N Q most D S rounds lists → IsSweptDown N (record new { leave = Q.leave }) most D S rounds lists
down_from N from Q new time most D S rounds lists is new_is down = subst (λ (q : QueryData). IsSweptDown N q most D S rounds lists) (is ∙ ap (λ (q : QueryData). record q { leave = Q.leave }) (sym new_is)) down
