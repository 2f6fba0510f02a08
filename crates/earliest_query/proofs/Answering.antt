-- A search that has ridden all segments holds the answer.
use Rattle.std.proofs.Common.{◌≡◌, ◌∙◌, ℕ, zero, suc, ◌<◌, ◌≤◌, ◌⊎◌, inl, inr, List, [], ◌∷◌, ◌++◌, length, map, refl, sym, ap, subst, arith, Option, Some, None, ℤ, pos, ◌+ℤ◌, ◌≤ℤ◌}
use Rattle.std.specs.Prelude.{All, AllPairs, Contains, IfSome, IsSome, slice_index, sum_by}
use Rattle.std.proofs.lemmas.Int.{ints}
use Rattle.std.proofs.lemmas.List.{take_all}
use Rattle.std.proofs.lemmas.List.Elements.{All-map, All-weaker, All-contains, All-nil, All-cons}
use Rattle.tb_base.specs.Network.{NetData}
use Rattle.tb_base.specs.declared.query.Value.{Value}
use Rattle.tb_base.specs.TimetableData.{TimetableData, arrival_at, departure_at, event_total, stop_at, MayAlight}
use Rattle.tb_base.specs.Walking.{walk}
use Rattle.tb_base.specs.Journeys.{Ride, Leads, walk_secs}
use Rattle.tb_base.specs.BestValues.{IsAttained, IsBest, IsStep, QueryData, value_of}
use Rattle.tb_base.specs.Search.{IsCovered, IsFound, IsReached, RoundSegment, segment_at}
use Rattle.tb_base.specs.Soundness.{IsSound}
use Rattle.tb_base.specs.Sufficiency.{AreSufficient}
use Rattle.tb_base.proofs.NumberFacts.{below_or_last}
use Rattle.tb_base.proofs.Ordered.{Member, Member-from_Contains, Contains-from_Member, AllPairs-tail}
use Rattle.segment_queue.proofs.Distinct.{before_member, pairs_from_head}
use Rattle.earliest_query.proofs.LineBoarding.{member_map_back}
use Rattle.tb_laws.specs.Pruning.{IsLate, IsPrunedSearch}
use Rattle.tb_laws.proofs.SearchLaws.{pruned_value_found}
use Rattle.tb_laws.proofs.StaircaseLaws.{best_values_from_staircase}
use Rattle.tb_laws.proofs.Triangles.{walk_secs-is}
use Rattle.tb_laws.proofs.UTurnLaws.{some}
use Rattle.segment_queue.specs.declared.desk.Segment.{Segment}
use Rattle.segment_queue.specs.declared.desk.Hit.{Hit}
use Rattle.segment_queue.specs.Queue.{DeskData, IsInStep, covered_indices}
use Rattle.segment_queue.specs.Traced.{IsAnswered, IsTracedHit, no_segment, round_of, segment_of}
use Rattle.segment_queue.proofs.Totals.{last_le_events}
use Rattle.earliest_query.specs.Choices.{ArrivesBy, hits_of}
use Rattle.earliest_query.specs.UnderWay.{AreBoarded, Covers, AddsSegments, IsHit, IsOutdone, IsQueue, covered_before}
use Rattle.earliest_query.specs.Ridden.{IsRidden, IsIndexServed}
use Rattle.earliest_query.proofs.Reaching.{hit_attained, reached_all, same_values}
use Rattle.earliest_query.proofs.Following.{get_or-inside}
use Rattle.earliest_query.proofs.BestSoFar.{IsWalkHit}
use Rattle.earliest_query.proofs.Sorting.{IsPartAt, part_at, parts, parts_reach}
use Rattle.earliest_query.proofs.Keeping.{hits_of-same, value_member}

-- the origin that a stop is boarded from
record BestOf (T : TimetableData) (origins : List ℕ) (stop n : ℕ) : Type 0 where
  pub place : ℕ
  pub below : place < n
  pub secs : ℕ
  pub walks : walk T (slice_index origins place) stop ≡ Some secs
  pub nearest : (b s : ℕ) → b < n → walk T (slice_index origins b) stop ≡ Some s → secs ≤ s
  pub first : (b s : ℕ) → b < place → walk T (slice_index origins b) stop ≡ Some s → secs < s

at_most_or_less : (a b : ℕ) → (a ≤ b) ⊎ (b < a)
at_most_or_less a b = grind arith

module _ (T : TimetableData) (origins : List ℕ) (stop : ℕ) where
  same_secs : (a b s w : ℕ) → a ≡ b → walk T (slice_index origins a) stop ≡ Some s → walk T (slice_index origins b) stop ≡ Some w → s ≡ w
  same_secs a b s w e f g = let k : walk T (slice_index origins a) stop ≡ walk T (slice_index origins b) stop = ap (λ m. walk T (slice_index origins m) stop) e in cc

  no_secs : (a b w : ℕ) → a ≡ b → walk T (slice_index origins a) stop ≡ None → walk T (slice_index origins b) stop ≡ Some w → ⊥
  no_secs a b w e f g = let k : walk T (slice_index origins a) stop ≡ walk T (slice_index origins b) stop = ap (λ m. walk T (slice_index origins m) stop) e in cc

  abbrev NoneOf : ℕ → Type 0
  NoneOf n = (b s : ℕ) → b < n → walk T (slice_index origins b) stop ≡ Some s → ⊥

  one_more : (n : ℕ) (o : Option ℕ) → walk T (slice_index origins n) stop ≡ o → NoneOf n ⊎ BestOf T origins stop n → NoneOf (suc n) ⊎ BestOf T origins stop (suc n)
  one_more n None is (inl none) = inl (λ b s h w. elim (below_or_last b n h) [ inl k ↦ none b s k w | inr e ↦ no_secs n b s (sym e) is w ])
  one_more n None is (inr best) = inr (record {
    place = best.place;
    below = omega (arith, best.below);
    secs = best.secs;
    walks = best.walks;
    nearest = λ b s h w. elim (below_or_last b n h) [ inl k ↦ best.nearest b s k w | inr e ↦ absurd (no_secs n b s (sym e) is w) ];
    first = best.first;
  })
  one_more n (Some t) is (inl none) = inr (record {
    place = n;
    below = omega arith;
    secs = t;
    walks = is;
    nearest = λ b s h w. elim (below_or_last b n h) [ inl k ↦ absurd (none b s k w) | inr e ↦ omega (arith, same_secs n b t s (sym e) is w) ];
    first = λ b s h w. absurd (none b s h w);
  })
  one_more n (Some t) is (inr best) =
      elim (at_most_or_less best.secs t) [
        | inl keep ↦ inr (record {
          place = best.place;
          below = omega (arith, best.below);
          secs = best.secs;
          walks = best.walks;
          nearest = λ b s h w. elim (below_or_last b n h) [ inl k ↦ best.nearest b s k w | inr e ↦ omega (arith, keep, same_secs n b t s (sym e) is w) ];
          first = best.first;
        })
        | inr less ↦ inr (record {
          place = n;
          below = omega arith;
          secs = t;
          walks = is;
          nearest = λ b s h w. elim (below_or_last b n h) [ inl k ↦ (let m = best.nearest b s k w in omega (arith, less, m)) | inr e ↦ omega (arith, same_secs n b t s (sym e) is w) ];
          first = λ b s h w. (let m = best.nearest b s h w in omega (arith, less, m));
        })
      ]

  best_of : (n : ℕ) → NoneOf n ⊎ BestOf T origins stop n
  best_of zero = inl (λ b s h w. omega (arith, h))
  best_of (suc n) = one_more n (walk T (slice_index origins n) stop) refl (best_of n)

  -- a stop with a walk from an origin is boarded from some origin, after a walk that is no longer
  first_choice : (p secs : ℕ) → Contains origins p → walk T p stop ≡ Some secs → (best : BestOf T origins stop (length origins)) × (best.secs ≤ secs)
  first_choice p secs from walks =
      let here : walk T (slice_index origins from.0) stop ≡ Some secs = ap (λ o. walk T o stop) (get_or-inside origins from.0 0 p from.1 ∙ from.2) ∙ walks in
      elim (best_of (length origins)) [
        | inl none ↦ absurd (none from.0 secs from.1 here)
        | inr best ↦ (best, best.nearest from.0 secs from.1 here)
      ]

module _ (N : NetData) (Q : QueryData) (D : DeskData) (round : ℕ) (ridden : IsRidden N Q D (length D.segments) round) where
  abbrev values : List Value
  values = map (λ (h : Hit). h.value) D.hits

  -- a hit that is no worse makes it late
  late_by : (time : ℤ) (rides : ℕ) → IsHit D.hits (record { arrive = time; rides = rides }) → IsLate values time rides
  late_by time rides hit = (hit.by.value, Contains-from_Member hit.by.value values (value_member hit.by D.hits (Member-from_Contains hit.by D.hits hit.one)), hit.no_worse)

  -- the value of each hit is attained
  all_attained : All (IsAttained N.table Q) values
  all_attained = All-map (IsAttained N.table Q) (λ (h : Hit). h.value) D.hits (All-weaker (IsTracedHit N.table Q D.segments) (λ (h : Hit). IsAttained N.table Q h.value) (λ h t. hit_attained N.table Q D.segments ridden.queue.entered h t) D.hits ridden.traced)

  -- something has been made of each index that isn't outdone, and served it
  module _ (Made : ℕ → ℕ → Type 0) (serves : (n i : ℕ) → Made n i → IsIndexServed N Q D n i) (made : (n i : ℕ) → n < length D.segments → Covers D n i → Made n i ⊎ IsOutdone N D.segments n i) where
    abbrev pub parts_of : List RoundSegment
    parts_of = parts N Q D round ridden.queue Made made

    at_part : (m : ℕ) → m < length parts_of → IsPartAt N Q D round ridden.queue Made made parts_of m
    at_part m h = part_at N Q D round ridden.queue Made made m h

    pub searched : IsPrunedSearch N.table N.hops Q.from Q.leave values parts_of
    searched = record {
      reached = λ m h. let q = at_part m h in
          subst (λ r. IsReached N.table Q.from Q.leave r (segment_at parts_of m).trip (segment_at parts_of m).board) (sym q.round)
          (subst (λ t. IsReached N.table Q.from Q.leave (round_of D.segments q.of) t (segment_at parts_of m).board) (sym q.trip)
          (subst (λ b. IsReached N.table Q.from Q.leave (round_of D.segments q.of) (segment_of D.segments q.of).trip b) (sym q.board) (reached_all N.table Q D.segments ridden.queue.entered q.of q.inside)));
      starts = λ p t b secs from boards not_last walks in_time.
          let choice = first_choice N.table Q.from (stop_at N.table t b) p secs from walks in
          parts_reach N Q D round ridden.queue Made made 1 t b
          (ridden.boarded choice.0.place choice.0.below (stop_at N.table t b) choice.0.secs choice.0.walks (record { nearest = choice.0.nearest; first = choice.0.first }) t b boards not_last refl (sooner choice.0.secs secs (departure_at N.table t b) choice.1 in_time));
      goes_on = λ m i h inside onward within in_set.
          let q = at_part m inside in
          let s = serves q.of i (q.made i (omega (arith, onward, q.board)) within) in
          elim s.followed [
            | inl followed ↦ inl (subst (λ r. IsCovered N.table parts_of (length parts_of) (suc r) h.trip h.at) (sym q.round) (parts_reach N Q D round ridden.queue Made made (suc (round_of D.segments q.of)) h.trip h.at (followed h (subst (λ t. Contains (N.hops t i) h) q.trip in_set))))
            | inr hit ↦ inr (subst (λ r. IsLate values (arrival_at N.table (segment_at parts_of m).trip i) r) (sym q.round) (subst (λ t. IsLate values (arrival_at N.table t i) (round_of D.segments q.of)) (sym q.trip) (late_by (arrival_at N.table (segment_of D.segments q.of).trip i) (round_of D.segments q.of) hit)))
          ];
      ends = λ m inside. (at_part m inside).ends;
    }
      where
        sooner : (a b : ℕ) (d : ℤ) → a ≤ b → (Q.leave +ℤ pos b) ≤ℤ d → (Q.leave +ℤ pos a) ≤ℤ d
        sooner a b d h k = omega (arith, ints, h, k)

  abbrev Served : ℕ → ℕ → Type 0
  Served n i = IsIndexServed N Q D n i

  abbrev pub served_parts : List RoundSegment
  served_parts = parts N Q D round ridden.queue Served ridden.served

  pub served_search : IsPrunedSearch N.table N.hops Q.from Q.leave values served_parts
  served_search = searched Served (λ n i s. s) ridden.served

  -- a best value that some hit is no worse than is the value of the hit
  best_hit : (v : Value) → IsBest N.table Q v → IsHit D.hits v → Contains values v
  best_hit v best hit =
      let same : hit.by.value ≡ v = best.undominated hit.by.value (hit_attained N.table Q D.segments ridden.queue.entered hit.by (All-contains (IsTracedHit N.table Q D.segments) D.hits hit.by ridden.traced hit.one)) hit.no_worse in
      Contains-from_Member v values (subst (λ w. Member w values) same (value_member hit.by D.hits (Member-from_Contains hit.by D.hits hit.one)))

  module _ (sound : IsSound N.table) (sufficient : AreSufficient N.table N.hops) where
    complete : (v : Value) → IsBest N.table Q v → Contains values v
    complete v best = by_rides v.rides refl
      where
        value_is : (w : Value) (a : ℤ) (n : ℕ) → a ≡ w.arrive → n ≡ w.rides → record { arrive = a; rides = n } ≡ w
        value_is w a n e f = same_values a w.arrive n w.rides e f

        from_walk : (o : ℕ) (rides : List Ride) (q : ℕ) → Contains Q.from o → Contains Q.to q → Leads N.table o rides q → v ≡ value_of N.table Q.leave (record { origin = o; rides = rides; target = q }) → v.rides ≡ 0 → IsHit D.hits v
        from_walk o [] q from to leads is none =
            let w = some (walk N.table o q) leads in
            subst (IsHit D.hits) (value_is v _ _ (ap (λ z. Q.leave +ℤ z) (sym (walk_secs-is N.table o q w.0 w.1)) ∙ sym (ap (λ (x : Value). x.arrive) is)) (sym none)) (ridden.walks o q w.0 from to w.1)
        from_walk o (r ∷ rest) q from to leads is none = absurd (let e : v.rides ≡ suc (length rest) = ap (λ (x : Value). x.rides) is in omega (arith, e, none))

        by_rides : (k : ℕ) → k ≡ v.rides → Contains values v
        by_rides zero e =
            let j = best.attained.0 in
            best_hit v best (from_walk j.origin j.rides j.target best.attained.1.journey.origin best.attained.1.journey.target best.attained.1.journey.leads best.attained.1.value (sym e))
        by_rides (suc k) e =
            let found : IsFound N.table Q.to served_parts v = pruned_value_found N.table N.hops Q values served_parts sound served_search all_attained sufficient v best (omega (arith, e)) in
            let q = part_at N Q D round ridden.queue Served ridden.served found.segment found.inside in
            let n : ℕ = q.of in
            let walks : IsSome (walk N.table (stop_at N.table (segment_of D.segments n).trip found.at) found.target) = subst (λ t. IsSome (walk N.table (stop_at N.table t found.at) found.target)) q.trip found.walks in
            let w = some (walk N.table (stop_at N.table (segment_of D.segments n).trip found.at) found.target) walks in
            let hit = (q.made found.at (omega (arith, found.onward, q.board)) found.within).values found.target w.0
            (record { alights = subst (λ t. MayAlight N.table t found.at) q.trip found.alights; target = found.to; walks = w.1 }) in
            best_hit v best (subst (IsHit D.hits) (value_is v _ _
            (ap (λ z. arrival_at N.table (segment_of D.segments n).trip found.at +ℤ z) (sym (walk_secs-is N.table (stop_at N.table (segment_of D.segments n).trip found.at) found.target w.0 w.1))
            ∙ subst (λ t. (arrival_at N.table t found.at +ℤ walk_secs N.table (stop_at N.table t found.at) found.target) ≡ v.arrive) q.trip found.arrives)
            (sym q.round ∙ found.round)) hit)

    map_pairs : (hs : List Hit) → AllPairs (λ (h k : Hit). IsStep h.value k.value) hs → AllPairs IsStep (map (λ (h : Hit). h.value) hs)
    map_pairs [] pairs = λ i j d a b. absurd (omega (arith, b))
    map_pairs (x ∷ xs) pairs =
        pairs_from_head IsStep x.value (map (λ (h : Hit). h.value) xs)
        (λ v m. (let r : (h : Hit) × Member h xs × (h.value ≡ v) = member_map_back (λ (h : Hit). h.value) v xs m in subst (λ w. IsStep x.value w) r.2 (before_member (λ (h k : Hit). IsStep h.value k.value) x xs r.0 pairs r.1)))
        (map_pairs xs (AllPairs-tail (λ (h k : Hit). IsStep h.value k.value) x xs pairs))

    pub answered : IsAnswered N Q D
    answered = record {
      traced = record { sound = ridden.queue.step.segments; entered = ridden.queue.entered; hits = ridden.traced };
      by_hops = ridden.queue.by_hops;
      best = best_values_from_staircase N.table Q values sound all_attained complete (map_pairs D.hits ridden.stairs);
    }

-- the hits when only the walks have been looked at
pub record AreWalkHits (T : TimetableData) (Q : QueryData) (segments : List Segment) (walked : Option Hit) (hits : List Hit) : Type 0 where
  pub traced : All (IsTracedHit T Q segments) hits
  pub fewer : All (λ (h : Hit). h.value.rides < 1) hits
  pub by : (time : ℤ) → ArrivesBy walked time → IsHit hits (record { arrive = time; rides = 0 })
  pub one : length hits ≤ 1

pub walk_hits : (T : TimetableData) (Q : QueryData) (segments : List Segment) (walked : Option Hit) → IfSome walked (IsWalkHit T Q) → AreWalkHits T Q segments walked (hits_of 0 walked)
walk_hits T Q segments None w = record { traced = All-nil (IsTracedHit T Q segments); fewer = All-nil (λ (h : Hit). h.value.rides < 1); by = λ time by. absurd by; one = omega arith }
walk_hits T Q segments (Some h) w =
    subst (AreWalkHits T Q segments (Some h)) (sym (hits_of-same 0 h w.1))
    (record {
      traced = All-cons (IsTracedHit T Q segments) h [] (w.0 segments) (All-nil (IsTracedHit T Q segments));
      fewer = All-cons (λ (x : Hit). x.value.rides < 1) h [] (omega (arith, w.1)) (All-nil (λ (x : Hit). x.value.rides < 1));
      by = λ time by. record { by = h; one = Contains-from_Member h (h ∷ []) (inl refl); no_worse = (by, omega (arith, w.1)) };
      one = omega arith;
    })

-- the desk when the first rides have been boarded
pub first_ridden : (N : NetData) (Q : QueryData) (C D E : DeskData) (walked : Option Hit) → C.segments ≡ [] → C.hits ≡ [] → D ≡ record C { hits = C.hits ++ hits_of 0 walked } →
    IsQueue N Q E 1 → AddsSegments D E 1 → ((place : ℕ) → place < length Q.from → AreBoarded N.table Q E place) → IfSome walked (IsWalkHit N.table Q) →
    ((p q secs : ℕ) → Contains Q.from p → Contains Q.to q → walk N.table p q ≡ Some secs → ArrivesBy walked (Q.leave +ℤ pos secs)) → IsRidden N Q E 0 1
first_ridden N Q C D E walked no_segment no_hit is queue extends boarded traced bounded =
    let hits : E.hits ≡ hits_of 0 walked = extends.hits ∙ ap (λ (d : DeskData). d.hits) is ∙ ap (λ hs. hs ++ hits_of 0 walked) no_hit in
    let none : length D.segments ≡ 0 = ap (λ (d : DeskData). length d.segments) is ∙ ap length no_segment in
    let first = walk_hits N.table Q E.segments walked traced in
    record {
      queue = queue;
      some_round = omega arith;
      few_rounds = omega arith;
      within = omega arith;
      this_round = λ n h inside. extends.rounds n (omega (arith, none)) inside;
      boarded = boarded;
      served = λ n i h. absurd (omega (arith, h));
      walks = λ p q secs a b w. subst (λ hs. IsHit hs (record { arrive = Q.leave +ℤ pos secs; rides = 0 })) (sym hits) (first.by (Q.leave +ℤ pos secs) (bounded p q secs a b w));
      traced = subst (All (IsTracedHit N.table Q E.segments)) (sym hits) first.traced;
      stairs = subst (AllPairs (λ (h k : Hit). IsStep h.value k.value)) (sym hits) (λ i j d a b. absurd (omega (arith, a, b, first.one)));
      fewer = subst (All (λ (h : Hit). h.value.rides < 1)) (sym hits) first.fewer;
      few_hits = omega (arith, ap length hits, first.one);
    }

-- what all segments cover is at most all events
pub covered_all : (N : NetData) (D : DeskData) → IsInStep N D → covered_before D.segments (length D.segments) ≤ event_total N.table
covered_all N D step = omega (arith, ap (λ xs. sum_by covered_indices xs) (take_all (length D.segments) D.segments (omega arith)), step.counted, last_le_events N.table)
