-- The best hit of a round is kept.
use Rattle.std.proofs.Common.{◌≡◌, ◌∙◌, ℕ, zero, suc, ◌+◌, ◌-◌, ◌<◌, ◌≤◌, ◌⊎◌, inl, inr, List, [], ◌∷◌, ◌++◌, cond, length, map, get_or, refl, sym, ap, subst, arith, Option, Some, None, ℤ, pos, ◌+ℤ◌, ◌≤ℤ◌, ◌<ℤ◌, length-append}
use Rattle.std.specs.Prelude.{All, AllPairs, Contains, IfSome, slice_get}
use Rattle.std.proofs.lemmas.Int.{ints}
use Rattle.std.proofs.lemmas.List.Elements.{All-append, All-nil, All-cons, All-weaker}
use Rattle.std.proofs.lemmas.Option.{get_or_from_slice_get, slice_get_within}
use Rattle.std.proofs.lemmas.Bool.{eq-eqb}
use Rattle.tb_base.specs.Network.{NetData}
use Rattle.tb_base.specs.TimetableData.{TimetableData, arrival_at, stop_at, MayAlight}
use Rattle.tb_base.specs.Walking.{walk}
use Rattle.tb_base.specs.BestValues.{IsStep, QueryData}
use Rattle.tb_base.proofs.Ordered.{Member, Member-from_Contains, Contains-from_Member}
use Rattle.tb_base.proofs.Members.{Member-left, Member-right}
use Rattle.segment_queue.specs.declared.desk.Segment.{Segment}
use Rattle.segment_queue.specs.declared.desk.Hit.{Hit}
use Rattle.segment_queue.specs.Queue.{DeskData, IsInStep}
use Rattle.segment_queue.specs.Traced.{IsTracedHit, round_of, segment_of}
use Rattle.segment_queue.proofs.Distinct.{of_member}
use Rattle.earliest_query.specs.Choices.{ArrivesBy, hits_of, last_of}
use Rattle.earliest_query.specs.UnderWay.{Covers, AddsSegments, IsBounded, IsDealtWith, IsDone, IsFollowed, IsHit, IsImproved, IsNewHit, IsArrivalOffered, IsOutdone, IsQueue}
use Rattle.earliest_query.specs.Ridden.{IsRidden, IsIndexServed}
use Rattle.earliest_query.specs.Meeting.{IsMetInTime, IsMetUnlessHit}
use Rattle.earliest_query.proofs.Meeting.{met-grown}
use Rattle.earliest_query.proofs.Growing.{extends-long, extends-reached, extends-round, extends-segment, outdone-kept}
use Rattle.earliest_query.proofs.Following.{followed-kept}
use Rattle.earliest_query.proofs.BestSoFar.{bounded-same, covers-kept, traced-kept}
use Rattle.earliest_query.proofs.StopSums.{pairs_append}
use Rattle.tb_base.proofs.NumberFacts.{lt-eqb}

-- hits do not matter to the queue
pub in_step-hits : (N : NetData) (D : DeskData) (hs : List Hit) → IsInStep N D → IsInStep N (record D { hits = hs })
in_step-hits N D hs s = record {
  fits = record { trips = s.fits.trips; segments = s.fits.segments; hits = s.fits.hits; notes = s.fits.notes };
  marks = s.marks;
  segments = s.segments;
  above = s.above;
  apart = s.apart;
  falling = s.falling;
  counted = s.counted;
}

pub queue-hits : (N : NetData) (Q : QueryData) (D : DeskData) (hs : List Hit) (round : ℕ) → IsQueue N Q D round → IsQueue N Q (record D { hits = hs }) round
queue-hits N Q D hs round q = record {
  step = in_step-hits N D hs q.step;
  entered = q.entered;
  by_hops = q.by_hops;
  rounds = q.rounds;
  marked = q.marked;
  ends = q.ends;
}

pub hit-more : (hits more : List Hit) (arrive : ℤ) (rides : ℕ) → IsHit hits (record { arrive = arrive; rides = rides }) → IsHit (hits ++ more) (record { arrive = arrive; rides = rides })
hit-more hits more arrive rides h = record { by = h.by; one = Contains-from_Member h.by (hits ++ more) (Member-left h.by hits more (Member-from_Contains h.by hits h.one)); no_worse = h.no_worse }

pub hit-added : (hits more : List Hit) (arrive : ℤ) (rides : ℕ) → IsHit more (record { arrive = arrive; rides = rides }) → IsHit (hits ++ more) (record { arrive = arrive; rides = rides })
hit-added hits more arrive rides h = record { by = h.by; one = Contains-from_Member h.by (hits ++ more) (Member-right h.by hits more (Member-from_Contains h.by more h.one)); no_worse = h.no_worse }

pub value_member : (h : Hit) (hs : List Hit) → Member h hs → Member h.value (map (λ (x : Hit). x.value) hs)
value_member h [] m = m
value_member h (x ∷ xs) (inl e) = inl (ap (λ (y : Hit). y.value) e)
value_member h (x ∷ xs) (inr m) = inr (value_member h xs m)

pub hits_of-same : (round : ℕ) (h : Hit) → h.value.rides ≡ round → hits_of round (Some h) ≡ h ∷ []
hits_of-same round h e = ap (λ b. cond b (h ∷ []) []) (eq-eqb h.value.rides round e)

hits_of-earlier : (round : ℕ) (best : Option Hit) → IfSome best (λ h. h.value.rides < round) → hits_of round best ≡ []
hits_of-earlier round None less = refl
hits_of-earlier round (Some h) less = ap (λ b. cond b (h ∷ []) []) (lt-eqb h.value.rides round less)

-- what a round adds to the hits of the rounds before, where the best so far was this when it began
pub record Adds (T : TimetableData) (Q : QueryData) (E : DeskData) (hits : List Hit) (round : ℕ) (start best : Option Hit) (added : List Hit) : Type 0 where
  pub traced : All (IsTracedHit T Q E.segments) added
  pub one : length added ≤ 1
  pub later : (h k : Hit) → Member h hits → Member k added → IsStep h.value k.value
  pub fewer : All (λ (h : Hit). h.value.rides < round + 1) added
  pub by : (time : ℤ) → ArrivesBy best time → ArrivesBy start time ⊎ IsHit added (record { arrive = time; rides = round })

-- the last of hits with ever earlier arrivals arrives first
last_first : (hits : List Hit) (l h : Hit) → AllPairs (λ (h k : Hit). IsStep h.value k.value) hits → last_of hits ≡ Some l → Member h hits → l.value.arrive ≤ℤ h.value.arrive
last_first hits l h stairs is member =
    let c : Contains hits h = Contains-from_Member h hits member in
    let last : get_or hits (length hits - 1) h ≡ l = get_or_from_slice_get hits (length hits - 1) l h is in
    let inside : length hits - 1 < length hits = slice_get_within hits (length hits - 1) l is in
    elim (before_or_last c.0 (length hits) c.1) [
      | inl before ↦ (let step = stairs c.0 (length hits - 1) h before inside in
          let less : l.value.arrive <ℤ h.value.arrive = subst (λ x. l.value.arrive <ℤ (Hit.value x).arrive) c.2 (subst (λ x. (Hit.value x).arrive <ℤ (Hit.value (get_or hits c.0 h)).arrive) last step.1) in
          omega (arith, ints, less))
      | inr e ↦ (let same : h ≡ l = sym c.2 ∙ ap (λ k. get_or hits k h) e ∙ last in
          let equal : h.value.arrive ≡ l.value.arrive = ap (λ (x : Hit). x.value.arrive) same in
          omega (arith, ints, equal))
    ]
  where
    before_or_last : (k n : ℕ) → k < n → (k < n - 1) ⊎ (k ≡ n - 1)
    before_or_last k n h = grind arith

last_member : (hits : List Hit) (l : Hit) → last_of hits ≡ Some l → Contains hits l
last_member hits l is = (length hits - 1, slice_get_within hits (length hits - 1) l is, get_or_from_slice_get hits (length hits - 1) l l is)

none_last : (hits : List Hit) (h : Hit) → last_of hits ≡ None → Member h hits → ⊥
none_last [] h is member = member
none_last (x ∷ xs) h is member = some_last (x ∷ xs) (length (x ∷ xs) - 1) (omega arith) is
  where
    some_last : (ys : List Hit) (k : ℕ) → k < length ys → slice_get ys k ≡ None → ⊥
    some_last [] k inside e = omega (arith, inside)
    some_last (y ∷ ys) zero inside e = cc
    some_last (y ∷ ys) (suc k) inside e = some_last ys k (omega (arith, inside)) e

module _ (hits : List Hit) (round : ℕ) (fewer : All (λ (h : Hit). h.value.rides < round) hits) where
  rides_less : (h : Hit) → Member h hits → h.value.rides < round
  rides_less h member = of_member (λ (x : Hit). x.value.rides < round) hits h fewer member

  earlier_last : (last : Option Hit) → last_of hits ≡ last → IfSome last (λ h. h.value.rides < round)
  earlier_last None is = tt
  earlier_last (Some l) is = rides_less l (Member-from_Contains l hits (last_member hits l is))

  -- the last hit is of an earlier round
  pub last_earlier : IfSome (last_of hits) (λ h. h.value.rides < round)
  last_earlier = earlier_last (last_of hits) refl

  hit_of_last : (last : Option Hit) → last_of hits ≡ last → (time : ℤ) → ArrivesBy last time → IsHit hits (record { arrive = time; rides = round })
  hit_of_last None is time by = absurd by
  hit_of_last (Some l) is time by = record { by = l; one = last_member hits l is; no_worse = (by, (let less = rides_less l (Member-from_Contains l hits (last_member hits l is)) in omega (arith, less))) }

  -- so where it has arrived, with the rides of this round, a hit is no worse
  pub last_no_worse : (time : ℤ) → ArrivesBy (last_of hits) time → IsHit hits (record { arrive = time; rides = round })
  last_no_worse time by = hit_of_last (last_of hits) refl time by

sooner_by : (best : Option Hit) (a time : ℤ) → ArrivesBy best time → IfSome best (λ b. a <ℤ b.value.arrive) → a <ℤ time
sooner_by None a time by sooner = absurd by
sooner_by (Some b) a time by sooner = omega (arith, ints, by, sooner)

arrives_itself : (h : Hit) → ArrivesBy (Some h) h.value.arrive
arrives_itself h = omega (arith, ints)

module _ (T : TimetableData) (Q : QueryData) (E : DeskData) (hits : List Hit) (round : ℕ) (start : Option Hit) (stairs : AllPairs (λ (h k : Hit). IsStep h.value k.value) hits) (fewer : All (λ (h : Hit). h.value.rides < round) hits)
    (earlier : IfSome start (λ h. h.value.rides < round)) (no_later : (time : ℤ) → ArrivesBy (last_of hits) time → ArrivesBy start time) where
  adds_none : Adds T Q E hits round start start (hits_of round start)
  adds_none = subst (Adds T Q E hits round start start) (sym (hits_of-earlier round start earlier)) (record {
    traced = All-nil (IsTracedHit T Q E.segments);
    one = omega arith;
    later = λ h k a b. absurd b;
    fewer = All-nil (λ (h : Hit). h.value.rides < round + 1);
    by = λ time b. inl b;
  })

  adds_new : (h : Hit) → IsNewHit T Q E round start h → Adds T Q E hits round start (Some h) (hits_of round (Some h))
  adds_new h new = subst (Adds T Q E hits round start (Some h)) (sym (hits_of-same round h new.rides)) (record {
    traced = All-cons (IsTracedHit T Q E.segments) h [] new.traced (All-nil (IsTracedHit T Q E.segments));
    one = omega arith;
    later = λ g k a b. later g k a b;
    fewer = All-cons (λ (x : Hit). x.value.rides < round + 1) h [] (omega (arith, new.rides)) (All-nil (λ (x : Hit). x.value.rides < round + 1));
    by = λ time b. inr (record { by = h; one = Contains-from_Member h (h ∷ []) (inl refl); no_worse = (b, omega (arith, new.rides)) });
  })
    where
      sooner : (g : Hit) → Member g hits → (o : Option Hit) → last_of hits ≡ o → h.value.arrive <ℤ g.value.arrive
      sooner g a None e = absurd (none_last hits g e a)
      sooner g a (Some l) e =
          let first = last_first hits l g stairs e a in
          let less = sooner_by start h.value.arrive l.value.arrive (no_later l.value.arrive (subst (λ o. ArrivesBy o l.value.arrive) (sym e) (arrives_itself l))) new.sooner in
          omega (arith, ints, first, less)

      later : (g k : Hit) → Member g hits → Member k (h ∷ []) → IsStep g.value k.value
      later g k a (inl e) = subst (λ x. IsStep g.value (Hit.value x)) e ((let less = rides_less hits round fewer g a in omega (arith, less, new.rides)), sooner g a (last_of hits) refl)
      later g k a (inr none) = absurd none

  pub adds_best : (best : Option Hit) → IsImproved T Q E round start best → Adds T Q E hits round start best (hits_of round best)
  adds_best best (inl same) = subst (λ b. Adds T Q E hits round start b (hits_of round b)) (sym same) adds_none
  adds_best None (inr new) = absurd new
  adds_best (Some h) (inr new) = adds_new h new

-- the hits after a round
module _ (T : TimetableData) (Q : QueryData) (D E : DeskData) (joined round : ℕ) (start best : Option Hit) (added : List Hit) (extends : AddsSegments D E joined) (adds : Adds T Q E D.hits round start best added) where
  pub traced_next : All (IsTracedHit T Q D.segments) D.hits → All (IsTracedHit T Q E.segments) (D.hits ++ added)
  traced_next traced = All-append (IsTracedHit T Q E.segments) D.hits added (All-weaker (IsTracedHit T Q D.segments) (IsTracedHit T Q E.segments) (λ h t. traced-kept T Q D E joined h extends t) D.hits traced) adds.traced

  pub stairs_next : AllPairs (λ (h k : Hit). IsStep h.value k.value) D.hits → AllPairs (λ (h k : Hit). IsStep h.value k.value) (D.hits ++ added)
  stairs_next stairs = pairs_append (λ (h k : Hit). IsStep h.value k.value) D.hits added stairs (single added adds.one) adds.later
    where
      single : (hs : List Hit) → length hs ≤ 1 → AllPairs (λ (h k : Hit). IsStep h.value k.value) hs
      single hs one = λ i j d a b. absurd (omega (arith, one, a, b))

  pub fewer_next : All (λ (h : Hit). h.value.rides < round) D.hits → All (λ (h : Hit). h.value.rides < round + 1) (D.hits ++ added)
  fewer_next fewer = All-append (λ (h : Hit). h.value.rides < round + 1) D.hits added (All-weaker (λ (h : Hit). h.value.rides < round) (λ (h : Hit). h.value.rides < round + 1) (λ h l. omega (arith, l)) D.hits fewer) adds.fewer

-- what has been done after a round, where one was late by an old measure before it, and is by a new one behind it
module _ (N : NetData) (Q : QueryData) (D E : DeskData) (best : Option Hit) (from to round : ℕ) (to_is : to ≡ length D.segments) (this_round : (n : ℕ) → from ≤ n → n < length D.segments → round_of D.segments n ≡ round) (extends : AddsSegments D E (suc round))
    (Old Late : ℤ → ℕ → Type 0) (still : (time : ℤ) (rides : ℕ) → Old time rides → Late time rides) (by_best : (time : ℤ) → ArrivesBy best time → Late time round) where
  ridden_or_now : (n : ℕ) → (n < from) ⊎ (from ≤ n)
  ridden_or_now n = grind arith

  same : (n : ℕ) → n < to → segment_of E.segments n ≡ segment_of D.segments n
  same n h = extends-segment D E (suc round) extends n (omega (arith, h, to_is))

  same_round : (n : ℕ) → n < to → round_of E.segments n ≡ round_of D.segments n
  same_round n h = extends-round D E (suc round) extends n (omega (arith, h, to_is))

  now_round : (n : ℕ) → n < to → from ≤ n → round_of D.segments n ≡ round
  now_round n h now = this_round n now (omega (arith, h, to_is))

  -- what is late of a segment, once the queue has grown
  late_grown : (n : ℕ) (time : Segment → ℤ) → n < to → Late (time (segment_of D.segments n)) (round_of D.segments n) → Late (time (segment_of E.segments n)) (round_of E.segments n)
  late_grown n time h late =
      subst (λ (s : Segment). Late (time s) (round_of E.segments n)) (sym (same n h))
      (subst (λ r. Late (time (segment_of D.segments n)) r) (sym (same_round n h)) late)

  pub done_before : (n i : ℕ) → n < to → IsFollowed N D n i ⊎ Old (arrival_at N.table (segment_of D.segments n).trip i) (round_of D.segments n) → IsFollowed N E n i ⊎ Late (arrival_at N.table (segment_of E.segments n).trip i) (round_of E.segments n)
  done_before n i h (inl followed) = inl (followed-kept N D E (suc round) n i extends (omega (arith, h, to_is)) followed)
  done_before n i h (inr late) = inr (late_grown n (λ (s : Segment). arrival_at N.table s.trip i) h (still (arrival_at N.table (segment_of D.segments n).trip i) (round_of D.segments n) late))

  pub done_now : (n i : ℕ) → n < to → from ≤ n → IsDone N E best n i → IsFollowed N E n i ⊎ Late (arrival_at N.table (segment_of E.segments n).trip i) (round_of E.segments n)
  done_now n i h now (inl followed) = inl followed
  done_now n i h now (inr late) =
      inr (subst (λ r. Late (arrival_at N.table (segment_of E.segments n).trip i) r) (sym (same_round n h ∙ now_round n h now))
      (by_best (arrival_at N.table (segment_of E.segments n).trip i) late))

  pub done_next : ((n i : ℕ) → from ≤ n → n < to → Covers D n i → IsDone N E best n i) → ((n i : ℕ) → n < from → Covers D n i → IsFollowed N D n i ⊎ Old (arrival_at N.table (segment_of D.segments n).trip i) (round_of D.segments n)) →
      (n i : ℕ) → n < to → Covers E n i → IsFollowed N E n i ⊎ Late (arrival_at N.table (segment_of E.segments n).trip i) (round_of E.segments n)
  done_next followed before n i h covers = elim (ridden_or_now n) [
    | inl old ↦ done_before n i h (before n i old (covers-kept E D n i (same n h) covers))
    | inr now ↦ done_now n i h now (followed n i now h (covers-kept E D n i (same n h) covers))
  ]

  pub offered : (n i q secs : ℕ) → n < to → IsArrivalOffered N.table Q E n i q secs → IsArrivalOffered N.table Q D n i q secs
  offered n i q secs h offer = record {
    alights = subst (λ (s : Segment). MayAlight N.table s.trip i) (same n h) offer.alights;
    target = offer.target;
    walks = subst (λ (s : Segment). walk N.table (stop_at N.table s.trip i) q ≡ Some secs) (same n h) offer.walks;
  }

  pub offers_before : (n i q secs : ℕ) → n < to → Old (arrival_at N.table (segment_of D.segments n).trip i +ℤ pos secs) (round_of D.segments n) → Late (arrival_at N.table (segment_of E.segments n).trip i +ℤ pos secs) (round_of E.segments n)
  offers_before n i q secs h old =
      late_grown n (λ (s : Segment). arrival_at N.table s.trip i +ℤ pos secs) h (still (arrival_at N.table (segment_of D.segments n).trip i +ℤ pos secs) (round_of D.segments n) old)

  pub offers_now : (n i q secs : ℕ) → n < to → from ≤ n → ArrivesBy best (arrival_at N.table (segment_of D.segments n).trip i +ℤ pos secs) → Late (arrival_at N.table (segment_of E.segments n).trip i +ℤ pos secs) (round_of E.segments n)
  offers_now n i q secs h now by =
      late_grown n (λ (s : Segment). arrival_at N.table s.trip i +ℤ pos secs) h
      (subst (λ r. Late (arrival_at N.table (segment_of D.segments n).trip i +ℤ pos secs) r) (sym (now_round n h now)) (by_best (arrival_at N.table (segment_of D.segments n).trip i +ℤ pos secs) by))

  pub offers_next : ((n i : ℕ) → from ≤ n → n < to → Covers D n i → IsBounded N.table Q D best n i) → ((n i q secs : ℕ) → n < from → Covers D n i → IsArrivalOffered N.table Q D n i q secs → Old (arrival_at N.table (segment_of D.segments n).trip i +ℤ pos secs) (round_of D.segments n)) →
      (n i q secs : ℕ) → n < to → Covers E n i → IsArrivalOffered N.table Q E n i q secs → Late (arrival_at N.table (segment_of E.segments n).trip i +ℤ pos secs) (round_of E.segments n)
  offers_next bounded before n i q secs h covers offer = elim (ridden_or_now n) [
    | inl old ↦ offers_before n i q secs h (before n i q secs old (covers-kept E D n i (same n h) covers) (offered n i q secs h offer))
    | inr now ↦ offers_now n i q secs h now (bounded n i now h (covers-kept E D n i (same n h) covers) q secs (offered n i q secs h offer))
  ]

module _ (N : NetData) (Q : QueryData) (D E : DeskData) (best : Option Hit) (from to round : ℕ) (ridden : IsRidden N Q D from round) (to_is : to ≡ length D.segments) (below : from < length D.segments)
    (queue : IsQueue N Q E (suc round)) (extends : AddsSegments D E (suc round)) (dealt : (n i : ℕ) → from ≤ n → n < to → Covers D n i → IsDealtWith N Q E best n i ⊎ IsOutdone N E.segments n i)
    (improved : IsImproved N.table Q E round (last_of D.hits) best) where
  abbrev added : List Hit
  added = hits_of round best

  adds : Adds N.table Q E D.hits round (last_of D.hits) best added
  adds = adds_best N.table Q E D.hits round (last_of D.hits) ridden.stairs ridden.fewer (last_earlier D.hits round ridden.fewer) (λ time by. by) best improved

  abbrev Old : ℤ → ℕ → Type 0
  Old time rides = IsHit D.hits (record { arrive = time; rides = rides })

  abbrev Late : ℤ → ℕ → Type 0
  Late time rides = IsHit (D.hits ++ added) (record { arrive = time; rides = rides })

  still : (time : ℤ) (rides : ℕ) → Old time rides → Late time rides
  still time rides hit = hit-more D.hits added time rides hit

  by_best : (time : ℤ) → ArrivesBy best time → Late time round
  by_best time by = elim (adds.by time by) [ inl last ↦ still time round (last_no_worse D.hits round ridden.fewer time last) | inr new ↦ hit-added D.hits added time round new ]

  next : suc round ≡ round + 1
  next = omega arith

  abbrev Served : ℕ → ℕ → Type 0
  Served n i = IsIndexServed N Q (record E { hits = D.hits ++ added }) n i ⊎ IsOutdone N E.segments n i

  served_before : (n i : ℕ) → n < to → IsIndexServed N Q D n i → IsIndexServed N Q (record E { hits = D.hits ++ added }) n i
  served_before n i h s = record {
    followed = done_before N Q D E best from to round to_is ridden.this_round extends Old Late still by_best n i h s.followed;
    values = λ q secs offer. offers_before N Q D E best from to round to_is ridden.this_round extends Old Late still by_best n i q secs h
        (s.values q secs (offered N Q D E best from to round to_is ridden.this_round extends Old Late still by_best n i q secs h (record { alights = offer.alights; target = offer.target; walks = offer.walks })));
  }

  served_now : (n i : ℕ) → n < to → from ≤ n → IsDealtWith N Q E best n i → IsIndexServed N Q (record E { hits = D.hits ++ added }) n i
  served_now n i h now d =
      let grown = extends-segment D E (suc round) extends n (omega (arith, h, to_is)) in
      let bounded = bounded-same N.table Q E D best n i grown d.bounded in record {
        followed = done_now N Q D E best from to round to_is ridden.this_round extends Old Late still by_best n i h now d.done;
        values = λ q secs offer. offers_now N Q D E best from to round to_is ridden.this_round extends Old Late still by_best n i q secs h now
            (bounded q secs (offered N Q D E best from to round to_is ridden.this_round extends Old Late still by_best n i q secs h (record { alights = offer.alights; target = offer.target; walks = offer.walks })));
      }

  ridden_or_this : (n : ℕ) → (n < from) ⊎ (from ≤ n)
  ridden_or_this n = grind arith

  served_next : (n i : ℕ) → n < to → Covers E n i → Served n i
  served_next n i h covers =
      let inside : n < length D.segments = omega (arith, h, to_is) in
      let before = covers-kept E D n i (extends-segment D E (suc round) extends n inside) covers in
      elim (ridden_or_this n) [
        | inl old ↦ elim (ridden.served n i old before) [ inl s ↦ inl (served_before n i h s) | inr o ↦ inr (outdone-kept N D E (suc round) n i extends inside o) ]
        | inr now ↦ elim (dealt n i now h before) [ inl d ↦ inl (served_now n i h now d) | inr o ↦ inr o ]
      ]

  pub ridden_next : IsRidden N Q (record E { hits = D.hits ++ added }) to (round + 1)
  ridden_next = record {
    queue = subst (IsQueue N Q (record E { hits = D.hits ++ added })) next (queue-hits N Q E (D.hits ++ added) (suc round) queue);
    some_round = omega arith;
    few_rounds = omega (arith, ridden.few_rounds, to_is, below);
    within = omega (arith, to_is, extends-long D E (suc round) extends);
    this_round = λ n h inside. extends.rounds n (omega (arith, h, to_is)) inside ∙ next;
    boarded = λ place h. λ stop secs walks first. λ t b boards not_last here in_time.
        extends-reached N.table D E (suc round) (length D.segments) (length E.segments) 1 1 t b extends (ridden.boarded place h stop secs walks first t b boards not_last here in_time) (omega arith) (extends-long D E (suc round) extends) (omega arith);
    served = λ n i h covers. served_next n i h (record { onward = covers.onward; within = covers.within });
    walks = λ p q secs a b w. hit-more D.hits added (Q.leave +ℤ pos secs) 0 (ridden.walks p q secs a b w);
    traced = traced_next N.table Q D E (suc round) round (last_of D.hits) best added extends adds ridden.traced;
    stairs = stairs_next N.table Q D E (suc round) round (last_of D.hits) best added extends adds ridden.stairs;
    fewer = fewer_next N.table Q D E (suc round) round (last_of D.hits) best added extends adds ridden.fewer;
    few_hits = omega (arith, length-append D.hits added, adds.one, ridden.few_hits);
  }

  -- what has been met stays so; what of this round was late, or is, some hit is no worse than now
  pub met_next : (old new : ℕ → ℕ → ℕ → Type 0) → ((t i r : ℕ) → old t i r → new t i r) → ((n i : ℕ) → n < from → Covers D n i → IsMetUnlessHit N old D n i) → ((n i : ℕ) → from ≤ n → n < to → Covers D n i → IsMetInTime N new E best n i)
      → (n i : ℕ) → n < to → Covers (record E { hits = D.hits ++ added }) n i → IsMetUnlessHit N new (record E { hits = D.hits ++ added }) n i
  met_next old new more before now n i h covers =
      let inside : n < length D.segments = omega (arith, h, to_is) in
      let grown : segment_of E.segments n ≡ segment_of D.segments n = extends-segment D E (suc round) extends n inside in
      let rides : round_of E.segments n ≡ round_of D.segments n = extends-round D E (suc round) extends n inside in
      let was : Covers D n i = covers-kept E D n i grown (record { onward = covers.onward; within = covers.within }) in
      elim (ridden_or_this n) [
        | inl earlier ↦ elim (before n i earlier was) [
          | inl met ↦ inl (met-grown D E n i old new more grown rides met)
          | inr late ↦ elim late [
            | inl hit ↦ inr (inl (late_grown N Q D E best from to round to_is ridden.this_round extends Old Late still by_best n (λ (s : Segment). arrival_at N.table s.trip i) h (still (arrival_at N.table (segment_of D.segments n).trip i) (round_of D.segments n) hit)))
            | inr o ↦ inr (inr (outdone-kept N D E (suc round) n i extends inside o))
          ]
        ]
        | inr this ↦ elim (now n i this h was) [
          | inl met ↦ inl met
          | inr late ↦ elim late [
            | inl by ↦ inr (inl (subst (λ r. Late (arrival_at N.table (segment_of E.segments n).trip i) r) (sym (rides ∙ ridden.this_round n this inside)) (by_best (arrival_at N.table (segment_of E.segments n).trip i) by)))
            | inr o ↦ inr (inr o)
          ]
        ]
      ]
