-- A round of a sweep: what bounds it when it begins, and what it leaves.
use Rattle.std.proofs.Common.{◌≡◌, ◌∙◌, ℕ, suc, ◌+◌, ◌-◌, ◌<◌, ◌≤◌, ◌⊎◌, inl, inr, List, [], ◌∷◌, ◌++◌, Bool, true, false, cond, length, map, get_or, refl, sym, subst, arith, Option, ℤ, pos, ◌+ℤ◌, nat_le, length-append}
use Rattle.std.specs.Prelude.{All, Contains, IfSome}
use Rattle.std.proofs.lemmas.Bool.Decides.{nat_tests}
use Rattle.std.proofs.lemmas.List.{map-append}
use Rattle.std.proofs.lemmas.List.Elements.{All-append, All-map, All-weaker}
use Rattle.tb_base.specs.Network.{NetData}
use Rattle.tb_base.specs.declared.query.Value.{Value}
use Rattle.tb_base.specs.BestValues.{IsAttained, QueryData}
use Rattle.tb_base.proofs.Ordered.{Member, Member-from_Contains, Contains-from_Member}
use Rattle.tb_base.proofs.Members.{Member-append, Member-left, Member-right}
use Rattle.tb_laws.specs.Pruning.{IsLate}
use Rattle.segment_queue.specs.declared.desk.Hit.{Hit}
use Rattle.segment_queue.specs.Levels.{with_level}
use Rattle.segment_queue.specs.Queue.{DeskData, IsFalling}
use Rattle.segment_queue.specs.Traced.{IsTracedHit, round_segments}
use Rattle.segment_queue.proofs.KeptLevels.{level_made, made_all, made_descending, made_within}
use Rattle.earliest_query.specs.Choices.{ArrivesBy, earlier_hit, hits_of, last_of}
use Rattle.earliest_query.specs.Bounding.{IsBestBefore, bounding_hit, earlier_value}
use Rattle.earliest_query.specs.Sweeping.{IsSweptQueue, IsSweptRound, values_with}
use Rattle.earliest_query.specs.UnderWay.{Covers, AddsSegments, IsBounded, IsDone, IsHit, IsImproved}
use Rattle.earliest_query.proofs.Growing.{extends-long, extends-reached}
use Rattle.earliest_query.proofs.Nearest.{contains_left, contains_right}
use Rattle.earliest_query.proofs.BestSoFar.{earlier_kept, earlier_still}
use Rattle.earliest_query.proofs.Reaching.{hit_attained}
use Rattle.earliest_query.proofs.Keeping.{Adds, adds_best, done_next, fewer_next, hit-added, last_earlier, last_no_worse, offers_next, stairs_next, traced_next, value_member}

abbrev hit_values : List Hit → List Value
hit_values hits = map (λ (h : Hit). h.value) hits

-- a hit that is no worse makes it late
pub hit_late : (hits : List Hit) (values : List Value) (time : ℤ) (rides : ℕ) → IsHit hits (record { arrive = time; rides = rides }) → IsLate (values_with hits values) time rides
hit_late hits values time rides hit = (
  hit.by.value,
  contains_left (hit_values hits) values hit.by.value (Contains-from_Member hit.by.value (hit_values hits) (value_member hit.by hits (Member-from_Contains hit.by hits hit.one))),
  hit.no_worse,
)

-- what is late stays late when hits are added
pub late_more : (hits added : List Hit) (values : List Value) (time : ℤ) (rides : ℕ) → IsLate (values_with hits values) time rides → IsLate (values_with (hits ++ added) values) time rides
late_more hits added values time rides late = (late.0, Contains-from_Member late.0 (values_with (hits ++ added) values) (subst (λ vs. Member late.0 (vs ++ values)) (sym (map-append (λ (h : Hit). h.value) hits added)) member), late.2)
  where
    member : Member late.0 ((hit_values hits ++ hit_values added) ++ values)
    member = elim (Member-append late.0 (hit_values hits) values (Member-from_Contains late.0 (values_with hits values) late.1)) [
      | inl k ↦ Member-left late.0 (hit_values hits ++ hit_values added) values (Member-left late.0 (hit_values hits) (hit_values added) k)
      | inr k ↦ Member-right late.0 (hit_values hits ++ hit_values added) values k
    ]

-- the last hit is a best before the round
pub best_at_start : (hits : List Hit) (values : List Value) (round : ℕ) → All (λ (h : Hit). h.value.rides < round) hits → IsBestBefore hits values round (last_of hits)
best_at_start hits values round fewer = record {
  earlier = last_earlier hits round fewer;
  last = λ time by. by;
  late = λ time by. hit_late hits values time round (last_no_worse hits round fewer time by);
}

-- and so is the earlier of that and one of the values
pub best_more : (hits : List Hit) (values : List Value) (round : ℕ) (best : Option Hit) (v : Value) → 1 ≤ round → Contains values v → IsBestBefore hits values round best → IsBestBefore hits values round (earlier_value round best v)
best_more hits values round best v some one old = by_test (nat_le v.rides round) refl
  where
    bound : Hit
    bound = bounding_hit v.arrive

    by_test : (b : Bool) → b ≡ nat_le v.rides round → IsBestBefore hits values round (cond b (earlier_hit best bound) best)
    by_test false e = old
    by_test true e =
        let few : v.rides ≤ round = grind (arith, nat_tests, e) in
        record {
          earlier = elim (earlier_kept best bound) [
            | inl s ↦ subst (λ o. IfSome o (λ h. h.value.rides < round)) (sym s) old.earlier
            | inr s ↦ subst (λ o. IfSome o (λ h. h.value.rides < round)) (sym s) (omega (arith, some))
          ];
          last = λ time by. earlier_still best bound time (old.last time by);
          late = λ time by. elim (earlier_kept best bound) [
            | inl s ↦ old.late time (subst (λ o. ArrivesBy o time) s by)
            | inr s ↦ (v, contains_right (hit_values hits) values v one, (subst (λ o. ArrivesBy o time) s by, few))
          ];
        }

-- a queue is swept whatever else its desk holds
pub swept_queue-on : (N : NetData) (Q : QueryData) (D F : DeskData) (levels : List (List (Option ℕ))) → F.segments ≡ D.segments → IsSweptQueue N Q D levels → IsSweptQueue N Q F levels
swept_queue-on N Q D F levels same q = subst (λ xs. IsSweptQueue N Q (record F { segments = xs }) levels) (sym same) (record {
  sound = q.sound;
  entered = q.entered;
  by_hops = q.by_hops;
  rounds = q.rounds;
  some_level = q.some_level;
  ends = q.ends;
  kept = q.kept;
  descending = q.descending;
  room = q.room;
  falling = q.falling;
  within = q.within;
})

-- a level more may have been made
pub swept_queue-made : (N : NetData) (Q : QueryData) (D : DeskData) (levels made : List (List (Option ℕ))) → 0 < length levels → (made ≡ levels) ⊎ (made ≡ with_level levels) → IsSweptQueue N Q D levels → IsSweptQueue N Q D made
swept_queue-made N Q D levels made some (inl same) q = subst (IsSweptQueue N Q D) (sym same) q
swept_queue-made N Q D levels made some (inr more) q = subst (IsSweptQueue N Q D) (sym more) (record {
  sound = q.sound;
  entered = q.entered;
  by_hops = q.by_hops;
  rounds = λ n h. omega (arith, q.rounds n h, length-append levels (get_or levels (length levels - 1) [] ∷ []));
  some_level = omega (arith, some, length-append levels (get_or levels (length levels - 1) [] ∷ []));
  ends = q.ends;
  kept = level_made N.table levels some (round_segments D.segments) q.kept;
  descending = made_descending N.table levels some q.descending;
  room = made_all (λ marks. length N.table.trips ≤ length marks) levels some q.room;
  falling = made_all (λ marks. All (IsFalling N.table marks) N.lines) levels some q.falling;
  within = made_within N.table levels some q.within;
})

-- there is a level for the rides of a round that has a segment
pub level_there : (N : NetData) (Q : QueryData) (D : DeskData) (levels : List (List (Option ℕ))) (values : List Value) (from round : ℕ) → IsSweptRound N Q D levels values from round → from < length D.segments → round ≤ length levels
level_there N Q D levels values from round swept inside = omega (arith, swept.queue.rounds from inside, swept.this_round from (omega arith) inside)

module _ (N : NetData) (Q : QueryData) (D E F : DeskData) (levels levels' : List (List (Option ℕ))) (values : List Value) (start best : Option Hit) (from to round : ℕ) (swept : IsSweptRound N Q D levels values from round) (to_is : to ≡ length D.segments)
    (queue : IsSweptQueue N Q E levels') (extends : AddsSegments D E (suc round)) (followed : (n i : ℕ) → from ≤ n → n < to → Covers D n i → IsDone N E best n i) (bounded : (n i : ℕ) → from ≤ n → n < to → Covers D n i → IsBounded N.table Q D best n i)
    (begins : IsBestBefore D.hits values round start) (improved : IsImproved N.table Q E round start best) (segments_are : F.segments ≡ E.segments) (hits_are : F.hits ≡ D.hits ++ hits_of round best) where
  abbrev added : List Hit
  added = hits_of round best

  adds : Adds N.table Q E D.hits round start best added
  adds = adds_best N.table Q E D.hits round start swept.stairs swept.fewer begins.earlier begins.last best improved

  abbrev Old : ℤ → ℕ → Type 0
  Old time rides = IsLate (values_with D.hits values) time rides

  abbrev Late : ℤ → ℕ → Type 0
  Late time rides = IsLate (values_with (D.hits ++ added) values) time rides

  still : (time : ℤ) (rides : ℕ) → Old time rides → Late time rides
  still time rides late = late_more D.hits added values time rides late

  by_best : (time : ℤ) → ArrivesBy best time → Late time round
  by_best time by = elim (adds.by time by) [ inl first ↦ still time round (begins.late time first) | inr new ↦ hit_late (D.hits ++ added) values time round (hit-added D.hits added time round new) ]

  traced : All (IsTracedHit N.table Q E.segments) (D.hits ++ added)
  traced = traced_next N.table Q D E (suc round) round start best added extends adds swept.traced

  attained : All (IsAttained N.table Q) (values_with (D.hits ++ added) values)
  attained = All-append (IsAttained N.table Q) (hit_values (D.hits ++ added)) values
      (All-map (IsAttained N.table Q) (λ (h : Hit). h.value) (D.hits ++ added) (All-weaker (IsTracedHit N.table Q E.segments) (λ (h : Hit). IsAttained N.table Q h.value) (λ h t. hit_attained N.table Q E.segments queue.entered h t) (D.hits ++ added) traced))
      swept.attained

  next : suc round ≡ round + 1
  next = omega arith

  -- the round after, on the desk that keeps the best hit of this one
  swept_on_kept : IsSweptRound N Q (record F { segments = E.segments; hits = D.hits ++ added }) levels' values to (round + 1)
  swept_on_kept = record {
    queue = swept_queue-on N Q E (record F { segments = E.segments; hits = D.hits ++ added }) levels' refl queue;
    gone_on = record {
      done = λ n i h covers. done_next N Q D E best from to round to_is swept.this_round extends Old Late still by_best followed swept.gone_on.done n i h (record { onward = covers.onward; within = covers.within });
      offers = λ n i q secs h covers offer. offers_next N Q D E best from to round to_is swept.this_round extends Old Late still by_best bounded swept.gone_on.offers n i q secs h
          (record { onward = covers.onward; within = covers.within }) (record { alights = offer.alights; target = offer.target; walks = offer.walks });
      attained = attained;
    };
    starts = λ p t b secs from boards not_last walks in_time.
        extends-reached N.table D E (suc round) (length D.segments) (length E.segments) 1 1 t b extends (swept.starts p t b secs from boards not_last walks in_time) (omega arith) (extends-long D E (suc round) extends) (omega arith);
    walks = λ p q secs a b w. still (Q.leave +ℤ pos secs) 0 (swept.walks p q secs a b w);
    some_round = omega arith;
    within = omega (arith, to_is, extends-long D E (suc round) extends);
    this_round = λ n h inside. extends.rounds n (omega (arith, h, to_is)) inside ∙ next;
    traced = traced;
    stairs = stairs_next N.table Q D E (suc round) round start best added extends adds swept.stairs;
    fewer = fewer_next N.table Q D E (suc round) round start best added extends adds swept.fewer;
    attained = swept.attained;
  }

  pub swept_next : IsSweptRound N Q F levels' values to (round + 1)
  swept_next =
      subst (λ xs. IsSweptRound N Q (record F { segments = xs }) levels' values to (round + 1)) (sym segments_are)
      (subst (λ hs. IsSweptRound N Q (record F { segments = E.segments; hits = hs }) levels' values to (round + 1)) (sym hits_are) swept_on_kept)
