-- What a sweep keeps when a trip is entered at a level.
use Rattle.std.proofs.Common.{◌≡◌, ◌∙◌, ℕ, suc, ◌+◌, ◌<◌, ◌≤◌, ◌⊎◌, inl, inr, List, [], ◌∷◌, ◌++◌, length, sym, ap, subst, arith, Option, Some, length-append}
use Rattle.std.specs.Prelude.{All, Contains}
use Rattle.std.proofs.lemmas.List.Elements.{All-push}
use Rattle.std.proofs.lemmas.List.Sums.{fold-append}
use Rattle.tb_base.specs.Network.{NetData}
use Rattle.tb_base.specs.TimetableData.{events_of}
use Rattle.tb_base.specs.BestValues.{QueryData}
use Rattle.tb_base.specs.Lines.{AreDividedInto}
use Rattle.tb_base.specs.Search.{RoundSegment, IsCovered}
use Rattle.tb_base.proofs.NumberFacts.{below_or_at}
use Rattle.segment_queue.specs.declared.desk.Segment.{Segment}
use Rattle.segment_queue.specs.Levels.{AreKept, EntersLevel, level_mark, level_segment}
use Rattle.segment_queue.specs.Queue.{DeskData, IsFalling, IsSoundSegment}
use Rattle.segment_queue.specs.Traced.{IsEntered, UsesHops, round_after, round_of, round_segments, segment_of, with_round}
use Rattle.segment_queue.proofs.KeptLevels.{level_descending, level_entered, level_falls_on, level_reached, level_refused}
use Rattle.earliest_query.specs.Sweeping.{IsSweptQueue}
use Rattle.earliest_query.specs.UnderWay.{AddsSegments, IsReachedBy}
use Rattle.segment_queue.proofs.Rounds.{length-round_segments, round_of-kept, segment_at-last, segment_of-kept, segment_of-last}
use Rattle.earliest_query.proofs.Growing.{covered-kept, entered-kept}

module _ (N : NetData) (Q : QueryData) (D : DeskData) (levels : List (List (Option ℕ))) (k trip at : ℕ) (parent : Option (ℕ × ℕ)) (divided : AreDividedInto N.table N.lines) (inside : trip < length N.table.trips) (level : k < length levels)
    (queue : IsSweptQueue N Q D levels) where
  long : length (round_segments D.segments) ≡ length D.segments
  long = length-round_segments D.segments

  -- the index isn't below the trip's mark at the level: a segment has reached the trip there
  pub swept_before : level_mark N.table levels k trip ≤ at → at + 1 < length (events_of N.table trip) → IsReachedBy N.table D (length D.segments) (suc k) trip at
  swept_before refused not_last = subst (λ n. IsCovered N.table (round_segments D.segments) n (suc k) trip at) long (level_refused N.table levels (round_segments D.segments) queue.kept k trip at inside level refused not_last)

  module _ (D' : DeskData) (levels' : List (List (Option ℕ))) (enters : EntersLevel N k trip at levels levels') (below : at < level_mark N.table levels k trip) (same_round : round_after (round_segments D.segments) parent ≡ suc k)
      (boards : IsEntered N.table Q D.segments (length D.segments) parent trip at) (in_set : (p : ℕ × ℕ) → parent ≡ Some p → Contains (N.hops (segment_of D.segments p.0).trip p.1) (record { trip = trip; at = at }))
      (room : All (λ marks. length N.table.trips ≤ length marks) levels') (falling : All (λ marks. All (IsFalling N.table marks) N.lines) levels')
      (is : D'.segments ≡ D.segments ++ record { trip = trip; board = at; end = level_mark N.table levels k trip; parent = parent } ∷ []) (hits : D'.hits ≡ D.hits) where
    abbrev new : Segment
    new = record { trip = trip; board = at; end = level_mark N.table levels k trip; parent = parent }

    abbrev all : List Segment
    all = D.segments ++ new ∷ []

    abbrev Ends : ℕ → ℕ → Segment → Type 0
    Ends m r s = (length (events_of N.table s.trip) ≤ suc s.end) ⊎ IsCovered N.table (round_segments all) m r s.trip s.end

    abbrev By : ℕ → Segment → Segment → Type 0
    By i s before = Contains (N.hops before.trip i) (record { trip = s.trip; at = s.board })

    longer : length all ≡ length D.segments + 1
    longer = omega (arith, length-append D.segments (new ∷ []))

    new_of : segment_of all (length D.segments) ≡ new
    new_of = segment_of-last D.segments new

    new_round : round_of all (length D.segments) ≡ suc k
    new_round = ap (λ (r : RoundSegment). r.round) (segment_at-last D.segments new) ∙ same_round

    rounds_are : round_segments all ≡ round_segments D.segments ++ level_segment N.table levels k trip at ∷ []
    rounds_are = fold-append with_round [] D.segments (new ∷ []) ∙ ap (λ r. round_segments D.segments ++ record { trip = trip; board = at; end = level_mark N.table levels k trip; round = r } ∷ []) same_round

    long_all : length (round_segments all) ≡ length all
    long_all = length-round_segments all

    entered_all : (n : ℕ) → n < length all → IsEntered N.table Q all n (segment_of all n).parent (segment_of all n).trip (segment_of all n).board
    entered_all n h =
        elim (below_or_at n (length D.segments) (omega (arith, h, longer))) [
          | inl m ↦ subst (λ (s : Segment). IsEntered N.table Q all n s.parent s.trip s.board) (sym (segment_of-kept D.segments (new ∷ []) n m))
              (entered-kept N.table Q D.segments (new ∷ []) n (segment_of D.segments n).parent (segment_of D.segments n).trip (segment_of D.segments n).board (omega (arith, m)) (queue.entered n m))
          | inr e ↦ subst (λ m. IsEntered N.table Q all m (segment_of all m).parent (segment_of all m).trip (segment_of all m).board) (sym e)
              (subst (λ (s : Segment). IsEntered N.table Q all (length D.segments) s.parent s.trip s.board) (sym new_of) (entered-kept N.table Q D.segments (new ∷ []) (length D.segments) parent trip at (omega arith) boards))
        ]

    rounds_all : (n : ℕ) → n < length all → round_of all n ≤ length levels'
    rounds_all n h =
        elim (below_or_at n (length D.segments) (omega (arith, h, longer))) [
          | inl m ↦ omega (arith, round_of-kept D.segments (new ∷ []) n m, queue.rounds n m, enters.long)
          | inr e ↦ subst (λ m. round_of all m ≤ length levels') (sym e) (omega (arith, new_round, level, enters.long))
        ]

    ends_all : (n : ℕ) → n < length all → Ends n (round_of all n) (segment_of all n)
    ends_all n h = by_place (below_or_at n (length D.segments) (omega (arith, h, longer)))
      where
        new_ends : Ends (length D.segments) (suc k) new
        new_ends =
            elim (queue.kept k trip level inside) [
              | inl last ↦ inl last
              | inr c ↦ inr (covered-kept N.table D.segments (new ∷ []) (length (round_segments D.segments)) (length D.segments) (suc k) (suc k) trip (level_mark N.table levels k trip) c (omega (arith, long)) (omega (arith, long)) (omega arith))
            ]

        by_place : (n < length D.segments) ⊎ (n ≡ length D.segments) → Ends n (round_of all n) (segment_of all n)
        by_place (inl m) =
            subst (λ (s : Segment). Ends n (round_of all n) s) (sym (segment_of-kept D.segments (new ∷ []) n m))
            (subst (λ r. Ends n r (segment_of D.segments n)) (sym (round_of-kept D.segments (new ∷ []) n m))
            (elim (queue.ends n m) [
              | inl last ↦ inl last
              | inr c ↦ inr (covered-kept N.table D.segments (new ∷ []) n n (round_of D.segments n) (round_of D.segments n) (segment_of D.segments n).trip (segment_of D.segments n).end c (omega (arith, m)) (omega arith) (omega arith))
            ]))
        by_place (inr e) =
            subst (λ m. Ends m (round_of all m) (segment_of all m)) (sym e)
            (subst (λ (s : Segment). Ends (length D.segments) (round_of all (length D.segments)) s) (sym new_of)
            (subst (λ r. Ends (length D.segments) r new) (sym new_round) new_ends))

    by_hops_all : UsesHops N.hops all
    by_hops_all n p h from = by_place (below_or_at n (length D.segments) (omega (arith, h, longer)))
      where
        earlier_of : (o : Option (ℕ × ℕ)) (m t b : ℕ) (xs : List Segment) → o ≡ Some p → IsEntered N.table Q xs m o t b → p.0 < m
        earlier_of o m t b xs e entered = (subst (λ x. IsEntered N.table Q xs m x t b) e entered).earlier

        by_place : (n < length D.segments) ⊎ (n ≡ length D.segments) → By p.1 (segment_of all n) (segment_of all p.0)
        by_place (inl m) =
            let here : segment_of all n ≡ segment_of D.segments n = segment_of-kept D.segments (new ∷ []) n m in
            let is_old : (segment_of D.segments n).parent ≡ Some p = sym (ap (λ (s : Segment). s.parent) here) ∙ from in
            let below_n : p.0 < n = earlier_of (segment_of D.segments n).parent n (segment_of D.segments n).trip (segment_of D.segments n).board D.segments is_old (queue.entered n m) in
            subst (λ (s : Segment). By p.1 s (segment_of all p.0)) (sym here)
            (subst (λ (s : Segment). By p.1 (segment_of D.segments n) s) (sym (segment_of-kept D.segments (new ∷ []) p.0 (omega (arith, below_n, m)))) (queue.by_hops n p m is_old))
        by_place (inr e) =
            let here : segment_of all n ≡ new = ap (segment_of all) e ∙ new_of in
            let is_new : parent ≡ Some p = sym (ap (λ (s : Segment). s.parent) here) ∙ from in
            let below_n : p.0 < length D.segments = earlier_of parent (length D.segments) trip at D.segments is_new boards in
            subst (λ (s : Segment). By p.1 s (segment_of all p.0)) (sym here)
            (subst (λ (s : Segment). By p.1 new s) (sym (segment_of-kept D.segments (new ∷ []) p.0 below_n)) (in_set p is_new))

    pub swept-entered : IsSweptQueue N Q D' levels'
    swept-entered = record {
      sound = subst (All (IsSoundSegment N.table)) (sym is) (All-push (IsSoundSegment N.table) D.segments new queue.sound (record { trip = inside; onward = below; within = queue.within k trip level inside }));
      entered = subst (λ xs. (n : ℕ) → n < length xs → IsEntered N.table Q xs n (segment_of xs n).parent (segment_of xs n).trip (segment_of xs n).board) (sym is) entered_all;
      by_hops = subst (λ xs. UsesHops N.hops xs) (sym is) by_hops_all;
      rounds = subst (λ xs. (n : ℕ) → n < length xs → round_of xs n ≤ length levels') (sym is) rounds_all;
      some_level = omega (arith, level, enters.long);
      ends = subst (λ xs. (n : ℕ) → n < length xs → (length (events_of N.table (segment_of xs n).trip) ≤ suc (segment_of xs n).end) ⊎ IsCovered N.table (round_segments xs) n (round_of xs n) (segment_of xs n).trip (segment_of xs n).end) (sym is) ends_all;
      kept = subst (λ xs. AreKept N.table levels' (round_segments xs)) (sym is) (subst (AreKept N.table levels') (sym rounds_are) (level_entered N divided levels (round_segments D.segments) queue.kept k trip at inside level levels' enters));
      descending = level_descending N divided levels (round_segments D.segments) queue.kept k trip at inside level levels' enters queue.descending;
      room = room;
      falling = falling;
      within = λ m t there trip_inside. (let old = queue.within m t (omega (arith, there, enters.long)) trip_inside in omega (arith, old, level_falls_on N k trip at levels levels' enters m t (omega (arith, there, enters.long)) trip_inside));
    }

    pub swept-reached : IsReachedBy N.table D' (length D'.segments) (suc k) trip at
    swept-reached = subst (λ xs. IsCovered N.table (round_segments xs) (length xs) (suc k) trip at) (sym is)
        (subst (λ n. IsCovered N.table (round_segments all) n (suc k) trip at) long_all
        (subst (λ rs. IsCovered N.table rs (length rs) (suc k) trip at) (sym rounds_are) (level_reached N divided levels (round_segments D.segments) queue.kept k trip at inside level levels' enters)))

    pub swept-extends : AddsSegments D D' (suc k)
    swept-extends = record {
      more = new ∷ [];
      segments = is;
      rounds = subst (λ xs. (n : ℕ) → length D.segments ≤ n → n < length xs → round_of xs n ≡ suc k) (sym is)
          (λ n h m. let e : length D.segments ≡ n = omega (arith, h, m, longer) in subst (λ i. round_of all i ≡ suc k) e new_round);
      hits = hits;
    }
