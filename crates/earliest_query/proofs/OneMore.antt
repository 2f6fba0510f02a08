-- A queue stays one when a trip is entered.
use Rattle.std.proofs.Common.{Bool, true, false, IsTrue, ◌↔◌, MatchBool, ◌≡◌, ◌∙◌, ℕ, suc, ◌+◌, ◌<◌, ◌≤◌, ◌⊎◌, inl, inr, List, [], ◌∷◌, ◌++◌, length, refl, sym, ap, subst, arith, Option, Some, length-append}
use Rattle.std.specs.Prelude.{Contains, min}
use Rattle.std.proofs.lemmas.Bool.{cases_lt}
use Rattle.tb_base.specs.Network.{NetData}
use Rattle.tb_base.specs.TimetableData.{events_of}
use Rattle.tb_base.specs.BestValues.{QueryData}
use Rattle.tb_base.specs.Lines.{AreDividedInto, IsTripNoLater}
use Rattle.tb_base.specs.Search.{RoundSegment, IsCovered, segment_at}
use Rattle.tb_base.proofs.NumberFacts.{below_or_at}
use Rattle.tb_base.proofs.LineFacts.{no_later}
use Rattle.segment_queue.specs.declared.desk.Segment.{Segment}
use Rattle.segment_queue.specs.Scans.{trips_from}
use Rattle.segment_queue.specs.Queue.{DeskData, EntersSegment, IsInStep, mark_of}
use Rattle.segment_queue.specs.Traced.{IsEntered, UsesHops, round_after, round_of, round_segments, segment_of}
use Rattle.segment_queue.proofs.Distinct.{member_or_not}
use Rattle.segment_queue.proofs.LineParts.{trips_no_later}
use Rattle.segment_queue.proofs.LoweredMarks.{lowered-in, lowered-out}
use Rattle.earliest_query.specs.UnderWay.{room_of, AddsSegments, IsQueue, IsReachedAhead, IsReachedBy, trips_left}
use Rattle.earliest_query.proofs.Ahead.{left_behind}
use Rattle.segment_queue.proofs.Rounds.{segment_at-last, segment_of-last, segment_of-kept, round_of-kept}
use Rattle.earliest_query.proofs.Growing.{ahead-kept, entered-kept, extends-refl}

module _ (N : NetData) (Q : QueryData) (D : DeskData) (round trip at : ℕ) (parent : Option (ℕ × ℕ)) (divided : AreDividedInto N.table N.lines) (inside : trip < length N.table.trips) (queue : IsQueue N Q D round) where
  -- the index isn't below the trip's mark: a segment has reached the trip there
  pub reached_before : mark_of N.table D.marks trip ≤ at → at + 1 < length (events_of N.table trip) → IsReachedBy N.table D (length D.segments) round trip at
  reached_before refused not_last =
      elim (queue.marked trip inside) [
        | inl last ↦ absurd (omega (arith, last, refused, not_last))
        | inr c ↦ record { by = c.cover.by; within = c.cover.within; by_then = c.cover.by_then; trip = c.cover.trip; board = omega (arith, c.cover.board, refused) }
      ]

  module _ (D' : DeskData) (step : IsInStep N D') (enters : EntersSegment N trip at parent D D') (below : at < mark_of N.table D.marks trip) (same_round : round_after (round_segments D.segments) parent ≡ round)
      (boards : IsEntered N.table Q D.segments (length D.segments) parent trip at) (in_set : (p : ℕ × ℕ) → parent ≡ Some p → Contains (N.hops (segment_of D.segments p.0).trip p.1) (record { trip = trip; at = at })) where
    abbrev new : Segment
    new = record { trip = trip; board = at; end = mark_of N.table D.marks trip; parent = parent }

    abbrev all : List Segment
    all = D.segments ++ new ∷ []

    abbrev Ends : ℕ → ℕ → Segment → Type 0
    Ends m r s = (length (events_of N.table s.trip) ≤ suc s.end) ⊎ IsReachedAhead N all m r s.trip s.end

    abbrev By : ℕ → Segment → Segment → Type 0
    By i s before = Contains (N.hops before.trip i) (record { trip = s.trip; at = s.board })

    longer : length all ≡ length D.segments + 1
    longer = omega (arith, length-append D.segments (new ∷ []))

    new_at : segment_at (round_segments all) (length D.segments) ≡ record { trip = trip; board = at; end = mark_of N.table D.marks trip; round = round }
    new_at = segment_at-last D.segments new ∙ ap (λ r. record { trip = trip; board = at; end = mark_of N.table D.marks trip; round = r }) same_round

    new_of : segment_of all (length D.segments) ≡ new
    new_of = segment_of-last D.segments new

    new_round : round_of all (length D.segments) ≡ round
    new_round = ap (λ (r : RoundSegment). r.round) new_at

    -- the new segment reaches its trip and those after it on the line
    by_new : (u b : ℕ) → IsTripNoLater N.table trip u → at ≤ b → IsCovered N.table (round_segments all) (length all) round u b
    by_new u b no_later behind = record {
      by = length D.segments;
      within = omega (arith, longer);
      by_then = omega (arith, new_round);
      trip = subst (λ (r : RoundSegment). IsTripNoLater N.table r.trip u) (sym new_at) no_later;
      board = omega (arith, ap (λ (r : RoundSegment). r.board) new_at, behind);
    }

    by_new_ahead : (u b : ℕ) → IsTripNoLater N.table trip u → trips_left N u ≤ trips_left N trip → at ≤ b → IsReachedAhead N all (length all) round u b
    unfolding by_new
    by_new_ahead u b follows no_more behind = record { cover = by_new u b follows behind; ahead = omega (arith, no_more, ap (λ (s : Segment). trips_left N s.trip) new_of) }

    reached_all : IsCovered N.table (round_segments all) (length all) round trip at
    reached_all = by_new trip at (no_later N.table trip trip (inl refl)) (omega arith)

    old_cover : (u b : ℕ) → IsReachedAhead N D.segments (length D.segments) round u b → IsReachedAhead N all (length all) round u b
    old_cover u b c = ahead-kept N D.segments (new ∷ []) (length D.segments) (length all) round round u b c (omega arith) (omega (arith, longer)) (omega arith)

    marked_all : (u : ℕ) → u < length N.table.trips → (length (events_of N.table u) ≤ suc (mark_of N.table D'.marks u)) ⊎ IsReachedAhead N all (length all) round u (mark_of N.table D'.marks u)
    marked_all u h =
        elim (member_or_not u (trips_from N.lines trip)) [
          | inl e ↦ by_mark (cases_lt at (mark_of N.table D.marks u)) (enters.marks u h ∙ lowered-in (trips_from N.lines trip) at u (mark_of N.table D.marks u) e.1) (trips_no_later N.table N.lines trip u divided e.0) (left_behind trip u N.lines divided.once e.0)
          | inr e ↦ old (enters.marks u h ∙ lowered-out (trips_from N.lines trip) at u (mark_of N.table D.marks u) e.1)
        ]
      where
        old : mark_of N.table D'.marks u ≡ mark_of N.table D.marks u → (length (events_of N.table u) ≤ suc (mark_of N.table D'.marks u)) ⊎ IsReachedAhead N all (length all) round u (mark_of N.table D'.marks u)
        old e =
            elim (queue.marked u h) [
              | inl last ↦ inl (omega (arith, last, e))
              | inr c ↦ inr (subst (λ m. IsReachedAhead N all (length all) round u m) (sym e) (old_cover u (mark_of N.table D.marks u) c))
            ]

        by_mark : (at < mark_of N.table D.marks u) ⊎ (mark_of N.table D.marks u ≤ at) → mark_of N.table D'.marks u ≡ min (mark_of N.table D.marks u) at → IsTripNoLater N.table trip u → trips_left N u ≤ trips_left N trip → (length (events_of N.table u) ≤ suc (mark_of N.table D'.marks u)) ⊎ IsReachedAhead N all (length all) round u (mark_of N.table D'.marks u)
        by_mark (inl above) e follows no_more = inr (by_new_ahead u (mark_of N.table D'.marks u) follows no_more (omega (arith, e, above)))
        by_mark (inr low) e follows no_more = old (omega (arith, e, low))

    entered_all : (n : ℕ) → n < length all → IsEntered N.table Q all n (segment_of all n).parent (segment_of all n).trip (segment_of all n).board
    entered_all n h =
        elim (below_or_at n (length D.segments) (omega (arith, h, longer))) [
          | inl k ↦ subst (λ (s : Segment). IsEntered N.table Q all n s.parent s.trip s.board) (sym (segment_of-kept D.segments (new ∷ []) n k))
              (entered-kept N.table Q D.segments (new ∷ []) n (segment_of D.segments n).parent (segment_of D.segments n).trip (segment_of D.segments n).board (omega (arith, k)) (queue.entered n k))
          | inr e ↦ subst (λ m. IsEntered N.table Q all m (segment_of all m).parent (segment_of all m).trip (segment_of all m).board) (sym e)
              (subst (λ (s : Segment). IsEntered N.table Q all (length D.segments) s.parent s.trip s.board) (sym new_of) (entered-kept N.table Q D.segments (new ∷ []) (length D.segments) parent trip at (omega arith) boards))
        ]

    rounds_all : (n : ℕ) → n < length all → round_of all n ≤ round
    rounds_all n h =
        elim (below_or_at n (length D.segments) (omega (arith, h, longer))) [
          | inl k ↦ omega (arith, round_of-kept D.segments (new ∷ []) n k, queue.rounds n k)
          | inr e ↦ subst (λ m. round_of all m ≤ round) (sym e) (omega (arith, new_round))
        ]

    ends_all : (n : ℕ) → n < length all → (length (events_of N.table (segment_of all n).trip) ≤ suc (segment_of all n).end) ⊎ IsReachedAhead N all n (round_of all n) (segment_of all n).trip (segment_of all n).end
    ends_all n h = by_place (below_or_at n (length D.segments) (omega (arith, h, longer)))
      where
        new_ends : (length (events_of N.table trip) ≤ suc (mark_of N.table D.marks trip)) ⊎ IsReachedAhead N all (length D.segments) round trip (mark_of N.table D.marks trip)
        new_ends =
            elim (queue.marked trip inside) [
              | inl last ↦ inl last
              | inr c ↦ inr (ahead-kept N D.segments (new ∷ []) (length D.segments) (length D.segments) round round trip (mark_of N.table D.marks trip) c (omega arith) (omega arith) (omega arith))
            ]

        by_place : (n < length D.segments) ⊎ (n ≡ length D.segments) → Ends n (round_of all n) (segment_of all n)
        by_place (inl k) =
            subst (λ (s : Segment). Ends n (round_of all n) s) (sym (segment_of-kept D.segments (new ∷ []) n k))
            (subst (λ r. Ends n r (segment_of D.segments n)) (sym (round_of-kept D.segments (new ∷ []) n k))
            (elim (queue.ends n k) [
              | inl last ↦ inl last
              | inr c ↦ inr (ahead-kept N D.segments (new ∷ []) n n (round_of D.segments n) (round_of D.segments n) (segment_of D.segments n).trip (segment_of D.segments n).end c (omega (arith, k)) (omega arith) (omega arith))
            ]))
        by_place (inr e) =
            subst (λ m. Ends m (round_of all m) (segment_of all m)) (sym e)
            (subst (λ (s : Segment). Ends (length D.segments) (round_of all (length D.segments)) s) (sym new_of)
            (subst (λ r. Ends (length D.segments) r new) (sym new_round) new_ends))

    by_hops_all : UsesHops N.hops all
    by_hops_all n p h is = by_place (below_or_at n (length D.segments) (omega (arith, h, longer)))
      where
        earlier_of : (o : Option (ℕ × ℕ)) (m t b : ℕ) (xs : List Segment) → o ≡ Some p → IsEntered N.table Q xs m o t b → p.0 < m
        earlier_of o m t b xs e entered = (subst (λ x. IsEntered N.table Q xs m x t b) e entered).earlier

        by_place : (n < length D.segments) ⊎ (n ≡ length D.segments) → By p.1 (segment_of all n) (segment_of all p.0)
        by_place (inl k) =
            let here : segment_of all n ≡ segment_of D.segments n = segment_of-kept D.segments (new ∷ []) n k in
            let is_old : (segment_of D.segments n).parent ≡ Some p = sym (ap (λ (s : Segment). s.parent) here) ∙ is in
            let below_n : p.0 < n = earlier_of (segment_of D.segments n).parent n (segment_of D.segments n).trip (segment_of D.segments n).board D.segments is_old (queue.entered n k) in
            subst (λ (s : Segment). By p.1 s (segment_of all p.0)) (sym here)
            (subst (λ (s : Segment). By p.1 (segment_of D.segments n) s) (sym (segment_of-kept D.segments (new ∷ []) p.0 (omega (arith, below_n, k)))) (queue.by_hops n p k is_old))
        by_place (inr e) =
            let here : segment_of all n ≡ new = ap (segment_of all) e ∙ new_of in
            let is_new : parent ≡ Some p = sym (ap (λ (s : Segment). s.parent) here) ∙ is in
            let below_n : p.0 < length D.segments = earlier_of parent (length D.segments) trip at D.segments is_new boards in
            subst (λ (s : Segment). By p.1 s (segment_of all p.0)) (sym here)
            (subst (λ (s : Segment). By p.1 new s) (sym (segment_of-kept D.segments (new ∷ []) p.0 below_n)) (in_set p is_new))

    pub queue-entered : IsQueue N Q D' round
    queue-entered = record {
      step = step;
      entered = subst (λ xs. (n : ℕ) → n < length xs → IsEntered N.table Q xs n (segment_of xs n).parent (segment_of xs n).trip (segment_of xs n).board) (sym enters.segments) entered_all;
      by_hops = subst (λ xs. UsesHops N.hops xs) (sym enters.segments) by_hops_all;
      rounds = subst (λ xs. (n : ℕ) → n < length xs → round_of xs n ≤ round) (sym enters.segments) rounds_all;
      marked = subst (λ xs. (u : ℕ) → u < length N.table.trips → (length (events_of N.table u) ≤ suc (mark_of N.table D'.marks u)) ⊎ IsReachedAhead N xs (length xs) round u (mark_of N.table D'.marks u)) (sym enters.segments) marked_all;
      ends = subst (λ xs. (n : ℕ) → n < length xs → (length (events_of N.table (segment_of xs n).trip) ≤ suc (segment_of xs n).end) ⊎ IsReachedAhead N xs n (round_of xs n) (segment_of xs n).trip (segment_of xs n).end) (sym enters.segments) ends_all;
    }

    pub reached-entered : IsReachedBy N.table D' (length D'.segments) round trip at
    reached-entered = subst (λ xs. IsCovered N.table (round_segments xs) (length xs) round trip at) (sym enters.segments) reached_all

    pub extends-entered : AddsSegments D D' round
    extends-entered = record {
      more = new ∷ [];
      segments = enters.segments;
      rounds = subst (λ xs. (n : ℕ) → length D.segments ≤ n → n < length xs → round_of xs n ≡ round) (sym enters.segments)
          (λ n h k. let e : length D.segments ≡ n = omega (arith, h, k, longer) in subst (λ m. round_of all m ≡ round) e new_round);
      hits = enters.hits;
    }

  pub queue-reached : (entered : Bool) (D' : DeskData) → IsInStep N D' → (IsTrue entered ↔ (at < mark_of N.table D.marks trip)) → MatchBool entered (EntersSegment N trip at parent D D') (D' ≡ D) →
      round_after (round_segments D.segments) parent ≡ round → IsEntered N.table Q D.segments (length D.segments) parent trip at →
      ((p : ℕ × ℕ) → parent ≡ Some p → Contains (N.hops (segment_of D.segments p.0).trip p.1) (record { trip = trip; at = at })) → at + 1 < length (events_of N.table trip) →
      IsQueue N Q D' round × IsReachedBy N.table D' (length D'.segments) round trip at × AddsSegments D D' round
  queue-reached true D' step told enters same_round boards in_set not_last =
      let below : at < mark_of N.table D.marks trip = told.0 refl in
      (queue-entered D' step enters below same_round boards in_set, reached-entered D' step enters below same_round boards in_set, extends-entered D' step enters below same_round boards in_set)
  queue-reached false D' step told same same_round boards in_set not_last =
      subst (λ d. IsQueue N Q d round × IsReachedBy N.table d (length (DeskData.segments d)) round trip at × AddsSegments D d round) (sym same)
      (queue, reached_before (elim (cases_lt at (mark_of N.table D.marks trip)) [ inl below ↦ absurd (let e : false ≡ true = told.1 below in cc) | inr low ↦ low ]) not_last, extends-refl D round)

-- the room stays, whether a segment has joined or not
pub room-reached : (N : NetData) (trip at : ℕ) (parent : Option (ℕ × ℕ)) (D D' : DeskData) (joined : Bool) → MatchBool joined (EntersSegment N trip at parent D D') (D' ≡ D) → room_of D' ≡ room_of D
room-reached N trip at parent D D' true e = let a = e.trips in let b = e.segment_room in let d = e.hit_room in let f = e.note_room in cc
room-reached N trip at parent D D' false e = ap room_of e
