-- What stays true of a queue that grows.
use Rattle.std.proofs.Common.{◌≡◌, ◌∙◌, ℕ, ◌<◌, ◌≤◌, inl, inr, List, [], ◌++◌, length, refl, sym, ap, subst, arith, Option, None, Some, length-append}
use Rattle.std.proofs.lemmas.List.{append_assoc, append-nil}
use Rattle.std.proofs.lemmas.Bool.{cases_lt}
use Rattle.tb_base.specs.Network.{NetData}
use Rattle.tb_base.specs.TimetableData.{TimetableData}
use Rattle.tb_base.specs.BestValues.{QueryData}
use Rattle.tb_base.specs.Lines.{IsTripNoLater}
use Rattle.tb_base.specs.Search.{RoundSegment, IsCovered, segment_at}
use Rattle.tb_base.specs.Sufficiency.{IsPossibleHop}
use Rattle.segment_queue.specs.declared.desk.Segment.{Segment}
use Rattle.segment_queue.specs.Queue.{DeskData, mark_of}
use Rattle.segment_queue.specs.Traced.{IsEntered, round_of, round_segments, segment_of}
use Rattle.earliest_query.specs.Sweeping.{KeepsSegments}
use Rattle.earliest_query.specs.UnderWay.{AddsSegments, IsOutdone, IsQueue, IsReachedAhead, IsReachedBy, trips_left}
use Rattle.segment_queue.proofs.Rounds.{segment_at-kept, segment_of-kept, round_of-kept}

pub covered-kept : (T : TimetableData) (segments more : List Segment) (n m round top t b : ℕ) → IsCovered T (round_segments segments) n round t b → n ≤ length segments → n ≤ m → round ≤ top
    → IsCovered T (round_segments (segments ++ more)) m top t b
covered-kept T segments more n m round top t b c inside onward later =
    let same : segment_at (round_segments (segments ++ more)) c.by ≡ segment_at (round_segments segments) c.by = segment_at-kept segments more c.by (omega (arith, c.within, inside)) in
    record {
      by = c.by;
      within = omega (arith, c.within, onward);
      by_then = omega (arith, ap (λ (r : RoundSegment). r.round) same, c.by_then, later);
      trip = subst (λ (r : RoundSegment). IsTripNoLater T r.trip t) (sym same) c.trip;
      board = omega (arith, ap (λ (r : RoundSegment). r.board) same, c.board);
    }

pub covered-later : (T : TimetableData) (segments : List Segment) (n m round top t b : ℕ) → IsCovered T (round_segments segments) n round t b → n ≤ m → round ≤ top → IsCovered T (round_segments segments) m top t b
covered-later T segments n m round top t b c onward later =
    record { by = c.by; within = omega (arith, c.within, onward); by_then = omega (arith, c.by_then, later); trip = c.trip; board = c.board }

-- what a trip ahead has reached stays reached
pub ahead-kept : (N : NetData) (segments more : List Segment) (n m round top t b : ℕ) → IsReachedAhead N segments n round t b → n ≤ length segments → n ≤ m → round ≤ top → IsReachedAhead N (segments ++ more) m top t b
unfolding covered-kept
ahead-kept N segments more n m round top t b c inside onward later = record {
  cover = covered-kept N.table segments more n m round top t b c.cover inside onward later;
  ahead = omega (arith, c.ahead, ap (λ (s : Segment). trips_left N s.trip) (segment_of-kept segments more c.cover.by (omega (arith, c.cover.within, inside))));
}

pub extends-refl : (D : DeskData) (round : ℕ) → AddsSegments D D round
extends-refl D round = record { more = []; segments = sym (append-nil D.segments); rounds = λ n h k. absurd (omega (arith, h, k)); hits = refl }

pub extends-trans : (D E F : DeskData) (round : ℕ) → AddsSegments D E round → AddsSegments E F round → AddsSegments D F round
extends-trans D E F round p q = record {
  more = p.more ++ q.more;
  segments = q.segments ∙ ap (λ xs. xs ++ q.more) p.segments ∙ append_assoc D.segments p.more q.more;
  rounds = λ n h k. elim (cases_lt n (length E.segments)) [
    | inl before ↦ ap (λ xs. round_of xs n) q.segments ∙ round_of-kept E.segments q.more n before ∙ p.rounds n h before
    | inr behind ↦ q.rounds n behind k
  ];
  hits = q.hits ∙ p.hits;
}

pub extends-long : (D D' : DeskData) (round : ℕ) → AddsSegments D D' round → length D.segments ≤ length D'.segments
extends-long D D' round e = omega (arith, ap length e.segments, length-append D.segments e.more)

pub extends-segment : (D D' : DeskData) (round : ℕ) → AddsSegments D D' round → (n : ℕ) → n < length D.segments → segment_of D'.segments n ≡ segment_of D.segments n
extends-segment D D' round e n inside = ap (λ xs. segment_of xs n) e.segments ∙ segment_of-kept D.segments e.more n inside

pub extends-round : (D D' : DeskData) (round : ℕ) → AddsSegments D D' round → (n : ℕ) → n < length D.segments → round_of D'.segments n ≡ round_of D.segments n
extends-round D D' round e n inside = ap (λ xs. round_of xs n) e.segments ∙ round_of-kept D.segments e.more n inside

-- what a segment has reached stays reached
pub extends-reached : (T : TimetableData) (D D' : DeskData) (joined n m round top t b : ℕ) → AddsSegments D D' joined → IsReachedBy T D n round t b → n ≤ length D.segments → n ≤ m → round ≤ top → IsReachedBy T D' m top t b
extends-reached T D D' joined n m round top t b e c inside onward later =
    subst (λ xs. IsCovered T (round_segments xs) m top t b) (sym e.segments) (covered-kept T D.segments e.more n m round top t b c inside onward later)

-- what is outdone stays outdone
pub outdone-kept : (N : NetData) (D D' : DeskData) (joined n i : ℕ) → AddsSegments D D' joined → n < length D.segments → IsOutdone N D.segments n i → IsOutdone N D'.segments n i
outdone-kept N D D' joined n i e inside o =
    let by = extends-segment D D' joined e o.by o.within in
    let this = extends-segment D D' joined e n inside in
    record {
      by = o.by;
      within = omega (arith, o.within, extends-long D D' joined e);
      by_then = omega (arith, o.by_then, extends-round D D' joined e o.by o.within, extends-round D D' joined e n inside);
      trip = subst (λ (s : Segment). IsTripNoLater N.table s.trip (segment_of D'.segments n).trip) (sym by) (subst (λ (s : Segment). IsTripNoLater N.table (segment_of D.segments o.by).trip s.trip) (sym this) o.trip);
      ahead = omega (arith, o.ahead, ap (λ (s : Segment). trips_left N s.trip) by, ap (λ (s : Segment). trips_left N s.trip) this);
      board = omega (arith, o.board, ap (λ (s : Segment). s.board) by);
    }

pub entered-kept : (T : TimetableData) (Q : QueryData) (segments more : List Segment) (n : ℕ) (parent : Option (ℕ × ℕ)) (trip board : ℕ) → n ≤ length segments → IsEntered T Q segments n parent trip board → IsEntered T Q (segments ++ more) n parent trip board
entered-kept T Q segments more n None trip board inside h = h
entered-kept T Q segments more n (Some p) trip board inside h =
    let same : segment_of (segments ++ more) p.0 ≡ segment_of segments p.0 = segment_of-kept segments more p.0 (omega (arith, h.earlier, inside)) in
    record {
      earlier = h.earlier;
      onward = omega (arith, h.onward, ap (λ (s : Segment). s.board) same);
      within = omega (arith, h.within, ap (λ (s : Segment). s.end) same);
      possible = subst (λ (s : Segment). IsPossibleHop T s.trip p.1 (record { trip = trip; at = board })) (sym same) h.possible;
    }

-- the rounds may have come further
pub queue-later : (N : NetData) (Q : QueryData) (D : DeskData) (round top : ℕ) → round ≤ top → IsQueue N Q D round → IsQueue N Q D top
unfolding covered-later
queue-later N Q D round top later q = record {
  step = q.step;
  entered = q.entered;
  by_hops = q.by_hops;
  rounds = λ n h. omega (arith, q.rounds n h, later);
  marked = λ t h. elim (q.marked t h) [ inl e ↦ inl e | inr c ↦ inr (record { cover = covered-later N.table D.segments (length D.segments) (length D.segments) round top t (mark_of N.table D.marks t) c.cover (omega arith) later; ahead = c.ahead }) ];
  ends = q.ends;
}

-- a desk keeps the segments of one that has the same, and of one that those of which it keeps
pub keeps_same : (D E : DeskData) → E.segments ≡ D.segments → KeepsSegments D E
keeps_same D E same = ([], same ∙ sym (append-nil D.segments))

pub keeps_trans : (D E F : DeskData) → KeepsSegments D E → KeepsSegments E F → KeepsSegments D F
keeps_trans D E F a b = (a.0 ++ b.0, b.1 ∙ (ap (λ xs. xs ++ b.0) a.1 ∙ append_assoc D.segments a.0 b.0))
