-- Events are weighed, and noted to go on from.
use Rattle.std.proofs.Common.{◌≡◌, ◌∙◌, ℕ, suc, ◌+◌, ◌<◌, ◌≤◌, ◌⊎◌, inl, inr, List, [], length, get_or, Bool, refl, sym, ap, subst, arith, Option, None, Some, ℤ}
use Rattle.std.specs.Prelude.{All, Contains, IfSome, MatchOption, slice_set}
use Rattle.std.proofs.lemmas.List.{append-nil, get_or-set_other, length-set}
use Rattle.std.proofs.lemmas.List.Elements.{All-nil, All-push}
use Rattle.tb_base.specs.Network.{NetData}
use Rattle.tb_base.specs.TimetableData.{TimetableData, arrival_at, event_at, events_of, stop_at}
use Rattle.tb_base.specs.BestValues.{QueryData}
use Rattle.tb_base.specs.Soundness.{IsSound}
use Rattle.segment_queue.specs.declared.desk.Segment.{Segment}
use Rattle.segment_queue.specs.declared.desk.Hit.{Hit}
use Rattle.segment_queue.specs.declared.notes.Note.{Note}
use Rattle.segment_queue.specs.declared.seen.Seen.{Seen}
use Rattle.segment_queue.specs.Queue.{DeskData, IsClipped, IsInStep, IsSoundSegment}
use Rattle.segment_queue.specs.Scans.{AreEvents, seen_arr, seen_first, seen_last, seen_trip, trips_from}
use Rattle.segment_queue.specs.Traced.{no_segment, round_of, segment_of}
use Rattle.earliest_query.specs.Choices.{ArrivesBy, IsWeighed}
use Rattle.earliest_query.specs.Noted.{IsLeft, IsNoted, IsSeenBehind, IsSoundNote, IsWeighedOff, notes_of}
use Rattle.earliest_query.specs.UnderWay.{Covers, AddsSegments, IsBounded, IsImproved, IsOutdone, IsQueue, trips_left}
use Rattle.earliest_query.proofs.LineBoarding.{no_later-trans}
use Rattle.segment_queue.proofs.LineParts.{itself, of_lines, trips_no_later}
use Rattle.segment_queue.proofs.Rounds.{board_of, trip_of}
use Rattle.tb_base.specs.Lines.{AreDividedInto, IsTripNoLater}
use Rattle.tb_base.proofs.NumberFacts.{below_or_at}
use Rattle.tb_base.proofs.Ordered.{Member}
use Rattle.earliest_query.proofs.Growing.{extends-long, extends-refl, extends-round, extends-segment}
use Rattle.earliest_query.proofs.BestSoFar.{bounded-improved, bounded-same, covers-kept, improved-trans, new_hit-kept, weighed_as, weighed_bounded, weighed_improved}
use Rattle.earliest_query.proofs.Lateness.{arrives_by-later, arrives_on, done-kept, late-bounded}

-- notes do not matter to the queue
pub in_step-notes : (N : NetData) (D : DeskData) (notes : List Note) → IsInStep N D → IsInStep N (record D { notes = notes })
in_step-notes N D notes s = record {
  fits = record { trips = s.fits.trips; segments = s.fits.segments; hits = s.fits.hits; notes = s.fits.notes };
  marks = s.marks;
  segments = s.segments;
  above = s.above;
  apart = s.apart;
  falling = s.falling;
  counted = s.counted;
}

pub queue-notes : (N : NetData) (Q : QueryData) (D : DeskData) (notes : List Note) (round : ℕ) → IsQueue N Q D round → IsQueue N Q (record D { notes = notes }) round
queue-notes N Q D notes round q = record {
  step = in_step-notes N D notes q.step;
  entered = q.entered;
  by_hops = q.by_hops;
  rounds = q.rounds;
  marked = q.marked;
  ends = q.ends;
}

pub extends-notes : (D : DeskData) (notes : List Note) (round : ℕ) → AddsSegments D (record D { notes = notes }) round
extends-notes D notes round = record { more = []; segments = sym (append-nil D.segments); rounds = λ n h k. absurd (omega (arith, h, k)); hits = refl }

pub notes-extends : (D : DeskData) (notes : List Note) (round : ℕ) → AddsSegments (record D { notes = notes }) D round
notes-extends D notes round = record { more = []; segments = sym (append-nil D.segments); rounds = λ n h k. absurd (omega (arith, h, k)); hits = refl }

-- the notes from number k on are those of before
pub record AreLeft (before notes : List Note) (k : ℕ) : Type 0 where
  pub long : length notes ≡ length before
  pub same : (j : ℕ) (d : Note) → k ≤ j → get_or notes j d ≡ get_or before j d

-- note k is taken
pub left_one_less : (before notes after : List Note) (k : ℕ) (note : Note) → AreLeft before notes k → after ≡ slice_set notes k note → AreLeft before after (k + 1)
left_one_less before notes after k note left is = record {
  long = ap length is ∙ length-set notes k note ∙ left.long;
  same = λ j d above. ap (λ ns. get_or ns j d) is ∙ get_or-set_other notes k j note d (λ e. omega (arith, e, above)) ∙ left.same j d (omega (arith, above));
}

-- a note stays sound while the queue grows
pub sound_note-kept : (N : NetData) (D E : DeskData) (joined round : ℕ) (note : Note) → AddsSegments D E joined → IsSoundNote N D.segments round note → IsSoundNote N E.segments round note
sound_note-kept N D E joined round note e s =
    let same : segment_of E.segments note.segment ≡ segment_of D.segments note.segment = extends-segment D E joined e note.segment s.inside in
    record {
      inside = omega (arith, s.inside, extends-long D E joined e);
      this_round = extends-round D E joined e note.segment s.inside ∙ s.this_round;
      trip = s.trip ∙ ap (λ (r : Segment). r.trip) (sym same);
      first = s.first ∙ ap (λ (r : Segment). suc r.board) (sym same);
      order = s.order;
      within = omega (arith, s.within, ap (λ (r : Segment). r.end) same);
      arr = s.arr ∙ ap (λ (r : Segment). arrival_at N.table r.trip (seen_first note.seen)) (sym same);
    }

-- a note is of events of the timetable
pub note_events : (N : NetData) (segments : List Segment) (round : ℕ) (note : Note) → All (IsSoundSegment N.table) segments → IsSoundNote N segments round note → AreEvents N.table note.seen
note_events N segments round note all s =
    let whole : IsSoundSegment N.table (segment_of segments note.segment) = all note.segment no_segment s.inside in
    record {
      trip = omega (arith, s.trip, whole.trip);
      order = s.order;
      within = omega (arith, s.within, whole.within, ap (λ t. length (events_of N.table t)) s.trip);
    }

-- what has been seen of a segment, up to this index
pub record IsSeenUpTo (T : TimetableData) (s : Segment) (w : Seen) (at : ℕ) : Type 0 where
  pub trip : seen_trip w ≡ s.trip
  pub first : seen_first w ≡ suc s.board
  pub last : seen_last w ≡ at
  pub order : s.board < at
  pub arr : seen_arr w ≡ arrival_at T s.trip (seen_first w)

abbrev pub IsSeenTo : TimetableData → Segment → Option Seen → ℕ → Type 0
IsSeenTo T s None at = at ≡ s.board
IsSeenTo T s (Some w) at = IsSeenUpTo T s w at

-- an index of the segment that was looked at by itself
pub record IsSeenAt (T : TimetableData) (s : Segment) (w : Seen) (at : ℕ) : Type 0 where
  pub trip : seen_trip w ≡ s.trip
  pub first : seen_first w ≡ at
  pub last : seen_last w ≡ at
  pub arr : seen_arr w ≡ arrival_at T s.trip at

-- what this look saw of the segment
pub here_seen : (T : TimetableData) (s r : Segment) (w : Seen) (at : ℕ) → s ≡ r → seen_trip w ≡ r.trip → seen_first w ≡ at → seen_last w ≡ at → seen_arr w ≡ arrival_at T r.trip at → IsSeenAt T s w at
here_seen T s r w at same trip first last arr = record {
  trip = trip ∙ ap (λ (x : Segment). x.trip) (sym same);
  first = first;
  last = last;
  arr = arr ∙ ap (λ (x : Segment). arrival_at T x.trip at) (sym same);
}

pub seen_behind : (T : TimetableData) (s : Segment) (seen : Option Seen) (next : Seen) (at : ℕ) → IsSeenTo T s seen at → IsSeenAt T s next (at + 1) → IfSome seen (λ w. IsSeenBehind w next)
seen_behind T s None next at to here = tt
seen_behind T s (Some w) next at to here = record { trip = here.trip ∙ sym to.trip; behind = omega (arith, here.first, to.last) }

pub seen_more : (T : TimetableData) (s : Segment) (seen : Option Seen) (next result : Seen) (at : ℕ) → IsSeenTo T s seen at → IsSeenAt T s next (at + 1) → seen_trip result ≡ seen_trip next → seen_last result ≡ seen_last next
    → MatchOption seen ((seen_first result ≡ seen_first next) × (seen_arr result ≡ seen_arr next)) (λ w. (seen_first result ≡ seen_first w) × (seen_arr result ≡ seen_arr w))
    → IsSeenUpTo T s result (at + 1)
seen_more T s None next result at to here trip last first = record {
  trip = trip ∙ here.trip;
  first = omega (arith, first.0, here.first, to);
  last = last ∙ here.last;
  order = omega (arith, to);
  arr = first.1 ∙ here.arr ∙ ap (λ k. arrival_at T s.trip k) (sym (first.0 ∙ here.first));
}
seen_more T s (Some w) next result at to here trip last first = record {
  trip = trip ∙ here.trip;
  first = first.0 ∙ to.first;
  last = last ∙ here.last;
  order = omega (arith, to.order);
  arr = first.1 ∙ to.arr ∙ ap (λ k. arrival_at T s.trip k) (sym first.0);
}

-- what has been seen of segment n is noted
pub seen_noted : (T : TimetableData) (s : Segment) (seen : Option Seen) (n at i : ℕ) → IsSeenTo T s seen at → s.board < i → i ≤ at → IsNoted (notes_of n seen) n i
seen_noted T s None n at i to above below = absurd (omega (arith, to, above, below))
seen_noted T s (Some w) n at i to above below = record {
  by = record { segment = n; seen = w };
  one = (0, omega arith, refl);
  of = record { segment = refl; from = omega (arith, to.first, above); to = omega (arith, to.last, below) };
}

-- and the note of it is sound
pub seen_sound : (N : NetData) (segments : List Segment) (s : Segment) (seen : Option Seen) (n at round : ℕ) → segment_of segments n ≡ s → n < length segments → round_of segments n ≡ round → at ≤ s.end → IsSeenTo N.table s seen at → All (IsSoundNote N segments round) (notes_of n seen)
seen_sound N segments s None n at round is inside is_round within to = All-nil (IsSoundNote N segments round)
seen_sound N segments s (Some w) n at round is inside is_round within to =
    All-push (IsSoundNote N segments round) [] (record { segment = n; seen = w }) (All-nil (IsSoundNote N segments round)) (record {
      inside = inside;
      this_round = is_round;
      trip = to.trip ∙ ap (λ (r : Segment). r.trip) (sym is);
      first = to.first ∙ ap (λ (r : Segment). suc r.board) (sym is);
      order = omega (arith, to.first, to.last, to.order);
      within = omega (arith, to.last, within, ap (λ (r : Segment). r.end) is);
      arr = to.arr ∙ ap (λ (r : Segment). arrival_at N.table r.trip (seen_first w)) (sym is);
    })

-- what is left stays left, with a better hit and more notes too
pub left-kept : (N : NetData) (Q : QueryData) (D : DeskData) (round n i : ℕ) (a b : Option Hit) (before after : List Note) → n < length D.segments → ((note : Note) → Contains before note → Contains after note) → IsImproved N.table Q D round a b
    → IsLeft N D a before n i → IsLeft N D b after n i
left-kept N Q D round n i a b before after inside more improved (inl done) = inl (done-kept N Q D D (suc round) round n i a b (extends-refl D (suc round)) inside improved done)
left-kept N Q D round n i a b before after inside more improved (inr noted) = inr (record { by = noted.by; one = more noted.by noted.one; of = noted.of })

-- an event of segment n of a desk D is weighed, by which the best so far became the result
pub record IsWeighedAt (N : NetData) (Q : QueryData) (D : DeskData) (n at round : ℕ) (best result : Option Hit) : Type 0 where
  pub segment : Segment
  pub is : segment_of D.segments n ≡ segment
  pub inside : n < length D.segments
  pub is_round : round_of D.segments n ≡ round
  pub onward : segment.board < at
  pub within : at ≤ segment.end
  pub stop : ℕ
  pub arr : ℤ
  pub alight : Bool
  pub stop_is : stop ≡ stop_at N.table segment.trip at
  pub arr_is : arr ≡ arrival_at N.table segment.trip at
  pub alight_is : alight ≡ (event_at N.table segment.trip at).alight
  pub weighed : IsWeighed N.table Q stop arr alight n at round best result

-- what has been weighed of segment n, up to this index
pub record IsWeighedTo (N : NetData) (Q : QueryData) (D : DeskData) (n round : ℕ) (so_far best : Option Hit) (at : ℕ) : Type 0 where
  pub bounded : (i : ℕ) → (segment_of D.segments n).board < i → i ≤ at → IsBounded N.table Q D best n i
  pub improved : IsImproved N.table Q D round so_far best

module _ (N : NetData) (Q : QueryData) (D : DeskData) (n done round : ℕ) (so_far best result : Option Hit) (to : IsWeighedTo N Q D n round so_far best done) (w : IsWeighedAt N Q D n (done + 1) round best result) where
  covers : Covers D n (done + 1)
  covers = record { onward = omega (arith, w.onward, ap (λ (s : Segment). s.board) w.is); within = omega (arith, w.within, ap (λ (s : Segment). s.end) w.is) }

  here : IsWeighed N.table Q (stop_at N.table (segment_of D.segments n).trip (done + 1)) (arrival_at N.table (segment_of D.segments n).trip (done + 1)) (event_at N.table (segment_of D.segments n).trip (done + 1)).alight n (done + 1) round best result
  here =
      weighed_as N.table Q w.stop (stop_at N.table (segment_of D.segments n).trip (done + 1)) w.arr (arrival_at N.table (segment_of D.segments n).trip (done + 1)) w.alight (event_at N.table (segment_of D.segments n).trip (done + 1)).alight n (done + 1) round best result
      (w.stop_is ∙ ap (λ (s : Segment). stop_at N.table s.trip (done + 1)) (sym w.is))
      (w.arr_is ∙ ap (λ (s : Segment). arrival_at N.table s.trip (done + 1)) (sym w.is))
      (w.alight_is ∙ ap (λ (s : Segment). (event_at N.table s.trip (done + 1)).alight) (sym w.is)) w.weighed

  better : IsImproved N.table Q D round best result
  better = weighed_improved N.table Q D D (suc round) n (done + 1) round best result (extends-refl D (suc round)) w.inside covers w.is_round here

  improved_now : IsImproved N.table Q D round so_far result
  improved_now = improved-trans N.table Q D D (suc round) round so_far best result (extends-refl D (suc round)) to.improved better

  before_or_here : (i : ℕ) → i ≤ (done + 1) → (i ≤ done) ⊎ ((done + 1) ≡ i)
  before_or_here i h = grind arith

  pub weighed_on : IsWeighedTo N Q D n round so_far result (done + 1)
  weighed_on = record {
    bounded = λ i above below. elim (before_or_here i below) [
      | inl earlier ↦ bounded-improved N.table Q D D round best result n i better (to.bounded i above earlier)
      | inr e ↦ subst (λ m. IsBounded N.table Q D result n m) e (weighed_bounded N.table Q D D (suc round) n (done + 1) round best result (extends-refl D (suc round)) w.inside covers w.is_round here)
    ];
    improved = improved_now;
  }

  -- one gets there no earlier than the best so far arrives: so it is with all that follow
  module _ (sound : IsSound N.table) (whole : IsSoundSegment N.table (segment_of D.segments n)) (late : ArrivesBy result w.arr) where
    late_here : ArrivesBy result (arrival_at N.table (segment_of D.segments n).trip (done + 1))
    late_here = subst (ArrivesBy result) (w.arr_is ∙ ap (λ (s : Segment). arrival_at N.table s.trip (done + 1)) (sym w.is)) late

    before_or_from : (i : ℕ) → (i ≤ done) ⊎ ((done + 1) ≤ i)
    before_or_from i = grind arith

    pub late_from : (i : ℕ) → Covers D n i → (done + 1) ≤ i → ArrivesBy result (arrival_at N.table (segment_of D.segments n).trip i)
    late_from i c from = arrives_by-later result _ _ (arrives_on N.table (segment_of D.segments n).trip (done + 1) i sound whole.trip from (omega (arith, c.within, whole.within))) late_here

    pub left_late : (notes : List Note) → ((i : ℕ) → (segment_of D.segments n).board < i → i ≤ done → IsNoted notes n i) → (i : ℕ) → Covers D n i → IsLeft N D result notes n i
    left_late notes noted i c = elim (before_or_from i) [
      | inl earlier ↦ inr (noted i c.onward earlier)
      | inr from ↦ inl (inr (late_from i c from))
    ]

    pub bounded_late : (i : ℕ) → Covers D n i → IsBounded N.table Q D result n i
    bounded_late i c = elim (before_or_from i) [
      | inl earlier ↦ bounded-improved N.table Q D D round best result n i better (to.bounded i c.onward earlier)
      | inr from ↦ late-bounded N.table Q D result n i (late_from i c from)
    ]

    pub improved_late : IsImproved N.table Q D round so_far result
    improved_late = improved_now

-- what has been weighed stays so, with a better hit and more notes too
pub weighed_off-kept : (N : NetData) (Q : QueryData) (D : DeskData) (round n i : ℕ) (a b : Option Hit) (before after : List Note) → n < length D.segments → ((note : Note) → Contains before note → Contains after note) → IsImproved N.table Q D round a b
    → IsWeighedOff N Q D a before n i → IsWeighedOff N Q D b after n i
weighed_off-kept N Q D round n i a b before after inside more improved w =
    record { left = left-kept N Q D round n i a b before after inside more improved w.left; bounded = bounded-improved N.table Q D D round a b n i improved w.bounded }

-- a clipped segment ends no later
pub clipped_within : (N : NetData) (marks : List (Option ℕ)) (s : Segment) (end : ℕ) → IsClipped N marks s end → end ≤ s.end
clipped_within N marks s end (inl whole) = omega (arith, whole.1)
clipped_within N marks s end (inr (v, there, before, end_is)) = omega (arith, end_is)

-- a segment is clipped: past there it is outdone
pub clipped_outdone : (N : NetData) (Q : QueryData) (D : DeskData) (n round end i : ℕ) (s : Segment) → AreDividedInto N.table N.lines → IsQueue N Q D round → n < length D.segments → round_of D.segments n ≡ round → segment_of D.segments n ≡ s → IsClipped N D.marks s end
    → i ≤ s.end → end < i → IsOutdone N D.segments n i
clipped_outdone N Q D n round end i s divided queue inside is_round is (inl whole) within past = absurd (omega (arith, whole.1, within, past))
clipped_outdone N Q D n round end i s divided queue inside is_round is (inr (v, there, before, end_is)) within past = elim (queue.marked v there) [
  | inl last ↦ absurd (omega (arith, last, end_is, within, past, sound.within, no_later.long))
  | inr c ↦ (let here : c.cover.by < length D.segments = c.cover.within in record {
    by = c.cover.by;
    within = c.cover.within;
    by_then = omega (arith, c.cover.by_then, is_round);
    trip = subst (λ (r : Segment). IsTripNoLater N.table (segment_of D.segments c.cover.by).trip r.trip) (sym is) (no_later-trans N.table (segment_of D.segments c.cover.by).trip v s.trip (subst (λ t. IsTripNoLater N.table t v) (trip_of D.segments c.cover.by here) c.cover.trip) no_later);
    ahead = omega (arith, c.ahead, fewer, ap (λ (r : Segment). trips_left N r.trip) is);
    board = omega (arith, c.cover.board, board_of D.segments c.cover.by here, end_is, within, past);
  })
]
  where
    sound : IsSoundSegment N.table s
    sound = subst (IsSoundSegment N.table) is (queue.step.segments n no_segment inside)

    behind : Member s.trip (trips_from N.lines v)
    behind = subst (Member s.trip) (sym before) (inr (itself s.trip N.lines (of_lines N.table N.lines s.trip divided sound.trip)))

    no_later : IsTripNoLater N.table v s.trip
    no_later = trips_no_later N.table N.lines v s.trip divided behind

    fewer : trips_left N s.trip < trips_left N v
    fewer = omega (arith, ap length before)

-- segment k of a desk D is weighed, once it has these notes
module _ (N : NetData) (Q : QueryData) (D : DeskData) (notes after : List Note) (from k round : ℕ) (so_far best result : Option Hit) (inside : k < length D.segments) (kept : (note : Note) → Contains notes note → Contains after note)
    (improved : IsImproved N.table Q (record D { notes = notes }) round best result) where
  better_now : IsImproved N.table Q D round best result
  better_now = new_hit-kept N.table Q (record D { notes = notes }) D (suc round) round best result (notes-extends D notes (suc round)) improved

  covers_this : (n i : ℕ) → n ≡ k → Covers D n i → Covers (record D { notes = notes }) k i
  covers_this n i e c = covers-kept D (record D { notes = notes }) k i refl (subst (λ m. Covers D m i) e c)

  pub weighed_one_more : ((n i : ℕ) → from ≤ n → n < k → Covers D n i → IsWeighedOff N Q D best notes n i ⊎ IsOutdone N D.segments n i) → ((i : ℕ) → Covers (record D { notes = notes }) k i → IsWeighedOff N Q (record D { notes = notes }) result after k i ⊎ IsOutdone N D.segments k i)
      → (n i : ℕ) → from ≤ n → n < k + 1 → Covers D n i → IsWeighedOff N Q D result after n i ⊎ IsOutdone N D.segments n i
  weighed_one_more before this n i above below c = elim (below_or_at n k below) [
    | inl earlier ↦ elim (before n i above earlier c) [
      | inl w ↦ inl (weighed_off-kept N Q D round n i best result notes after (omega (arith, earlier, inside)) kept better_now w)
      | inr o ↦ inr o
    ]
    | inr e ↦ elim (this i (covers_this n i e c)) [
      | inl w ↦ inl (subst (λ m. IsWeighedOff N Q D result after m i) (sym e) (record { left = w.left; bounded = bounded-same N.table Q (record D { notes = notes }) D result k i refl w.bounded }))
      | inr o ↦ inr (subst (λ m. IsOutdone N D.segments m i) (sym e) o)
    ]
  ]

  pub improved_one_weighed : IsImproved N.table Q D round so_far best → IsImproved N.table Q D round so_far result
  improved_one_weighed first = improved-trans N.table Q D D (suc round) round so_far best result (extends-refl D (suc round)) first better_now
