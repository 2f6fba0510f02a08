-- A desk stays in step.
use Rattle.std.proofs.Common.{◌≡◌, ◌∙◌, ℕ, zero, suc, ◌+◌, ◌-◌, ◌<◌, ◌≤◌, inl, inr, List, [], ◌∷◌, ◌++◌, length, length-append, get_or, replicate, refl, sym, ap, subst, arith, Option, None}
use Rattle.std.specs.Prelude.{All, AllPairs, min, sum_by, unwrap_or}
use Rattle.std.specs.List.{concat}
use Rattle.std.proofs.lemmas.List.{length-replicate}
use Rattle.std.proofs.lemmas.List.Elements.{All-push, All-nil, All-get_or}
use Rattle.std.proofs.lemmas.List.Quantifiers.{all_pairs_push}
use Rattle.std.proofs.lemmas.List.Sums.{sum_by_push}
use Rattle.tb_base.specs.Network.{NetData}
use Rattle.tb_base.specs.TimetableData.{TimetableData, events_of, event_total, no_trip}
use Rattle.tb_base.specs.Lines.{AreDividedInto}
use Rattle.tb_base.specs.Soundness.{IsSound, IsSoundTrip}
use Rattle.tb_base.proofs.Ordered.{Member}
use Rattle.tb_base.proofs.LineFacts.{MayFollow, no_later}
use Rattle.segment_queue.specs.declared.desk.Segment.{Segment}
use Rattle.segment_queue.specs.Scans.{trips_from}
use Rattle.segment_queue.specs.Queue.{DeskData, EntersSegment, Fits, IsFalling, IsInStep, IsSoundSegment, covered_indices, last_index, lowered_mark, mark_of}
use Rattle.segment_queue.proofs.Distinct.{has_member, member_or_not, all_by_member, of_member, pairs_weaker}
use Rattle.segment_queue.proofs.LineParts.{StaysBehind, itself, later_too, member_concat, of_lines}
use Rattle.segment_queue.proofs.LoweredMarks.{lowered-in, lowered-out, lowered-le}
use Rattle.segment_queue.proofs.Totals.{last_le_events, length_le_covered, one_le_total, total_falls, total_le}

get_or-same : {X : Type 0} (n t : ℕ) (x : X) → get_or (replicate n x) t x ≡ x
get_or-same zero t x = refl
get_or-same (suc n) zero x = refl
get_or-same (suc n) (suc t) x = get_or-same n t x

-- the mark of a trip that has none is its last index
pub first_mark : (T : TimetableData) (n t : ℕ) → mark_of T (replicate n None) t ≡ last_index T t
first_mark T n t = let none : Option ℕ = None in ap (λ o. unwrap_or o (last_index T t)) (get_or-same n t none)

-- along a line they never rise, since its trips are as long as one another
pub first_falling : (T : TimetableData) (lines : List (List ℕ)) (n : ℕ) → AreDividedInto T lines → All (IsFalling T (replicate n None)) lines
first_falling T lines n divided = all_by_member (IsFalling T (replicate n None)) lines (λ line h. pairs_weaker (MayFollow T) (λ t u. mark_of T (replicate n None) u ≤ mark_of T (replicate n None) t) line
    (λ t u a b f. omega (arith, first_mark T n t, first_mark T n u, (no_later T t u (inr f)).long)) (of_member (λ l. AllPairs (MayFollow T) l) lines line divided.ordered h))

pub long_trip : (T : TimetableData) (t : ℕ) → IsSound T → t < length T.trips → 2 ≤ length (events_of T t)
long_trip T t sound inside = (All-get_or (IsSoundTrip (length T.stops)) T.trips t no_trip inside sound.trip).long

-- a desk that fits is in step when it has been emptied
pub in_step-emptied : (N : NetData) (D D' : DeskData) (n : ℕ) → IsSound N.table → AreDividedInto N.table N.lines → Fits N.table D →
    D'.marks ≡ replicate n None → n ≡ length D.marks → D'.segments ≡ [] → D'.segment_room ≡ D.segment_room → D'.hit_room ≡ D.hit_room → D'.note_room ≡ D.note_room → IsInStep N D'
in_step-emptied N D D' n sound divided fits marks many segments segment_room hit_room note_room = record {
  fits = record {
    trips = omega (arith, fits.trips, ap length marks, (let none : Option ℕ = None in length-replicate n none), many);
    segments = omega (arith, fits.segments, segment_room);
    hits = omega (arith, fits.hits, hit_room);
    notes = omega (arith, fits.notes, note_room);
  };
  marks = λ t inside. omega (arith, mark t, long_trip N.table t sound inside);
  segments = subst (All (IsSoundSegment N.table)) (sym segments) (All-nil (IsSoundSegment N.table));
  above = subst (All (λ s. mark_of N.table D'.marks s.trip ≤ s.board)) (sym segments) (All-nil (λ s. mark_of N.table D'.marks s.trip ≤ s.board));
  apart = subst (AllPairs (λ (s r : Segment). s.trip ≡ r.trip → r.end ≤ s.board)) (sym segments) (λ i j d before below. absurd (omega (arith, below)));
  falling = subst (λ ms. All (IsFalling N.table ms) N.lines) (sym marks) (first_falling N.table N.lines n divided);
  counted = omega (arith, ap (sum_by covered_indices) segments, total_le (last_index N.table) (mark_of N.table D'.marks) (length N.table.trips) (λ t h. omega (arith, mark t)));
}
  where
    mark : (t : ℕ) → mark_of N.table D'.marks t ≡ last_index N.table t
    mark t = ap (λ ms. mark_of N.table ms t) marks ∙ first_mark N.table n t

-- there are at most as many segments as events, and fewer while some mark is above 0
pub segments_and_mark : (N : NetData) (D : DeskData) → IsInStep N D → (t : ℕ) → t < length N.table.trips → length D.segments + mark_of N.table D.marks t ≤ event_total N.table
segments_and_mark N D step t inside =
    omega (arith, length_le_covered N.table D.segments step.segments, one_le_total (mark_of N.table D.marks) (length N.table.trips) t inside, step.counted, last_le_events N.table)

pub segments_le_events : (N : NetData) (D : DeskData) → IsInStep N D → length D.segments ≤ event_total N.table
segments_le_events N D step = omega (arith, length_le_covered N.table D.segments step.segments, step.counted, last_le_events N.table)

-- a desk in step stays so when a trip is entered below its mark
pub in_step-entered : (N : NetData) (D D' : DeskData) (t at : ℕ) (parent : Option (ℕ × ℕ)) → AreDividedInto N.table N.lines → IsInStep N D → t < length N.table.trips → at < mark_of N.table D.marks t →
    EntersSegment N t at parent D D' → IsInStep N D'
in_step-entered N D D' t at parent divided step inside below enters = record {
  fits = record {
    trips = omega (arith, step.fits.trips, enters.trips);
    segments = omega (arith, step.fits.segments, enters.segment_room);
    hits = omega (arith, step.fits.hits, enters.hit_room);
    notes = omega (arith, step.fits.notes, enters.note_room);
  };
  marks = λ u h. omega (arith, falls u h, step.marks u h);
  segments = subst (All (IsSoundSegment N.table)) (sym enters.segments) (All-push (IsSoundSegment N.table) D.segments entered step.segments (record { trip = inside; onward = below; within = step.marks t inside }));
  above = subst (All (λ s. mark_of N.table D'.marks s.trip ≤ s.board)) (sym enters.segments)
      (All-push (λ s. mark_of N.table D'.marks s.trip ≤ s.board) D.segments entered
      (λ k d b. let old = step.above k d b in let sound = step.segments k d b in omega (arith, old, falls (get_or D.segments k d).trip sound.trip))
      here);
  apart = subst (AllPairs (λ (s r : Segment). s.trip ≡ r.trip → r.end ≤ s.board)) (sym enters.segments)
      (all_pairs_push (λ (s r : Segment). s.trip ≡ r.trip → r.end ≤ s.board) D.segments entered step.apart
      (λ k d b e. let old = step.above k d b in subst (λ u. mark_of N.table D.marks u ≤ (get_or D.segments k d).board) e old));
  falling = all_by_member (IsFalling N.table D'.marks) N.lines (λ line h. line_falls line h);
  counted = omega (
    arith,
    step.counted,
    ap (sum_by covered_indices) enters.segments ∙ sum_by_push covered_indices D.segments entered,
    total_falls (mark_of N.table D.marks) (mark_of N.table D'.marks) (length N.table.trips) t (mark_of N.table D.marks t - at) inside (λ u h. falls u h) (omega (arith, here, below)),
  );
}
  where
    entered : Segment
    entered = record { trip = t; board = at; end = mark_of N.table D.marks t; parent = parent }

    falls : (u : ℕ) → u < length N.table.trips → mark_of N.table D'.marks u ≤ mark_of N.table D.marks u
    falls u h = omega (arith, enters.marks u h, lowered-le (trips_from N.lines t) at u (mark_of N.table D.marks u))

    here : mark_of N.table D'.marks t ≤ at
    here =
        let low : lowered_mark (trips_from N.lines t) at t (mark_of N.table D.marks t) ≡ min (mark_of N.table D.marks t) at
        = lowered-in (trips_from N.lines t) at t (mark_of N.table D.marks t) (has_member t (trips_from N.lines t) (itself t N.lines (of_lines N.table N.lines t divided inside))) in
        omega (arith, enters.marks t inside, low)

    in_table : (u : ℕ) (line : List ℕ) → Member line N.lines → Member u line → u < length N.table.trips
    in_table u line h k = of_member (λ x. x < length N.table.trips) (concat N.lines) u divided.trips (member_concat u line N.lines h k)

    line_falls : (line : List ℕ) → Member line N.lines → IsFalling N.table D'.marks line
    line_falls line h =
        pairs_weaker (λ x y. (mark_of N.table D.marks y ≤ mark_of N.table D.marks x) × StaysBehind (trips_from N.lines t) x y) (λ x y. mark_of N.table D'.marks y ≤ mark_of N.table D'.marks x) line
        (λ x y a b r. pair x y (in_table x line h a) (in_table y line h b) r.0 r.1)
        (λ i j d before b. (of_member (IsFalling N.table D.marks) N.lines line step.falling h i j d before b, later_too t N.lines divided.once line h i j d before b))
      where
        pair : (x y : ℕ) → x < length N.table.trips → y < length N.table.trips → mark_of N.table D.marks y ≤ mark_of N.table D.marks x → StaysBehind (trips_from N.lines t) x y → mark_of N.table D'.marks y ≤ mark_of N.table D'.marks x
        pair x y a b old behind =
            elim (member_or_not x (trips_from N.lines t)) [
              | inl e ↦ omega (
                arith,
                old,
                enters.marks x a,
                enters.marks y b,
                lowered-in (trips_from N.lines t) at x (mark_of N.table D.marks x) e.1,
                lowered-in (trips_from N.lines t) at y (mark_of N.table D.marks y) (has_member y (trips_from N.lines t) (behind e.0)),
              )
              | inr e ↦ omega (arith, old, enters.marks x a, lowered-out (trips_from N.lines t) at x (mark_of N.table D.marks x) e.1, falls y b)
            ]

grown-same : (xs : List (Option ℕ)) (k t : ℕ) → get_or (xs ++ replicate k None) t None ≡ get_or xs t None
grown-same [] k t = let none : Option ℕ = None in get_or-same k t none
grown-same (x ∷ xs) k zero = refl
grown-same (x ∷ xs) k (suc t) = grown-same xs k t

-- a desk in step stays so when it is given room
pub in_step-grown : (N : NetData) (D D' : DeskData) (k : ℕ) → IsInStep N D → D'.marks ≡ D.marks ++ replicate k None → D'.segments ≡ D.segments → D.segment_room ≤ D'.segment_room → D.hit_room ≤ D'.hit_room → D.note_room ≤ D'.note_room → IsInStep N D'
in_step-grown N D D' k step marks segments segment_room hit_room note_room = record {
  fits = record {
    trips = omega (arith, step.fits.trips, ap length marks, length-append D.marks (replicate k None));
    segments = omega (arith, step.fits.segments, segment_room);
    hits = omega (arith, step.fits.hits, hit_room);
    notes = omega (arith, step.fits.notes, note_room);
  };
  marks = λ t inside. omega (arith, same t, step.marks t inside);
  segments = subst (All (IsSoundSegment N.table)) (sym segments) step.segments;
  above = subst (All (λ s. mark_of N.table D'.marks s.trip ≤ s.board)) (sym segments) (λ n d inside. let old = step.above n d inside in omega (arith, same (get_or D.segments n d).trip, old));
  apart = subst (AllPairs (λ (s r : Segment). s.trip ≡ r.trip → r.end ≤ s.board)) (sym segments) step.apart;
  falling = all_by_member (IsFalling N.table D'.marks) N.lines (λ line h. pairs_weaker (λ x y. mark_of N.table D.marks y ≤ mark_of N.table D.marks x) (λ x y. mark_of N.table D'.marks y ≤ mark_of N.table D'.marks x) line
      (λ x y a b r. omega (arith, same x, same y, r)) (of_member (IsFalling N.table D.marks) N.lines line step.falling h));
  counted = omega (
    arith,
    step.counted,
    ap (sum_by covered_indices) segments,
    total_le (mark_of N.table D.marks) (mark_of N.table D'.marks) (length N.table.trips) (λ t h. omega (arith, same t)),
  );
}
  where
    same : (t : ℕ) → mark_of N.table D'.marks t ≡ mark_of N.table D.marks t
    same t = ap (λ ms. mark_of N.table ms t) marks ∙ ap (λ o. unwrap_or o (last_index N.table t)) (grown-same D.marks k t)

-- two desks with the same of everything are the same
pub desk_same : (D E : DeskData) → E.marks ≡ D.marks → E.segments ≡ D.segments → E.hits ≡ D.hits → E.notes ≡ D.notes → E.segment_room ≡ D.segment_room → E.hit_room ≡ D.hit_room → E.note_room ≡ D.note_room → E ≡ D
desk_same D E marks segments hits notes segment_room hit_room note_room =
    subst (λ x. E ≡ record { marks = x; segments = D.segments; hits = D.hits; notes = D.notes; segment_room = D.segment_room; hit_room = D.hit_room; note_room = D.note_room }) marks
    (subst (λ x. E ≡ record { marks = E.marks; segments = x; hits = D.hits; notes = D.notes; segment_room = D.segment_room; hit_room = D.hit_room; note_room = D.note_room }) segments
    (subst (λ x. E ≡ record { marks = E.marks; segments = E.segments; hits = x; notes = D.notes; segment_room = D.segment_room; hit_room = D.hit_room; note_room = D.note_room }) hits
    (subst (λ x. E ≡ record { marks = E.marks; segments = E.segments; hits = E.hits; notes = x; segment_room = D.segment_room; hit_room = D.hit_room; note_room = D.note_room }) notes
    (subst (λ x. E ≡ record { marks = E.marks; segments = E.segments; hits = E.hits; notes = E.notes; segment_room = x; hit_room = D.hit_room; note_room = D.note_room }) segment_room
    (subst (λ x. E ≡ record { marks = E.marks; segments = E.segments; hits = E.hits; notes = E.notes; segment_room = E.segment_room; hit_room = x; note_room = D.note_room }) hit_room
    (subst (λ x. E ≡ record { marks = E.marks; segments = E.segments; hits = E.hits; notes = E.notes; segment_room = E.segment_room; hit_room = E.hit_room; note_room = x }) note_room refl))))))
