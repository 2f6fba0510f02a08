-- The segments of a search, each as far as something has been made of what it covers, or up to where it is outdone, in an order in which each is covered behind its end by one before.
use Rattle.std.proofs.Common.{◌≡◌, ◌∙◌, ℕ, zero, suc, ◌+◌, ◌<◌, ◌≤◌, ◌⊎◌, inl, inr, List, [], ◌∷◌, ◌++◌, length, refl, sym, ap, subst, arith, length-append}
use Rattle.std.proofs.lemmas.List.{get_or_append_left}
use Rattle.tb_base.specs.Network.{NetData}
use Rattle.tb_base.specs.TimetableData.{events_of}
use Rattle.tb_base.specs.BestValues.{QueryData}
use Rattle.tb_base.specs.Lines.{IsTripNoLater}
use Rattle.tb_base.specs.Search.{IsCovered, RoundSegment, segment_at}
use Rattle.tb_base.proofs.NumberFacts.{below_or_last, less_or_same}
use Rattle.segment_queue.specs.declared.desk.Segment.{Segment}
use Rattle.segment_queue.specs.Queue.{DeskData}
use Rattle.segment_queue.specs.Traced.{no_segment, round_of, round_segments, segment_of}
use Rattle.segment_queue.proofs.Rounds.{board_of, end_of, length-round_segments, trip_of}
use Rattle.earliest_query.specs.Parts.{ArePartsOf, IsPartOf}
use Rattle.earliest_query.specs.UnderWay.{Covers, IsOutdone, IsQueue, trips_left}
use Rattle.earliest_query.proofs.Following.{get_or-inside}

segment_at-left : (xs ys : List RoundSegment) (m : ℕ) → m < length xs → segment_at (xs ++ ys) m ≡ segment_at xs m
segment_at-left xs ys m h = get_or_append_left xs ys (record { trip = 0; board = 0; end = 0; round = 0 }) m h

segment_at-end : (xs : List RoundSegment) (x : RoundSegment) → segment_at (xs ++ x ∷ []) (length xs) ≡ x
segment_at-end [] x = refl
segment_at-end (y ∷ ys) x = segment_at-end ys x

module _ (N : NetData) (Q : QueryData) (D : DeskData) (rounds : ℕ) (queue : IsQueue N Q D rounds) (Made : ℕ → ℕ → Type 0) (made_or_outdone : (n i : ℕ) → n < length D.segments → Covers D n i → Made n i ⊎ IsOutdone N D.segments n i) where
  abbrev seg : ℕ → Segment
  seg n = segment_of D.segments n

  abbrev left : ℕ → ℕ
  left n = trips_left N (seg n).trip

  -- what lies past this index of segment n is covered by a segment that comes first: its trip has more trips behind, or it stands before
  record IsFirstBy (n end : ℕ) : Type 0 where
    pub by : ℕ
    pub within : by < length D.segments
    pub by_then : round_of D.segments by ≤ round_of D.segments n
    pub trip : IsTripNoLater N.table (seg by).trip (seg n).trip
    pub board : (seg by).board ≤ end
    pub order : (left n < left by) ⊎ ((left n ≤ left by) × (by < n))

  -- a first part of segment n, of which all has been made
  record Part (n : ℕ) : Type 0 where
    pub end : ℕ
    pub within : end ≤ (seg n).end
    pub made : (i : ℕ) → (seg n).board < i → i ≤ end → Made n i
    pub past : (length (events_of N.table (seg n).trip) ≤ suc end) ⊎ IsFirstBy n end

  before_or_next : (i e : ℕ) → i ≤ e + 1 → (i ≤ e) ⊎ (e + 1 ≡ i)
  before_or_next i e h = grind arith

  part_from : (n : ℕ) → n < length D.segments → (more e : ℕ) → e + more ≡ (seg n).end → (seg n).board ≤ e → ((i : ℕ) → (seg n).board < i → i ≤ e → Made n i) → Part n
  part_from n inside zero e is above made = record {
    end = e;
    within = omega (arith, is);
    made = made;
    past = elim (queue.ends n inside) [
      | inl last ↦ inl (omega (arith, last, is))
      | inr c ↦ (let here : c.cover.by < length D.segments = omega (arith, c.cover.within, inside) in
          inr (record {
            by = c.cover.by;
            within = here;
            by_then = c.cover.by_then;
            trip = subst (λ t. IsTripNoLater N.table t (seg n).trip) (trip_of D.segments c.cover.by here) c.cover.trip;
            board = omega (arith, c.cover.board, board_of D.segments c.cover.by here, is);
            order = inr (c.ahead, c.cover.within);
          }))
    ];
  }
  part_from n inside (suc more) e is above made =
      elim (made_or_outdone n (e + 1) inside (record { onward = omega (arith, above); within = omega (arith, is) })) [
        | inl s ↦ part_from n inside more (e + 1) (omega (arith, is)) (omega (arith, above))
            (λ i h k. elim (before_or_next i e k) [ inl below ↦ made i h below | inr here ↦ subst (Made n) here s ])
        | inr o ↦ record {
          end = e;
          within = omega (arith, is);
          made = made;
          past = inr (record { by = o.by; within = o.within; by_then = o.by_then; trip = o.trip; board = omega (arith, o.board); order = inl o.ahead });
        }
      ]

  rest_of : (b e : ℕ) → b < e → (d : ℕ) × (b + d ≡ e)
  rest_of b zero h = absurd (omega (arith, h))
  rest_of zero (suc e) h = (suc e, omega arith)
  rest_of (suc b) (suc e) h = let r = rest_of b e (omega (arith, h)) in (r.0, omega (arith, r.1))

  part : (n : ℕ) → n < length D.segments → Part n
  part n inside =
      let sound = queue.step.segments n no_segment inside in
      let r = rest_of (seg n).board (seg n).end sound.onward in
      part_from n inside r.0 (seg n).board r.1 (omega arith) (λ i h k. absurd (omega (arith, h, k)))

  -- a part of segment n is among these
  record HasPart (X : List RoundSegment) (n : ℕ) : Type 0 where
    pub at : ℕ
    pub inside : at < length X
    pub trip : (segment_at X at).trip ≡ (seg n).trip
    pub board : (segment_at X at).board ≡ (seg n).board
    pub round : (segment_at X at).round ≡ round_of D.segments n

  -- what stands at place m of these is such a part
  pub record IsPartAt (X : List RoundSegment) (m : ℕ) : Type 0 where
    pub of : ℕ
    pub inside : of < length D.segments
    pub trip : (segment_at X m).trip ≡ (segment_of D.segments of).trip
    pub board : (segment_at X m).board ≡ (segment_of D.segments of).board
    pub round : (segment_at X m).round ≡ round_of D.segments of
    pub end : (segment_at X m).end ≤ (segment_of D.segments of).end
    pub made : (i : ℕ) → (segment_of D.segments of).board < i → i ≤ (segment_at X m).end → Made of i
    pub ends : (length (events_of N.table (segment_at X m).trip) ≤ suc (segment_at X m).end) ⊎ IsCovered N.table X m (segment_at X m).round (segment_at X m).trip (segment_at X m).end

  -- these are parts, and a part of each segment that has come first so far is among them
  record IsSortedTo (X : List RoundSegment) (p k : ℕ) : Type 0 where
    pub has : (n : ℕ) → n < length D.segments → (p < left n) ⊎ ((left n ≡ p) × (n < k)) → HasPart X n
    pub parts : (m : ℕ) → m < length X → IsPartAt X m

  abbrev SortedTo : ℕ → ℕ → Type 0
  SortedTo p k = (X : List RoundSegment) × IsSortedTo X p k

  covered-left : (X Y : List RoundSegment) (m r t b : ℕ) → m ≤ length X → IsCovered N.table X m r t b → IsCovered N.table (X ++ Y) m r t b
  covered-left X Y m r t b inside c =
      let same = segment_at-left X Y c.by (omega (arith, c.within, inside)) in
      record {
        by = c.by;
        within = c.within;
        by_then = omega (arith, c.by_then, ap (λ (s : RoundSegment). s.round) same);
        trip = subst (λ (s : RoundSegment). IsTripNoLater N.table s.trip t) (sym same) c.trip;
        board = omega (arith, c.board, ap (λ (s : RoundSegment). s.board) same);
      }

  same_or_not : (a b : ℕ) → (a ≡ b) ⊎ (a ≡ b → ⊥)
  same_or_not a b = by_order (three a b)
    where
      three : (a b : ℕ) → (a < b) ⊎ ((a ≡ b) ⊎ (b < a))
      three a b = grind arith

      by_order : (a < b) ⊎ ((a ≡ b) ⊎ (b < a)) → (a ≡ b) ⊎ (a ≡ b → ⊥)
      by_order (inl less) = inr (λ e. omega (arith, less, e))
      by_order (inr (inl e)) = inl e
      by_order (inr (inr more)) = inr (λ e. omega (arith, more, e))

  -- one more part
  module _ (X : List RoundSegment) (p k : ℕ) (inside : k < length D.segments) (now : left k ≡ p) (s : IsSortedTo X p k) where
    mine : Part k
    mine = part k inside

    abbrev new : RoundSegment
    new = record { trip = (seg k).trip; board = (seg k).board; end = mine.end; round = round_of D.segments k }

    abbrev Y : List RoundSegment
    Y = X ++ new ∷ []

    long : length Y ≡ length X + 1
    long = omega (arith, length-append X (new ∷ []))

    new_at : segment_at Y (length X) ≡ new
    new_at = segment_at-end X new

    has_old : (n : ℕ) → HasPart X n → HasPart Y n
    has_old n h =
        let same = segment_at-left X (new ∷ []) h.at h.inside in
        record {
          at = h.at;
          inside = omega (arith, h.inside, long);
          trip = ap (λ (r : RoundSegment). r.trip) same ∙ h.trip;
          board = ap (λ (r : RoundSegment). r.board) same ∙ h.board;
          round = ap (λ (r : RoundSegment). r.round) same ∙ h.round;
        }

    has_new : HasPart Y k
    has_new = record {
      at = length X;
      inside = omega (arith, long);
      trip = ap (λ (r : RoundSegment). r.trip) new_at;
      board = ap (λ (r : RoundSegment). r.board) new_at;
      round = ap (λ (r : RoundSegment). r.round) new_at;
    }

    -- who comes first is among them
    first : (by : ℕ) → by < length D.segments → (left k < left by) ⊎ ((left k ≤ left by) × (by < k)) → HasPart X by
    first by there (inl more) = s.has by there (inl (omega (arith, more, now)))
    first by there (inr (no_fewer, before)) = elim (same_or_not (left by) p) [
      | inl e ↦ s.has by there (inr (e, before))
      | inr other ↦ s.has by there (inl (elim (less_or_same p (left by) (omega (arith, no_fewer, now))) [ inl less ↦ less | inr e ↦ absurd (other (sym e)) ]))
    ]

    new_ends : (length (events_of N.table (seg k).trip) ≤ suc mine.end) ⊎ IsCovered N.table Y (length X) (round_of D.segments k) (seg k).trip mine.end
    new_ends = elim mine.past [
      | inl last ↦ inl last
      | inr f ↦ (let h = first f.by f.within f.order in
          let same = segment_at-left X (new ∷ []) h.at h.inside in
          inr (record {
            by = h.at;
            within = h.inside;
            by_then = omega (arith, ap (λ (r : RoundSegment). r.round) same, h.round, f.by_then);
            trip = subst (λ t. IsTripNoLater N.table t (seg k).trip) (sym (ap (λ (r : RoundSegment). r.trip) same ∙ h.trip)) f.trip;
            board = omega (arith, ap (λ (r : RoundSegment). r.board) same, h.board, f.board);
          }))
    ]

    part_old : (m : ℕ) → m < length X → IsPartAt X m → IsPartAt Y m
    part_old m h q =
        let same = segment_at-left X (new ∷ []) m h in
        record {
          of = q.of;
          inside = q.inside;
          trip = ap (λ (r : RoundSegment). r.trip) same ∙ q.trip;
          board = ap (λ (r : RoundSegment). r.board) same ∙ q.board;
          round = ap (λ (r : RoundSegment). r.round) same ∙ q.round;
          end = omega (arith, ap (λ (r : RoundSegment). r.end) same, q.end);
          made = λ i a b. q.made i a (omega (arith, b, ap (λ (r : RoundSegment). r.end) same));
          ends = subst (λ (r : RoundSegment). (length (events_of N.table r.trip) ≤ suc r.end) ⊎ IsCovered N.table Y m r.round r.trip r.end) (sym same)
              (elim q.ends [ inl last ↦ inl last | inr c ↦ inr (covered-left X (new ∷ []) m (segment_at X m).round (segment_at X m).trip (segment_at X m).end (omega (arith, h)) c) ]);
        }

    part_new : IsPartAt Y (length X)
    part_new = record {
      of = k;
      inside = inside;
      trip = ap (λ (r : RoundSegment). r.trip) new_at;
      board = ap (λ (r : RoundSegment). r.board) new_at;
      round = ap (λ (r : RoundSegment). r.round) new_at;
      end = omega (arith, ap (λ (r : RoundSegment). r.end) new_at, mine.within);
      made = λ i a b. mine.made i a (omega (arith, b, ap (λ (r : RoundSegment). r.end) new_at));
      ends = subst (λ (r : RoundSegment). (length (events_of N.table r.trip) ≤ suc r.end) ⊎ IsCovered N.table Y (length X) r.round r.trip r.end) (sym new_at) new_ends;
    }

    sorted_more : IsSortedTo Y p (suc k)
    sorted_more = record {
      has = λ n there now'. elim now' [
        | inl more ↦ has_old n (s.has n there (inl more))
        | inr (same, below) ↦ elim (below_or_last n k below) [
          | inl earlier ↦ has_old n (s.has n there (inr (same, earlier)))
          | inr e ↦ subst (HasPart Y) (sym e) has_new
        ]
      ];
      parts = λ m h. elim (below_or_last m (length X) (omega (arith, h, long))) [
        | inl old ↦ part_old m old (s.parts m old)
        | inr e ↦ subst (IsPartAt Y) (sym e) part_new
      ];
    }

  -- the parts of all segments whose trip has so many trips behind
  sorted_row : (p k : ℕ) → k ≤ length D.segments → SortedTo p 0 → SortedTo p k
  sorted_row p zero h s = s
  sorted_row p (suc k) h s =
      let t = sorted_row p k (omega (arith, h)) s in
      elim (same_or_not (left k) p) [
        | inl e ↦ (t.0 ++ new t.0 p k (omega (arith, h)) e t.1 ∷ [], sorted_more t.0 p k (omega (arith, h)) e t.1)
        | inr other ↦ (
          t.0,
          record {
            has = λ n there now. elim now [
              | inl more ↦ t.1.has n there (inl more)
              | inr (same, below) ↦ elim (below_or_last n k below) [
                | inl earlier ↦ t.1.has n there (inr (same, earlier))
                | inr e ↦ absurd (other (ap left (sym e) ∙ same))
              ]
            ];
            parts = t.1.parts;
          },
        )
      ]

  most_left : (k : ℕ) → (B : ℕ) × ((n : ℕ) → n < k → left n ≤ B)
  most_left zero = (0, λ n h. absurd (omega (arith, h)))
  most_left (suc k) =
      let b = most_left k in
      (b.0 + left k, λ n h. elim (below_or_last n k h) [ inl below ↦ (let le = b.1 n below in omega (arith, le)) | inr e ↦ omega (arith, ap left e) ])

  next_row : (p n : ℕ) → p < left n → n < length D.segments → ((suc p < left n) ⊎ ((left n ≡ suc p) × (n < length D.segments)))
  next_row p n more there = elim (less_or_next p (left n) more) [ inl less ↦ inl less | inr e ↦ inr (e, there) ]
    where
      less_or_next : (a b : ℕ) → a < b → (suc a < b) ⊎ (b ≡ suc a)
      less_or_next a b h = grind arith

  sorted_down : (B : ℕ) → ((n : ℕ) → n < length D.segments → left n ≤ B) → (d p : ℕ) → p + d ≡ B → SortedTo p 0
  sorted_down B most zero p is = (
    [],
    record {
      has = λ n there now. elim now [ inl more ↦ absurd (let le = most n there in omega (arith, le, more, is)) | inr (same, below) ↦ absurd (omega (arith, below)) ];
      parts = λ m h. absurd (omega (arith, h));
    },
  )
  sorted_down B most (suc d) p is =
      let s = sorted_row (suc p) (length D.segments) (omega arith) (sorted_down B most d (suc p) (omega (arith, is))) in (
        s.0,
        record {
          has = λ n there now. elim now [ inl more ↦ s.1.has n there (next_row p n more there) | inr (same, below) ↦ absurd (omega (arith, below)) ];
          parts = s.1.parts;
        },
      )

  all_sorted : SortedTo 0 (length D.segments)
  all_sorted =
      let b = most_left (length D.segments) in
      sorted_row 0 (length D.segments) (omega arith) (sorted_down b.0 b.1 b.0 0 (omega arith))

  pub parts : List RoundSegment
  parts = all_sorted.0

  pub part_at : (m : ℕ) → m < length parts → IsPartAt parts m
  unfolding all_sorted parts
  part_at m h = all_sorted.1.parts m h

  none_or_more : (a : ℕ) → (0 < a) ⊎ (a ≡ 0)
  none_or_more a = grind arith

  has_part : (n : ℕ) → n < length D.segments → HasPart parts n
  unfolding all_sorted parts
  has_part n there = all_sorted.1.has n there (elim (none_or_more (left n)) [ inl more ↦ inl more | inr e ↦ inr (e, there) ])

  -- what the segments have reached the parts have reached
  pub parts_reach : (r t b : ℕ) → IsCovered N.table (round_segments D.segments) (length D.segments) r t b → IsCovered N.table parts (length parts) r t b
  parts_reach r t b c =
      let h = has_part c.by c.within in
      record {
        by = h.at;
        within = h.inside;
        by_then = omega (arith, h.round, c.by_then);
        trip = subst (λ x. IsTripNoLater N.table x t) (trip_of D.segments c.by c.within ∙ sym h.trip) c.trip;
        board = omega (arith, h.board, board_of D.segments c.by c.within, c.board);
      }

  pub are_parts : ArePartsOf (round_segments D.segments) parts
  are_parts p (m, inside, is) =
      let q = part_at m inside in
      let here : segment_at parts m ≡ p = get_or-inside parts m (record { trip = 0; board = 0; end = 0; round = 0 }) p inside ∙ is in
      subst (IsPartOf (round_segments D.segments)) here (record {
        of = q.of;
        inside = omega (arith, q.inside, length-round_segments D.segments);
        trip = q.trip ∙ sym (trip_of D.segments q.of q.inside);
        board = q.board ∙ sym (board_of D.segments q.of q.inside);
        round = q.round;
        end = omega (arith, q.end, end_of D.segments q.of q.inside);
      })
