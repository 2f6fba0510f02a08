-- The rounds of segments, when the queue grows.
use Rattle.std.proofs.Common.{◌≡◌, ◌∙◌, ℕ, zero, suc, ◌+◌, ◌<◌, List, [], ◌∷◌, ◌++◌, length, map, take, drop, get_or, Option, Some, None, refl, sym, ap, arith, length-append}
use Rattle.std.specs.Prelude.{IfSome, fold}
use Rattle.std.proofs.Math.ListN.{get_or-append}
use Rattle.std.proofs.Math.Seq.{get_or-append_seam}
use Rattle.std.proofs.lemmas.List.{append_assoc, append-nil, get_or-map, map-append, take-append-drop, take_more}
use Rattle.std.proofs.lemmas.List.Sums.{fold-append}
use Rattle.tb_base.specs.Search.{RoundSegment, segment_at}
use Rattle.segment_queue.specs.declared.desk.Segment.{Segment}
use Rattle.segment_queue.specs.Traced.{no_segment, segment_of, round_after, with_round, round_segments, round_of}

-- rounds that are given stay when segments follow
rest_of : (before : List RoundSegment) (segments : List Segment) → (rest : List RoundSegment) × (fold with_round before segments ≡ before ++ rest)
rest_of before [] = ([], sym (append-nil before))
rest_of before (s ∷ ss) =
    let r : (rest : List RoundSegment) × (fold with_round (with_round before s) ss ≡ with_round before s ++ rest) = rest_of (with_round before s) ss in
    let one : RoundSegment = record { trip = s.trip; board = s.board; end = s.end; round = round_after before s.parent } in
    (one ∷ r.0, r.1 ∙ append_assoc before (one ∷ []) r.0)

long_fold : (before : List RoundSegment) (segments : List Segment) → length (fold with_round before segments) ≡ length before + length segments
long_fold before [] = omega arith
long_fold before (s ∷ ss) =
    let one : RoundSegment = record { trip = s.trip; board = s.board; end = s.end; round = round_after before s.parent } in
    omega (arith, long_fold (with_round before s) ss, length-append before (one ∷ []))

pub length-round_segments : (segments : List Segment) → length (round_segments segments) ≡ length segments
length-round_segments segments = omega (arith, long_fold [] segments)

pub segment_at-kept : (segments more : List Segment) (n : ℕ) → n < length segments → segment_at (round_segments (segments ++ more)) n ≡ segment_at (round_segments segments) n
segment_at-kept segments more n inside =
    let r = rest_of (round_segments segments) more in
    ap (λ rs. segment_at rs n) (fold-append with_round [] segments more ∙ r.1) ∙ get_or-append (round_segments segments) r.0 _ n (omega (arith, length-round_segments segments, inside))

pub segment_of-kept : (segments more : List Segment) (n : ℕ) → n < length segments → segment_of (segments ++ more) n ≡ segment_of segments n
segment_of-kept segments more n inside = get_or-append segments more no_segment n inside

pub round_of-kept : (segments more : List Segment) (n : ℕ) → n < length segments → round_of (segments ++ more) n ≡ round_of segments n
round_of-kept segments more n inside = ap (λ (r : RoundSegment). r.round) (segment_at-kept segments more n inside)

-- the last segment
pub segment_at-last : (segments : List Segment) (s : Segment) → segment_at (round_segments (segments ++ s ∷ [])) (length segments)
    ≡ record { trip = s.trip; board = s.board; end = s.end; round = round_after (round_segments segments) s.parent }
segment_at-last segments s =
    let one : RoundSegment = record { trip = s.trip; board = s.board; end = s.end; round = round_after (round_segments segments) s.parent } in
    ap (λ rs. segment_at rs (length segments)) (fold-append with_round [] segments (s ∷ []))
    ∙ ap (λ n. segment_at (round_segments segments ++ one ∷ []) n) (sym (length-round_segments segments))
    ∙ get_or-append_seam (round_segments segments) one [] _

pub segment_of-last : (segments : List Segment) (s : Segment) → segment_of (segments ++ s ∷ []) (length segments) ≡ s
segment_of-last segments s = get_or-append_seam segments s [] no_segment

-- a part of a segment is that of the segment with its round
module _ (p : RoundSegment → ℕ) (q : Segment → ℕ) (same : (s : Segment) (r : ℕ) → p (record { trip = s.trip; board = s.board; end = s.end; round = r }) ≡ q s) where
  parts : (before : List RoundSegment) (segments : List Segment) → map p (fold with_round before segments) ≡ map p before ++ map q segments
  parts before [] = sym (append-nil (map p before))
  parts before (s ∷ ss) =
      let one : RoundSegment = record { trip = s.trip; board = s.board; end = s.end; round = round_after before s.parent } in
      parts (with_round before s) ss
      ∙ ap (λ xs. xs ++ map q ss) (map-append p before (one ∷ []) ∙ ap (λ x. map p before ++ x ∷ []) (same s (round_after before s.parent)))
      ∙ append_assoc (map p before) (q s ∷ []) (map q ss)

  part_of : (segments : List Segment) (n : ℕ) → n < length segments → p (segment_at (round_segments segments) n) ≡ q (segment_of segments n)
  part_of segments n inside =
      sym (get_or-map p (round_segments segments) n _ 0 (omega (arith, length-round_segments segments, inside)))
      ∙ ap (λ xs. get_or xs n 0) (parts [] segments)
      ∙ get_or-map q segments n no_segment 0 inside

pub trip_of : (segments : List Segment) (n : ℕ) → n < length segments → (segment_at (round_segments segments) n).trip ≡ (segment_of segments n).trip
trip_of segments n inside = part_of (λ r. r.trip) (λ s. s.trip) (λ s r. refl) segments n inside

pub board_of : (segments : List Segment) (n : ℕ) → n < length segments → (segment_at (round_segments segments) n).board ≡ (segment_of segments n).board
board_of segments n inside = part_of (λ r. r.board) (λ s. s.board) (λ s r. refl) segments n inside

pub end_of : (segments : List Segment) (n : ℕ) → n < length segments → (segment_at (round_segments segments) n).end ≡ (segment_of segments n).end
end_of segments n inside = part_of (λ r. r.end) (λ s. s.end) (λ s r. refl) segments n inside

-- the round of a segment is that behind its parent
pub round_behind : (segments : List Segment) (n : ℕ) → n < length segments → (parent : Option (ℕ × ℕ)) → (segment_of segments n).parent ≡ parent → IfSome parent (λ p. p.0 < n) → round_of segments n ≡ round_after (round_segments segments) parent
round_behind segments n inside parent is earlier =
    let before : List Segment = take n segments in
    let s : Segment = segment_of segments n in
    let after : List Segment = drop (n + 1) segments in
    let whole : segments ≡ (before ++ s ∷ []) ++ after = split segments n inside in
    let long : length before ≡ n = taken segments n inside in
    let longer : length (before ++ s ∷ []) ≡ n + 1 = omega (arith, length-append before (s ∷ []), long) in
    ap (λ xs. round_of xs n) whole
    ∙ round_of-kept (before ++ s ∷ []) after n (omega (arith, longer))
    ∙ ap (round_of (before ++ s ∷ [])) (sym long)
    ∙ ap (λ (r : RoundSegment). r.round) (segment_at-last before s)
    ∙ ap (round_after (round_segments before)) is
    ∙ by_parent parent earlier before after s whole long
  where
    taken : (xs : List Segment) (n : ℕ) → n < length xs → length (take n xs) ≡ n
    taken [] n h = absurd (omega (arith, h))
    taken (x ∷ xs) zero h = refl
    taken (x ∷ xs) (suc n) h = omega (arith, taken xs n (omega (arith, h)))

    split : (xs : List Segment) (n : ℕ) → n < length xs → xs ≡ (take n xs ++ segment_of xs n ∷ []) ++ drop (n + 1) xs
    split xs n h = sym (take-append-drop (n + 1) xs) ∙ ap (λ ys. ys ++ drop (n + 1) xs) (take_more xs n no_segment h)

    by_parent : (o : Option (ℕ × ℕ)) → IfSome o (λ p. p.0 < n) → (before after : List Segment) (s : Segment) → segments ≡ (before ++ s ∷ []) ++ after → length before ≡ n → round_after (round_segments before) o ≡ round_after (round_segments segments) o
    by_parent None h before after s whole long = refl
    by_parent (Some p) h before after s whole long =
        ap suc (ap (λ (r : RoundSegment). r.round) (sym (ap (λ xs. segment_at (round_segments xs) p.0) (whole ∙ append_assoc before (s ∷ []) after) ∙ segment_at-kept before (s ∷ [] ++ after) p.0 (omega (arith, h, long)))))
