-- Marks by the number of rides stay so when a trip is entered, and when a level is made.
use Rattle.std.proofs.Common.{◌≡◌, ◌∙◌, ℕ, suc, ◌+◌, ◌-◌, ◌<◌, ◌≤◌, ◌⊎◌, inl, inr, List, [], ◌∷◌, ◌++◌, length, length-set, get_or, set, refl, sym, ap, subst, arith, Option, length-append}
use Rattle.std.specs.Prelude.{All, min}
use Rattle.std.specs.List.{concat}
use Rattle.std.proofs.lemmas.List.{get_or-set_other, get_or-set_same, get_or_default}
use Rattle.tb_base.specs.Network.{NetData}
use Rattle.tb_base.proofs.Ordered.{Member}
use Rattle.std.proofs.lemmas.List.{get_or_append_left}
use Rattle.std.proofs.lemmas.List.Elements.{All-push}
use Rattle.std.proofs.Math.Seq.{get_or-append_seam}
use Rattle.std.proofs.lemmas.Bool.{cases_lt, cases_eq}
use Rattle.tb_base.specs.TimetableData.{TimetableData, events_of}
use Rattle.tb_base.specs.Lines.{AreDividedInto, IsTripNoLater}
use Rattle.tb_base.specs.Search.{IsCovered, RoundSegment, segment_at}
use Rattle.tb_base.proofs.LineFacts.{no_later}
use Rattle.segment_queue.specs.Scans.{trips_from}
use Rattle.segment_queue.specs.Queue.{IsFalling, lowered_mark, mark_of}
use Rattle.segment_queue.specs.Levels.{AreDescending, AreKept, EntersLevel, level_mark, level_segment, with_level}
use Rattle.segment_queue.proofs.Distinct.{all_by_member, has_member, member_or_not, of_member, pairs_weaker}
use Rattle.segment_queue.proofs.LineParts.{StaysBehind, later_too, member_concat, pairs_of, trips_no_later}
use Rattle.segment_queue.proofs.LoweredMarks.{lowered-in, lowered-le, lowered-out}

covered_more : (T : TimetableData) (segments : List RoundSegment) (s : RoundSegment) (n round t b : ℕ) → n ≤ length segments → IsCovered T segments n round t b → IsCovered T (segments ++ s ∷ []) (length (segments ++ s ∷ [])) round t b
covered_more T segments s n round t b inside c =
    let same : segment_at (segments ++ s ∷ []) c.by ≡ segment_at segments c.by = get_or_append_left segments (s ∷ []) _ c.by (omega (arith, c.within, inside)) in
    record {
      by = c.by;
      within = omega (arith, c.within, inside, length-append segments (s ∷ []));
      by_then = omega (arith, ap (λ (r : RoundSegment). r.round) same, c.by_then);
      trip = subst (λ (r : RoundSegment). IsTripNoLater T r.trip t) (sym same) c.trip;
      board = omega (arith, ap (λ (r : RoundSegment). r.board) same, c.board);
    }

-- who is refused at a level has been reached there before, with no more rides
pub level_refused : (T : TimetableData) (levels : List (List (Option ℕ))) (segments : List RoundSegment) → AreKept T levels segments → (k trip at : ℕ) → trip < length T.trips → k < length levels →
    level_mark T levels k trip ≤ at → at + 1 < length (events_of T trip) → IsCovered T segments (length segments) (suc k) trip at
level_refused T levels segments kept k trip at inside level refused not_last =
    elim (kept k trip level inside) [
      | inl last ↦ absurd (omega (arith, last, refused, not_last))
      | inr c ↦ record { by = c.by; within = c.within; by_then = c.by_then; trip = c.trip; board = omega (arith, c.board, refused) }
    ]

module _ (N : NetData) (divided : AreDividedInto N.table N.lines) (levels : List (List (Option ℕ))) (segments : List RoundSegment) (kept : AreKept N.table levels segments) (k trip at : ℕ) (inside : trip < length N.table.trips) (level : k < length levels) where
  -- what lies past the end of a segment that is entered has been reached before it, with no more rides
  pub level_ends : (length (events_of N.table trip) ≤ suc (level_mark N.table levels k trip)) ⊎ IsCovered N.table segments (length segments) (suc k) trip (level_mark N.table levels k trip)
  level_ends = kept k trip level inside

  module _ (new : List (List (Option ℕ))) (enters : EntersLevel N k trip at levels new) where
    abbrev all : List RoundSegment
    all = segments ++ level_segment N.table levels k trip at ∷ []

    new_at : segment_at all (length segments) ≡ level_segment N.table levels k trip at
    new_at = get_or-append_seam segments (level_segment N.table levels k trip at) [] _

    by_new : (m u b : ℕ) → k ≤ m → IsTripNoLater N.table trip u → at ≤ b → IsCovered N.table all (length all) (suc m) u b
    by_new m u b up no_later behind = record {
      by = length segments;
      within = omega (arith, length-append segments (level_segment N.table levels k trip at ∷ []));
      by_then = omega (arith, ap (λ (r : RoundSegment). r.round) new_at, up);
      trip = subst (λ (r : RoundSegment). IsTripNoLater N.table r.trip u) (sym new_at) no_later;
      board = omega (arith, ap (λ (r : RoundSegment). r.board) new_at, behind);
    }

    -- the trip has been reached there
    pub level_reached : IsCovered N.table all (length all) (suc k) trip at
    level_reached = by_new k trip at (omega arith) (no_later N.table trip trip (inl refl)) (omega arith)

    -- all levels stay marks by the number of rides
    pub level_entered : AreKept N.table new all
    level_entered m u there trip_inside = elim (cases_lt m k) [
      | inl low ↦ old (enters.below m u low trip_inside)
      | inr high ↦ elim (member_or_not u (trips_from N.lines trip)) [
        | inl e ↦ by_mark high (cases_lt at (level_mark N.table levels m u)) (enters.from m u high there' trip_inside ∙ lowered-in (trips_from N.lines trip) at u (level_mark N.table levels m u) e.1) (trips_no_later N.table N.lines trip u divided e.0)
        | inr e ↦ old (enters.from m u high there' trip_inside ∙ lowered-out (trips_from N.lines trip) at u (level_mark N.table levels m u) e.1)
      ]
    ]
      where
        there' : m < length levels
        there' = omega (arith, there, enters.long)

        old : level_mark N.table new m u ≡ level_mark N.table levels m u → (length (events_of N.table u) ≤ suc (level_mark N.table new m u)) ⊎ IsCovered N.table all (length all) (suc m) u (level_mark N.table new m u)
        old e = elim (kept m u there' trip_inside) [
          | inl last ↦ inl (omega (arith, last, e))
          | inr c ↦ inr (subst (λ b. IsCovered N.table all (length all) (suc m) u b) (sym e) (covered_more N.table segments (level_segment N.table levels k trip at) (length segments) (suc m) u (level_mark N.table levels m u) (omega arith) c))
        ]

        by_mark : k ≤ m → (at < level_mark N.table levels m u) ⊎ (level_mark N.table levels m u ≤ at) → level_mark N.table new m u ≡ min (level_mark N.table levels m u) at → IsTripNoLater N.table trip u →
            (length (events_of N.table u) ≤ suc (level_mark N.table new m u)) ⊎ IsCovered N.table all (length all) (suc m) u (level_mark N.table new m u)
        by_mark high (inl above) e follows = inr (by_new m u (level_mark N.table new m u) high follows (omega (arith, e, above)))
        by_mark high (inr low) e follows = old (omega (arith, e, low))

    -- and never rise with it
    pub level_descending : AreDescending N.table levels → AreDescending N.table new
    level_descending descends i m u le there trip_inside = by_place (cases_lt i k) (cases_lt m k)
      where
        there' : m < length levels
        there' = omega (arith, there, enters.long)

        before : level_mark N.table levels m u ≤ level_mark N.table levels i u
        before = descends i m u le there' trip_inside

        lower : level_mark N.table new m u ≤ level_mark N.table levels m u
        lower = elim (cases_lt m k) [
          | inl low ↦ omega (arith, enters.below m u low trip_inside)
          | inr high ↦ elim (member_or_not u (trips_from N.lines trip)) [
            | inl e ↦ omega (arith, enters.from m u high there' trip_inside, lowered-in (trips_from N.lines trip) at u (level_mark N.table levels m u) e.1)
            | inr e ↦ omega (arith, enters.from m u high there' trip_inside, lowered-out (trips_from N.lines trip) at u (level_mark N.table levels m u) e.1)
          ]
        ]

        by_place : (i < k) ⊎ (k ≤ i) → (m < k) ⊎ (k ≤ m) → level_mark N.table new m u ≤ level_mark N.table new i u
        by_place (inl low) _ = omega (arith, enters.below i u low trip_inside, before, lower)
        by_place (inr high) (inl low) = absurd (omega (arith, high, low, le))
        by_place (inr high) (inr high') = elim (member_or_not u (trips_from N.lines trip)) [
          | inl e ↦ omega (
            arith,
            enters.from m u high' there' trip_inside,
            lowered-in (trips_from N.lines trip) at u (level_mark N.table levels m u) e.1,
            enters.from i u high (omega (arith, le, there')) trip_inside,
            lowered-in (trips_from N.lines trip) at u (level_mark N.table levels i u) e.1,
            before,
          )
          | inr e ↦ omega (
            arith,
            enters.from m u high' there' trip_inside,
            lowered-out (trips_from N.lines trip) at u (level_mark N.table levels m u) e.1,
            enters.from i u high (omega (arith, le, there')) trip_inside,
            lowered-out (trips_from N.lines trip) at u (level_mark N.table levels i u) e.1,
            before,
          )
        ]

-- a level more has the marks of the last
module _ (T : TimetableData) (levels : List (List (Option ℕ))) (some : 0 < length levels) where
  abbrev last : List (Option ℕ)
  last = get_or levels (length levels - 1) []

  abbrev copied : ℕ → ℕ
  copied m = min m (length levels - 1)

  made_at : (m : ℕ) → m < length (with_level levels) → get_or (with_level levels) m [] ≡ get_or levels (copied m) []
  made_at m there = elim (cases_lt m (length levels)) [
    | inl low ↦ get_or_append_left levels (last ∷ []) [] m low ∙ ap (λ k. get_or levels k []) (omega (arith, low, some))
    | inr high ↦ (let at : m ≡ length levels = omega (arith, high, there, length-append levels (last ∷ [])) in
        ap (λ k. get_or (with_level levels) k []) at ∙ get_or-append_seam levels last [] [] ∙ ap (λ k. get_or levels k []) (omega (arith, at, some)))
  ]

  inside_before : (m : ℕ) → copied m < length levels
  inside_before m = omega (arith, some)

  -- the levels stay marks by the number of rides
  pub level_made : (segments : List RoundSegment) → AreKept T levels segments → AreKept T (with_level levels) segments
  level_made segments kept m t there inside =
      subst (λ marks. (length (events_of T t) ≤ suc (mark_of T marks t)) ⊎ IsCovered T segments (length segments) (suc m) t (mark_of T marks t)) (sym (made_at m there))
      (elim (kept (copied m) t (inside_before m) inside) [
        | inl h ↦ inl h
        | inr c ↦ inr (record { by = c.by; within = c.within; by_then = omega (arith, c.by_then); trip = c.trip; board = c.board })
      ])

  -- never rise with it
  pub made_descending : AreDescending T levels → AreDescending T (with_level levels)
  made_descending descends k m t le there inside =
      let at_m : level_mark T (with_level levels) m t ≡ level_mark T levels (copied m) t = ap (λ marks. mark_of T marks t) (made_at m there) in
      let at_k : level_mark T (with_level levels) k t ≡ level_mark T levels (copied k) t = ap (λ marks. mark_of T marks t) (made_at k (omega (arith, le, there))) in
      omega (arith, at_m, at_k, descends (copied k) (copied m) t (omega (arith, le)) (inside_before m) inside)

  -- and lie within the trips
  pub made_within : ((m t : ℕ) → m < length levels → t < length T.trips → level_mark T levels m t < length (events_of T t)) → (m t : ℕ) → m < length (with_level levels) → t < length T.trips → level_mark T (with_level levels) m t < length (events_of T t)
  made_within within m t there inside =
      let at_m : level_mark T (with_level levels) m t ≡ level_mark T levels (copied m) t = ap (λ marks. mark_of T marks t) (made_at m there) in
      omega (arith, at_m, within (copied m) t (inside_before m) inside)

pub made_all : (P : List (Option ℕ) → Type 0) (levels : List (List (Option ℕ))) → 0 < length levels → All P levels → All P (with_level levels)
made_all P levels some all = All-push P levels (get_or levels (length levels - 1) []) all (all (length levels - 1) [] (omega (arith, some)))

-- marks that fall along the lines still do when a trip is entered
pub falling_on : (T : TimetableData) (lines : List (List ℕ)) (old new : List (Option ℕ)) (t at : ℕ) → AreDividedInto T lines → ((u : ℕ) → u < length T.trips → mark_of T new u ≡ lowered_mark (trips_from lines t) at u (mark_of T old u)) → All (IsFalling T old) lines → All (IsFalling T new) lines
falling_on T lines old new t at divided is falling = all_by_member (IsFalling T new) lines (λ line h. line_falls line h)
  where
    falls : (u : ℕ) → u < length T.trips → mark_of T new u ≤ mark_of T old u
    falls u h = omega (arith, is u h, lowered-le (trips_from lines t) at u (mark_of T old u))

    in_table : (u : ℕ) (line : List ℕ) → Member line lines → Member u line → u < length T.trips
    in_table u line h k = of_member (λ x. x < length T.trips) (concat lines) u divided.trips (member_concat u line lines h k)

    line_falls : (line : List ℕ) → Member line lines → IsFalling T new line
    line_falls line h =
        pairs_weaker (λ x y. (mark_of T old y ≤ mark_of T old x) × StaysBehind (trips_from lines t) x y) (λ x y. mark_of T new y ≤ mark_of T new x) line
        (λ x y a b r. pair x y (in_table x line h a) (in_table y line h b) r.0 r.1)
        (λ i j d before b. (of_member (IsFalling T old) lines line falling h i j d before b, later_too t lines divided.once line h i j d before b))
      where
        pair : (x y : ℕ) → x < length T.trips → y < length T.trips → mark_of T old y ≤ mark_of T old x → StaysBehind (trips_from lines t) x y → mark_of T new y ≤ mark_of T new x
        pair x y a b low behind =
            elim (member_or_not x (trips_from lines t)) [
              | inl e ↦ omega (
                arith,
                low,
                is x a,
                is y b,
                lowered-in (trips_from lines t) at x (mark_of T old x) e.1,
                lowered-in (trips_from lines t) at y (mark_of T old y) (has_member y (trips_from lines t) (behind e.0)),
              )
              | inr e ↦ omega (arith, low, is x a, lowered-out (trips_from lines t) at x (mark_of T old x) e.1, falls y b)
            ]

-- the levels below k from the first on have been lowered, and the others have not
pub record AreLowered (N : NetData) (first k trip at : ℕ) (old now : List (List (Option ℕ))) : Type 0 where
  pub long : length now ≡ length old
  pub untouched : (m : ℕ) → m < first → get_or now m [] ≡ get_or old m []
  pub left : (m : ℕ) → k ≤ m → get_or now m [] ≡ get_or old m []
  pub done : (m u : ℕ) → first ≤ m → m < k → m < length old → u < length N.table.trips → level_mark N.table now m u ≡ lowered_mark (trips_from N.lines trip) at u (level_mark N.table old m u)
  pub room : All (λ marks. length N.table.trips ≤ length marks) now
  pub falling : All (λ marks. All (IsFalling N.table marks) N.lines) now

pub one_lowered : (N : NetData) (first k trip at : ℕ) (old now : List (List (Option ℕ))) (marks new : List (Option ℕ)) → AreDividedInto N.table N.lines → AreLowered N first k trip at old now → first ≤ k → k < length now → marks ≡ get_or now k marks →
    length new ≡ length marks → ((u : ℕ) → u < length N.table.trips → mark_of N.table new u ≡ lowered_mark (trips_from N.lines trip) at u (mark_of N.table marks u)) → AreLowered N first (k + 1) trip at old (set now k new)
one_lowered N first k trip at old now marks new divided so_far from inside is long lowers = record {
  long = length-set now k new ∙ so_far.long;
  untouched = λ m h. get_or-set_other now k m new [] (λ e. omega (arith, e, h, from)) ∙ so_far.untouched m h;
  left = λ m h. get_or-set_other now k m new [] (λ e. omega (arith, e, h)) ∙ so_far.left m (omega (arith, h));
  done = λ m u a b there trip_inside. elim (cases_lt m k) [
    | inl low ↦ ap (λ ms. mark_of N.table ms u) (get_or-set_other now k m new [] (λ e. omega (arith, e, low))) ∙ so_far.done m u a low there trip_inside
    | inr high ↦ (let e : m ≡ k = omega (arith, high, b) in
        subst (λ i. level_mark N.table (set now k new) i u ≡ lowered_mark (trips_from N.lines trip) at u (level_mark N.table old i u)) (sym e)
        (ap (λ ms. mark_of N.table ms u) (get_or-set_same now k new [] inside) ∙ lowers u trip_inside ∙ ap (λ ms. lowered_mark (trips_from N.lines trip) at u (mark_of N.table ms u)) (marks_are ∙ so_far.left k (omega arith))))
  ];
  room = all_set (λ ms. length N.table.trips ≤ length ms) now k new so_far.room inside (omega (arith, long, subst (λ ms. length N.table.trips ≤ length ms) (sym is) (so_far.room k marks inside)));
  falling = all_set (λ ms. All (IsFalling N.table ms) N.lines) now k new so_far.falling inside (falling_on N.table N.lines marks new trip at divided lowers (subst (λ ms. All (IsFalling N.table ms) N.lines) (sym is) (so_far.falling k marks inside)));
}
  where
    marks_are : marks ≡ get_or now k []
    marks_are = is ∙ get_or_default now k marks [] inside

    all_set : {X : Type 0} (P : X → Type 0) (xs : List X) (n : ℕ) (x : X) → All P xs → n < length xs → P x → All P (set xs n x)
    all_set P xs n x all h p j d there = elim (cases_eq j n) [
      | inl e ↦ subst P (sym (ap (λ i. get_or (set xs n x) i d) e ∙ get_or-set_same xs n x d h)) p
      | inr other ↦ subst P (sym (get_or-set_other xs n j x d other)) (all j d (omega (arith, there, length-set xs n x)))
    ]

pub level_falls : (T : TimetableData) (lines : List (List ℕ)) (now : List (List (Option ℕ))) (k : ℕ) (marks : List (Option ℕ)) (t : ℕ) → All (λ ms. All (IsFalling T ms) lines) now → k < length now → marks ≡ get_or now k marks → IsFalling T marks (trips_from lines t)
level_falls T lines now k marks t falling inside is = pairs_of (λ t u. mark_of T marks u ≤ mark_of T marks t) t lines (subst (λ ms. All (IsFalling T ms) lines) (sym is) (falling k marks inside))

-- no mark rises when a trip is entered
pub level_falls_on : (N : NetData) (k trip at : ℕ) (old new : List (List (Option ℕ))) → EntersLevel N k trip at old new → (m u : ℕ) → m < length old → u < length N.table.trips → level_mark N.table new m u ≤ level_mark N.table old m u
level_falls_on N k trip at old new enters m u there inside =
    elim (cases_lt m k) [
      | inl low ↦ omega (arith, enters.below m u low inside)
      | inr high ↦ omega (arith, enters.from m u high there inside, lowered-le (trips_from N.lines trip) at u (level_mark N.table old m u))
    ]
