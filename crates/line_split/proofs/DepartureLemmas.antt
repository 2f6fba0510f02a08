-- The departures of a line at an index are one run, and the first in time is found along it.
use Rattle.std.proofs.Common.{◌≡◌, ◌∙◌, sym, ap, subst, refl, ℕ, zero, suc, ◌+◌, ◌-◌, ◌*◌, ◌<◌, ◌≤◌, ◌⊎◌, inl, inr, false, cond, List, [], ◌∷◌, ◌++◌, length, map, get_or, take, drop, Some, ℤ, ◌≤ℤ◌, ◌<ℤ◌, arith, append_assoc, length-append}
use Rattle.std.specs.Prelude.{AllPairs, flat_map, int_le, pos, slice_get}
use Rattle.std.specs.List.{AllWithin, range_with_len}
use Rattle.std.proofs.lemmas.Int.{ints}
use Rattle.std.proofs.lemmas.List.{append-nil, get_or_default, get_or-drop, get_or-take, length-drop, length-map, length-take-le, take-append-drop, drop_more, take_at, drop_at, take_more, flat_map_more, get_or-map}
use Rattle.std.proofs.lemmas.List.FromFn.{get_or-map-range_with_len, map-range_with_len_more}
use Rattle.std.proofs.lemmas.List.Concat.{flat_map-append}
use Rattle.tb_base.specs.TimetableData.{TimetableData, departure_at}
use Rattle.tb_base.specs.Transfers.{numbers_below, earliest_trip}
use Rattle.tb_base.specs.Lines.{AreDividedInto}
use Rattle.tb_base.proofs.LineFacts.{MayFollow, no_later}
use Rattle.line_split.specs.Layout.{AreLaidOut, LinesLayout, departures_at, line_departures}
use Rattle.line_split.specs.LinesOf.{line_events}
use Rattle.line_split.proofs.CallLemmas.{numbers_below-more}
use Rattle.tb_base.proofs.NumberFacts.{below_or_last, le-int_le, zero_more}

-- ---- a part of a list

pub middle : {X : Type 0} (a b r c : List X) (n m : ℕ) → n ≡ length a + length b → m ≡ length r → take m (drop n (a ++ (b ++ (r ++ c)))) ≡ r
middle a b r c n m e f =
    ap (λ xs. take m (drop n xs)) (sym (append_assoc a b (r ++ c)))
    ∙ ap (take m) (drop_at (a ++ b) (r ++ c) n (length-append a b ∙ sym e)) ∙ take_at r c m (sym f)

pub middle_within : {X : Type 0} (a b r c : List X) (n m : ℕ) → n ≡ length a + length b → m ≡ length r → n + m ≤ length (a ++ (b ++ (r ++ c)))
middle_within a b r c n m e f = omega (arith, e, f, length-append a (b ++ (r ++ c)), length-append b (r ++ c), length-append r c)

pub flat_map-at : {X A : Type 0} (f : X → List A) (xs : List X) (i : ℕ) (d : X) → i < length xs → flat_map f xs ≡ flat_map f (take i xs) ++ (f (get_or xs i d) ++ flat_map f (drop (i + 1) xs))
flat_map-at f xs i d h =
    ap (flat_map f) (sym (take-append-drop i xs)) ∙ flat_map-append f (take i xs) (drop i xs) ∙ ap (λ ys. flat_map f (take i xs) ++ flat_map f ys) (drop_more xs i d h)

record BelowSplit (n i : ℕ) : Type 0 where
  pub rest : List ℕ
  pub is : numbers_below n ≡ numbers_below i ++ i ∷ rest

below_split : (n i : ℕ) → i < n → BelowSplit n i
below_split zero i h = absurd (omega arith)
below_split (suc n) i h = by_case (λ k. below_split n i k) (below_or_last i n h)
  where
    by_case : (i < n → BelowSplit n i) → (i < n) ⊎ (i ≡ n) → BelowSplit (suc n) i
    by_case more (inl k) = let r : BelowSplit n i = more k in record { rest = r.rest ++ n ∷ []; is = ap (λ xs. xs ++ n ∷ []) r.is ∙ append_assoc (numbers_below i) (i ∷ r.rest) (n ∷ []) }
    by_case more (inr e) = record { rest = []; is = ap (λ k. numbers_below k ++ k ∷ []) (sym e) }

length-runs : (T : TimetableData) (line : List ℕ) (n : ℕ) → length (flat_map (departures_at T line) (numbers_below n)) ≡ n * length line
length-runs T line zero = omega arith
length-runs T line (suc n) =
    ap length (flat_map-append (departures_at T line) (numbers_below n) (n ∷ []))
    ∙ length-append (flat_map (departures_at T line) (numbers_below n)) (departures_at T line n ++ [])
    ∙ added (length-runs T line n) (ap length (append-nil (departures_at T line n)) ∙ length-map line (λ u. departure_at T u n))
  where
    added : {a b : ℕ} → a ≡ n * length line → b ≡ length line → a + b ≡ suc n * length line
    added e f = grind arith

-- the run of line l at index i
pub record IsRun (T : TimetableData) (lines : List (List ℕ)) (l i start count : ℕ) (departures : List ℤ) : Type 0 where
  pub within : start + i * count + count ≤ length departures
  pub is : take count (drop (start + i * count) departures) ≡ departures_at T (get_or lines l []) i

pub run_of : (T : TimetableData) (lines : List (List ℕ)) (l i start count : ℕ) (departures : List ℤ) → l < length lines → i < length (line_events T (get_or lines l [])) →
    start ≡ length (flat_map (line_departures T) (take l lines)) → count ≡ length (get_or lines l []) → departures ≡ flat_map (line_departures T) lines → IsRun T lines l i start count departures
run_of T lines l i start count departures h k s n e =
    let line : List ℕ = get_or lines l [] in
    let split : BelowSplit (length (line_events T line)) i = below_split (length (line_events T line)) i k in
    let before : List ℤ = flat_map (line_departures T) (take l lines) in
    let others : List ℤ = flat_map (line_departures T) (drop (l + 1) lines) in
    let runs : List ℤ = flat_map (departures_at T line) (numbers_below i) in
    let later : List ℤ = flat_map (departures_at T line) split.rest in
    let own : line_departures T line ≡ runs ++ (departures_at T line i ++ later) = ap (flat_map (departures_at T line)) split.is ∙ flat_map-append (departures_at T line) (numbers_below i) (i ∷ split.rest) in
    let all : departures ≡ before ++ (runs ++ (departures_at T line i ++ (later ++ others))) =
    e ∙ flat_map-at (line_departures T) lines l [] h ∙ ap (λ xs. before ++ (xs ++ others)) own
    ∙ ap (λ xs. before ++ xs) (append_assoc runs (departures_at T line i ++ later) others ∙ ap (λ xs. runs ++ xs) (append_assoc (departures_at T line i) later others)) in
    let at : start + i * count ≡ length before + length runs = rw (s, n, length-runs T line i) refl in
    let long : count ≡ length (departures_at T line i) = n ∙ sym (length-map line (λ u. departure_at T u i)) in
    record {
      within = rw all (middle_within before runs (departures_at T line i) (later ++ others) (start + i * count) count at long);
      is = rw all (middle before runs (departures_at T line i) (later ++ others) (start + i * count) count at long);
    }

-- ---- the first departure in time

-- up to a departure that is earlier, all are
pub earlier_to : (xs : List ℤ) (time : ℤ) (p n : ℕ) → AllPairs (λ x y. x ≤ℤ y) xs → p < length xs → get_or xs p (pos 0) <ℤ time → n ≤ p + 1 → AllWithin (λ x. x <ℤ time) xs 0 n
earlier_to xs time p n up inside is most k d low high = by_case (grind (arith, high, most))
  where
    below : (a b c : ℤ) → a ≤ℤ b → b <ℤ c → a <ℤ c
    below a b c g h = omega (arith, ints, g, h)

    last : get_or xs p d <ℤ time
    last = subst (λ x. x <ℤ time) (get_or_default xs p (pos 0) d inside) is

    by_case : (k < p) ⊎ (k ≡ p) → get_or xs k d <ℤ time
    by_case (inl before) = below (get_or xs k d) (get_or xs p d) time (up k p d before inside) last
    by_case (inr e) = subst (λ m. get_or xs m d <ℤ time) (sym e) last

-- from a departure that isn't earlier on, none is
pub later_from : (xs : List ℤ) (time : ℤ) (p n : ℕ) → AllPairs (λ x y. x ≤ℤ y) xs → p < length xs → time ≤ℤ get_or xs p (pos 0) → p ≤ n → AllWithin (λ x. time ≤ℤ x) xs n (length xs)
later_from xs time p n up inside is least k d low high = by_case (grind (arith, low, least))
  where
    above : (a b c : ℤ) → a ≤ℤ b → b ≤ℤ c → a ≤ℤ c
    above a b c g h = omega (arith, ints, g, h)

    first : time ≤ℤ get_or xs p d
    first = subst (λ x. time ≤ℤ x) (get_or_default xs p (pos 0) d inside) is

    by_case : (p < k) ⊎ (k ≡ p) → time ≤ℤ get_or xs k d
    by_case (inl behind) = above time (get_or xs p d) (get_or xs k d) first (up p k d behind high)
    by_case (inr e) = subst (λ m. time ≤ℤ get_or xs m d) (sym e) first

-- a part is halved: its first half is earlier
pub halved_up : (xs : List ℤ) (time : ℤ) (from count half : ℕ) → AllPairs (λ x y. x ≤ℤ y) xs → 0 < half → half ≤ count → from + count ≤ length xs →
    AllWithin (λ x. time ≤ℤ x) xs (from + count) (length xs) → get_or xs (from + half - 1) (pos 0) <ℤ time →
    (from + half + (count - half) ≤ length xs) × AllWithin (λ x. x <ℤ time) xs 0 (from + half) × AllWithin (λ x. time ≤ℤ x) xs (from + half + (count - half)) (length xs)
halved_up xs time from count half up some most within behind is = (
  omega (arith, most, within),
  earlier_to xs time (from + half - 1) (from + half) up (omega (arith, some, most, within)) is (omega (arith, some)),
  λ k d low high. behind k d (omega (arith, low, most)) high,
)

-- or not all of its first half is
pub halved_down : (xs : List ℤ) (time : ℤ) (from count half : ℕ) → AllPairs (λ x y. x ≤ℤ y) xs → 0 < half → half + half ≤ count → from + count ≤ length xs →
    AllWithin (λ x. x <ℤ time) xs 0 from → time ≤ℤ get_or xs (from + half - 1) (pos 0) →
    (from + (count - half) ≤ length xs) × AllWithin (λ x. x <ℤ time) xs 0 from × AllWithin (λ x. time ≤ℤ x) xs (from + (count - half)) (length xs)
halved_down xs time from count half up some most within before is = (
  omega (arith, most, within),
  before,
  later_from xs time (from + half - 1) (from + (count - half)) up (omega (arith, some, most, within)) is (omega (arith, some, most)),
)

-- the departures of a part, from a place on and so many
part_at : (xs : List ℤ) (from count k : ℕ) (d : ℤ) → k < count → get_or (take count (drop from xs)) k d ≡ get_or xs (from + k) d
part_at xs from count k d h = get_or-take count (drop from xs) k d h ∙ get_or-drop from xs k d

pub part-length : (xs : List ℤ) (from count : ℕ) → from + count ≤ length xs → length (take count (drop from xs)) ≡ count
part-length xs from count h = length-take-le count (drop from xs) (omega (arith, h, length-drop from xs))

pub part_ascends : (xs : List ℤ) (from count : ℕ) → from + count ≤ length xs → AllPairs (λ x y. x ≤ℤ y) xs → AllPairs (λ x y. x ≤ℤ y) (take count (drop from xs))
part_ascends xs from count within up j k d before below =
    let inside : k < count = omega (arith, below, part-length xs from count within) in
    rw (part_at xs from count j d (omega (arith, before, inside)), part_at xs from count k d inside) (up (from + j) (from + k) d (omega (arith, before)) (omega (arith, inside, within)))

-- what is told of a part tells of all, where all before it are earlier
pub earlier_in_all : (xs : List ℤ) (time : ℤ) (from count n : ℕ) → from + count ≤ length xs → AllWithin (λ x. x <ℤ time) xs 0 from → n ≤ count →
    AllWithin (λ x. x <ℤ time) (take count (drop from xs)) 0 n → AllWithin (λ x. x <ℤ time) xs 0 (from + n)
earlier_in_all xs time from count n within before most inside k d low high = by_case (grind (arith, high))
  where
    at : k ≡ from + (k - from) → k - from < n → get_or xs k d <ℤ time
    at e h = subst (λ m. get_or xs m d <ℤ time) (sym e) (subst (λ x. x <ℤ time) (part_at xs from count (k - from) d (omega (arith, h, most))) (inside (k - from) d (omega arith) h))

    by_case : (k < from) ⊎ (from ≤ k) → get_or xs k d <ℤ time
    by_case (inl h) = before k d low h
    by_case (inr h) = at (omega (arith, h)) (omega (arith, h, high))

-- and where none behind it is
pub later_in_all : (xs : List ℤ) (time : ℤ) (from count n : ℕ) → from + count ≤ length xs → AllWithin (λ x. time ≤ℤ x) xs (from + count) (length xs) →
    AllWithin (λ x. time ≤ℤ x) (take count (drop from xs)) n (length (take count (drop from xs))) → AllWithin (λ x. time ≤ℤ x) xs (from + n) (length xs)
later_in_all xs time from count n within behind inside k d low high = by_case (grind arith)
  where
    at : k ≡ from + (k - from) → k - from < count → n ≤ k - from → time ≤ℤ get_or xs k d
    at e h g =
        subst (λ m. time ≤ℤ get_or xs m d) (sym e)
        (subst (λ x. time ≤ℤ x) (part_at xs from count (k - from) d h) (inside (k - from) d g (omega (arith, h, part-length xs from count within))))

    by_case : (from + count ≤ k) ⊎ (k < from + count) → time ≤ℤ get_or xs k d
    by_case (inl h) = behind k d h high
    by_case (inr h) = at (omega (arith, low)) (omega (arith, low, h)) (omega (arith, low))

pub earliest_at : (T : TimetableData) (line : List ℕ) (at : ℕ) (time : ℤ) (place : ℕ) → AllWithin (λ x. x <ℤ time) (departures_at T line at) 0 place →
    AllWithin (λ x. time ≤ℤ x) (departures_at T line at) place (length (departures_at T line at)) → earliest_trip T line at time ≡ slice_get line place
earliest_at T [] at time place g h = refl
earliest_at T (u ∷ us) at time zero g h = ap (λ b. cond b (Some u) (earliest_trip T us at time)) (le-int_le time (departure_at T u at) (h 0 time (omega arith) (omega arith)))
earliest_at T (u ∷ us) at time (suc place) g h =
    ap (λ b. cond b (Some u) (earliest_trip T us at time)) (too_early time (departure_at T u at) (g 0 time (omega arith) (omega arith)))
    ∙ earliest_at T us at time place (λ k d low high. g (suc k) d (omega arith) (omega arith)) (λ k d low high. h (suc k) d (omega arith) (omega arith))
  where
    too_early : (a b : ℤ) → b <ℤ a → int_le a b ≡ false
    too_early a b h = grind (arith, ints)

-- where the departures of a line begin
pub start_at : (T : TimetableData) (lines : List (List ℕ)) (starts : List ℕ) (l x : ℕ) → starts ≡ map (λ k. length (flat_map (line_departures T) (take k lines))) (range_with_len 0 (length lines)) → l < length lines
    → x ≡ get_or starts l x → x ≡ length (flat_map (line_departures T) (take l lines))
start_at T lines starts l x e h is = is ∙ ap (λ xs. get_or xs l x) e ∙ get_or-map-range_with_len (λ k. length (flat_map (line_departures T) (take k lines))) 0 (length lines) l l x h (zero_more l)

pub start_of_line : (T : TimetableData) (lines : List (List ℕ)) (starts : List ℕ) (l : ℕ) → starts ≡ map (λ k. length (flat_map (line_departures T) (take k lines))) (range_with_len 0 (length lines)) → l < length lines
    → get_or starts l 0 ≡ length (flat_map (line_departures T) (take l lines))
start_of_line T lines starts l e h = ap (λ xs. get_or xs l 0) e ∙ get_or-map-range_with_len (λ k. length (flat_map (line_departures T) (take k lines))) 0 (length lines) l l 0 h (zero_more l)

-- the run of a line at an index, where lines are laid out
pub run_in : (T : TimetableData) (L : LinesLayout) (l i x count : ℕ) → AreLaidOut T L → l < length L.lines → i < length (line_events T (get_or L.lines l [])) →
    x ≡ get_or L.starts l x → count ≡ length (get_or L.lines l []) → IsRun T L.lines l i x count L.departures
run_in T L l i x count are h k is n = run_of T L.lines l i x count L.departures h k (start_at T L.lines L.starts l x are.starts h is) n are.departures

-- along a line departures do not fall
pub run_ascends : (T : TimetableData) (lines : List (List ℕ)) (l i : ℕ) → AreDividedInto T lines → l < length lines → AllPairs (λ x y. x ≤ℤ y) (departures_at T (get_or lines l []) i)
run_ascends T lines l i divided h j k d before below =
    let line : List ℕ = get_or lines l [] in
    let inside : k < length line = omega (arith, below, length-map line (λ u. departure_at T u i)) in
    let pairs : AllPairs (MayFollow T) line = divided.ordered l [] h in
    let later = no_later T (get_or line j 0) (get_or line k 0) (inr (pairs j k 0 before inside)) in
    rw (get_or-map (λ u. departure_at T u i) line j 0 d (omega (arith, before, inside)), get_or-map (λ u. departure_at T u i) line k 0 d inside) (later.at i).dep

-- one index more
pub runs_more : {X : Type 0} (f : ℕ → List X) (n : ℕ) (old before new : List X) → before ≡ old ++ flat_map f (numbers_below n) → new ≡ before ++ f n → new ≡ old ++ flat_map f (numbers_below (n + 1))
runs_more f n old before new e h =
    h ∙ ap (λ xs. xs ++ f n) e ∙ flat_map_more f old (numbers_below n) n ∙ ap (λ ns. old ++ flat_map f ns) (sym (numbers_below-more n))

-- one line more
pub lines_more : {X : Type 0} (f : List ℕ → List X) (lines : List (List ℕ)) (n : ℕ) (before new : List X) → n < length lines → before ≡ flat_map f (take n lines) → new ≡ before ++ f (get_or lines n []) → new ≡ flat_map f (take (n + 1) lines)
lines_more f lines n before new h e k =
    k ∙ ap (λ xs. xs ++ f (get_or lines n [])) e ∙ flat_map_more f [] (take n lines) (get_or lines n []) ∙ ap (flat_map f) (sym (take_more lines n [] h))

pub starts_more : {X : Type 0} (f : List ℕ → List X) (lines : List (List ℕ)) (n x : ℕ) (old new : List ℕ) → old ≡ map (λ k. length (flat_map f (take k lines))) (range_with_len 0 n) → new ≡ old ++ x ∷ []
    → x ≡ length (flat_map f (take n lines)) → new ≡ map (λ k. length (flat_map f (take k lines))) (range_with_len 0 (n + 1))
starts_more f lines n x old new e h is =
    h ∙ (λ i. e i ++ is i ∷ []) ∙ sym (map-range_with_len_more (λ k. length (flat_map f (take k lines))) 0 n n (zero_more n))

-- what a search along the departures found is the line's first trip in time
pub found_at : (T : TimetableData) (line row : List ℕ) (at place : ℕ) (time asked : ℤ) (departures : List ℤ) → asked ≡ time → departures ≡ departures_at T line at → row ≡ line →
    AllWithin (λ x. x <ℤ asked) departures 0 place → AllWithin (λ x. asked ≤ℤ x) departures place (length departures) → earliest_trip T line at time ≡ slice_get row place
found_at T line row at place time asked departures t e r g h =
    earliest_at T line at time place
    (subst (λ ds. AllWithin (λ x. x <ℤ time) ds 0 place) e (subst (λ s. AllWithin (λ x. x <ℤ s) departures 0 place) t g))
    (subst (λ ds. AllWithin (λ x. time ≤ℤ x) ds place (length ds)) e (subst (λ s. AllWithin (λ x. s ≤ℤ x) departures place (length departures)) t h))
    ∙ ap (λ xs. slice_get xs place) (sym r)

-- ---- the departures that are earlier, counted

pub counts_one : (xs : List ℤ) (time : ℤ) (n i : ℕ) → AllPairs (λ x y. x ≤ℤ y) xs → n ≤ i → i < length xs → AllWithin (λ x. x <ℤ time) xs 0 n → AllWithin (λ x. time ≤ℤ x) xs n i →
    get_or xs i (pos 0) <ℤ time → (n + 1 ≤ i + 1) × AllWithin (λ x. x <ℤ time) xs 0 (n + 1) × AllWithin (λ x. time ≤ℤ x) xs (n + 1) (i + 1)
counts_one xs time n i up order inside earlier later is = (omega arith, below, λ k d low high. absurd (omega (arith, same, low, high)))
  where
    none : (a b c : ℤ) → a ≤ℤ b → b ≤ℤ c → c <ℤ a → ⊥
    none a b c f g h = omega (arith, ints, f, g, h)

    same : n ≡ i
    same = by_case (grind (arith, order))
      where
        by_case : (n < i) ⊎ (n ≡ i) → n ≡ i
        by_case (inl before) = absurd (none time (get_or xs n (pos 0)) (get_or xs i (pos 0)) (later n (pos 0) (omega arith) before) (up n i (pos 0) before inside) is)
        by_case (inr e) = e

    below : AllWithin (λ x. x <ℤ time) xs 0 (n + 1)
    below k d low high = by_case (grind (arith, high, same))
      where
        by_case : (k < n) ⊎ (k ≡ i) → get_or xs k d <ℤ time
        by_case (inl before) = earlier k d low before
        by_case (inr e) = subst (λ m. get_or xs m d <ℤ time) (sym e) (subst (λ x. x <ℤ time) (get_or_default xs i (pos 0) d inside) is)

pub counts_none : (xs : List ℤ) (time : ℤ) (n i : ℕ) → n ≤ i → AllWithin (λ x. time ≤ℤ x) xs n i → i < length xs → time ≤ℤ get_or xs i (pos 0) →
    (n ≤ i + 1) × AllWithin (λ x. time ≤ℤ x) xs n (i + 1)
counts_none xs time n i order later inside is = (omega arith, onward)
  where
    onward : AllWithin (λ x. time ≤ℤ x) xs n (i + 1)
    onward k d low high = by_case (grind (arith, high))
      where
        by_case : (k < i) ⊎ (k ≡ i) → time ≤ℤ get_or xs k d
        by_case (inl before) = later k d low before
        by_case (inr e) = subst (λ m. time ≤ℤ get_or xs m d) (sym e) (subst (λ x. time ≤ℤ x) (get_or_default xs i (pos 0) d inside) is)
