-- What a view finds in lines is what a scan shows.
use Rattle.std.proofs.Common.{◌≡◌, ◌≢◌, ◌∙◌, ℕ, ℤ, zero, suc, ◌<◌, ◌≤◌, inl, inr, ◌==◌, List, [], ◌∷◌, ◌++◌, Bool, true, false, cond, length, map, take, drop, get_or, refl, sym, ap, subst, arith, Option, Some, None, length-append, add-one}
use Rattle.std.specs.Prelude.{All, MatchOption, filter, flat_map, fold, slice_get, sum_by}
use Rattle.std.specs.List.{concat}
use Rattle.std.specs.Option.{option_map}
use Rattle.std.proofs.lemmas.Grind.{flat_map-append}
use Rattle.std.proofs.lemmas.List.{get_or-map, get_or_default, length-map, length_push, take_all, take_more}
use Rattle.std.proofs.lemmas.Option.{slice_get_read, slice_get_within}
use Rattle.std.proofs.lemmas.Simd.{map-map}
use Rattle.std.proofs.lemmas.List.Elements.{All-cons, All-head, All-nil, All-tail}
use Rattle.std.proofs.lemmas.List.Sums.{sum_by-append, sum_by-cons}
use Rattle.tb_base.specs.TimetableData.{TimetableData, event_total, events_of, stop_at}
use Rattle.tb_base.specs.Lines.{AreDividedInto, AreLines, may_join, place_trip}
use Rattle.tb_base.specs.Transfers.{earliest_trip, line_from, may_be_boarded, numbers_below}
use Rattle.tb_base.proofs.Ordered.{Member, AllPairs-tail, Contains-from_Member}
use Rattle.tb_base.proofs.Members.{Member-concat_at, Member-filter_back, Member-flat_map_back, Member-from_slice_get, Member-map_back, Member-numbers_below, Member-numbers_below_back}
use Rattle.line_split.specs.declared.lines.Berth.{Berth}
use Rattle.line_split.specs.LinesOf.{IsBefore, before_in, berths_at, calls_at, line_events}
use Rattle.line_split.proofs.RunLemmas.{stands_inside}
use Rattle.segment_queue.specs.Scans.{IsFirst, LineIndex, StandsBefore, boarding_hop, first_trip, indices_at, line_indices_at, no_line_index, trips_from}
use Rattle.segment_queue.proofs.Distinct.{AreDistinct, before_member, has_member, in_one_part, member_or_not, of_member, pairs_left, pairs_right, same_or_other}
use Rattle.segment_queue.proofs.LineParts.{line_from-other, line_from-same, member_lines, trips_from-here, trips_from-past}
use Rattle.segment_queue.proofs.Totals.{distinct_sum, all_events}
use Rattle.tb_base.proofs.Lists.{map-flat_map, length-numbers_below}

abbrev IsNonempty : List ℕ → Type 0
IsNonempty line = 0 < length line

place_nonempty : (T : TimetableData) (lines : List (List ℕ)) (t : ℕ) → All IsNonempty lines → All IsNonempty (place_trip T lines t)
place_nonempty T [] t all = All-cons IsNonempty (t ∷ []) [] (omega arith) (All-nil IsNonempty)
place_nonempty T (line ∷ ls) t all =
    elim (may_join T line t) as (λ b. All IsNonempty (cond b ((line ++ t ∷ []) ∷ ls) (line ∷ place_trip T ls t))) [
      | true ↦ All-cons IsNonempty (line ++ t ∷ []) ls (omega (arith, length_push line t)) (All-tail IsNonempty line ls all)
      | false ↦ All-cons IsNonempty line (place_trip T ls t) (All-head IsNonempty line ls all) (place_nonempty T ls t (All-tail IsNonempty line ls all))
    ]

fold_nonempty : (T : TimetableData) (lines : List (List ℕ)) (order : List ℕ) → All IsNonempty lines → All IsNonempty (fold (place_trip T) lines order)
fold_nonempty T lines [] all = all
fold_nonempty T lines (t ∷ ts) all = fold_nonempty T (place_trip T lines t) ts (place_nonempty T lines t all)

-- a line has a trip
pub nonempty : (T : TimetableData) (lines : List (List ℕ)) → AreLines T lines → All IsNonempty lines
nonempty T lines are = subst (All IsNonempty) (sym are.placed) (fold_nonempty T [] are.order (All-nil IsNonempty))

-- the line index at a berth
abbrev pub index_of : List (List ℕ) → Berth → LineIndex
index_of lines b = record { line = get_or lines b.line []; at = b.at }

by_numbers : {X : Type 0} (h : List ℕ → List X) (lines : List (List ℕ)) (n : ℕ) → n ≤ length lines → flat_map (λ l. h (get_or lines l [])) (numbers_below n) ≡ flat_map h (take n lines)
by_numbers h lines zero b = refl
by_numbers h lines (suc n) b =
    flat_map-append (λ l. h (get_or lines l [])) (numbers_below n) (n ∷ [])
    ∙ ap (λ xs. xs ++ (h (get_or lines n []) ++ [])) (by_numbers h lines n (omega (arith, b)))
    ∙ sym (flat_map-append h (take n lines) (get_or lines n [] ∷ []))
    ∙ ap (flat_map h) (sym (take_more lines n [] (omega (arith, b))) ∙ ap (λ k. take k lines) (add-one n))

pub berths_are : (T : TimetableData) (lines : List (List ℕ)) (p : ℕ) → map (index_of lines) (berths_at T lines p) ≡ line_indices_at T lines p
berths_are T lines p =
    map-flat_map (index_of lines) (λ l. map (λ j. record { line = l; at = j }) (calls_at T (get_or lines l []) p)) (numbers_below (length lines))
    ∙ same (numbers_below (length lines))
    ∙ by_numbers (indices_at T p) lines (length lines) (omega arith)
    ∙ ap (flat_map (indices_at T p)) (take_all (length lines) lines (omega arith))
  where
    same : (ls : List ℕ) → flat_map (λ l. map (index_of lines) (map (λ j. record { line = l; at = j }) (calls_at T (get_or lines l []) p))) ls ≡ flat_map (λ l. indices_at T p (get_or lines l [])) ls
    same [] = refl
    same (l ∷ ls) =
        ap (λ xs. xs ++ flat_map (λ l. map (index_of lines) (map (λ j. record { line = l; at = j }) (calls_at T (get_or lines l []) p))) ls) (map-map (index_of lines) (λ j. record { line = l; at = j }) (calls_at T (get_or lines l []) p))
        ∙ ap (λ ys. indices_at T p (get_or lines l []) ++ ys) (same ls)

pub member_at : {X : Type 0} (xs : List X) (k : ℕ) (d : X) → k < length xs → Member (get_or xs k d) xs
member_at [] k d h = absurd (omega (arith, h))
member_at (x ∷ xs) zero d h = inl refl
member_at (x ∷ xs) (suc k) d h = inr (member_at xs k d (omega (arith, h)))

-- a berth is an index of a line
berth_inside : (T : TimetableData) (lines : List (List ℕ)) (p : ℕ) (b : Berth) → Member b (berths_at T lines p) → (b.line < length lines) × (b.at < length (line_events T (get_or lines b.line [])))
berth_inside T lines p b h =
    let r : (l : ℕ) × Member l (numbers_below (length lines)) × Member b (map (λ j. record { line = l; at = j }) (calls_at T (get_or lines l []) p))
    = Member-flat_map_back (λ l. map (λ j. record { line = l; at = j }) (calls_at T (get_or lines l []) p)) b (numbers_below (length lines)) h in
    let m : (j : ℕ) × Member j (calls_at T (get_or lines r.0 []) p) × (record { line = r.0; at = j } ≡ b) = Member-map_back (λ j. record { line = r.0; at = j }) b (calls_at T (get_or lines r.0 []) p) r.2 in
    let f = Member-filter_back (λ j. stop_at T (first_trip (get_or lines r.0 [])) j == p) m.0 (numbers_below (length (line_events T (get_or lines r.0 [])))) m.1 in
    subst (λ (x : Berth). (x.line < length lines) × (x.at < length (line_events T (get_or lines x.line [])))) m.2 (Member-numbers_below_back r.0 (length lines) r.1, Member-numbers_below_back m.0 (length (line_events T (get_or lines r.0 []))) f.0)

filter_le : (test : ℕ → Bool) (xs : List ℕ) → length (filter test xs) ≤ length xs
filter_le test [] = omega arith
filter_le test (x ∷ xs) = elim (test x) as (λ b. length (cond b (x ∷ filter test xs) (filter test xs)) ≤ suc (length xs)) [ true ↦ omega (arith, filter_le test xs) | false ↦ omega (arith, filter_le test xs) ]

abbrev event_count : TimetableData → ℕ → ℕ
event_count T t = length (events_of T t)

first_le : (T : TimetableData) (line : List ℕ) → 0 < length line → event_count T (first_trip line) ≤ sum_by (event_count T) line
first_le T [] h = absurd (omega (arith, h))
first_le T (x ∷ xs) h = omega (arith, sum_by-cons (event_count T) x xs)

indices_le : (T : TimetableData) (lines : List (List ℕ)) (p : ℕ) → All IsNonempty lines → length (line_indices_at T lines p) ≤ sum_by (event_count T) (concat lines)
indices_le T [] p all = omega arith
indices_le T (line ∷ lines) p all =
    let calls : List ℕ = filter (λ j. stop_at T (first_trip line) j == p) (numbers_below (event_count T (first_trip line))) in
    omega (
      arith,
      length-append (indices_at T p line) (line_indices_at T lines p),
      lengths calls,
      filter_le (λ j. stop_at T (first_trip line) j == p) (numbers_below (event_count T (first_trip line))),
      length-numbers_below (event_count T (first_trip line)),
      first_le T line (All-head IsNonempty line lines all),
      indices_le T lines p (All-tail IsNonempty line lines all),
      sum_by-append (event_count T) line (concat lines),
    )
  where
    lengths : (js : List ℕ) → length {A = LineIndex} (map (λ j. record { line = line; at = j }) js) ≡ length js
    lengths js = length-map js (λ j. record { line = line; at = j })

-- there are at most as many line indices at a stop as events
pub indices_le_events : (T : TimetableData) (lines : List (List ℕ)) (p : ℕ) → AreLines T lines → AreDividedInto T lines → length (line_indices_at T lines p) ≤ event_total T
indices_le_events T lines p are divided =
    omega (
      arith,
      indices_le T lines p (nonempty T lines are),
      distinct_sum (event_count T) (concat lines) (numbers_below (length T.trips)) divided.once (λ t h. Member-numbers_below t (length T.trips) (of_member (λ u. u < length T.trips) (concat lines) t divided.trips h)),
      all_events T,
    )

line_from-drop : (t : ℕ) (line : List ℕ) (k : ℕ) → AreDistinct line → slice_get line k ≡ Some t → line_from t line ≡ drop k line
line_from-drop t [] k distinct is = cc
line_from-drop t (x ∷ xs) zero distinct is = line_from-same t x xs (let e : x ≡ t = cc in elim (same_or_other x t) [ inl f ↦ f.1 | inr f ↦ absurd (f.0 e) ])
line_from-drop t (x ∷ xs) (suc k) distinct is =
    elim (same_or_other x t) [
      | inl e ↦ absurd (before_member (λ t u. t ≢ u) x xs t distinct (Member-from_slice_get xs k t is) e.0)
      | inr e ↦ line_from-other t x xs e.1 ∙ line_from-drop t xs k (AllPairs-tail (λ t u. t ≢ u) x xs distinct) is
    ]

-- the trips from one on are the rest of its line
pub trips_from-drop : (lines : List (List ℕ)) (t l k : ℕ) → AreDistinct (concat lines) → slice_get (get_or lines l []) k ≡ Some t → trips_from lines t ≡ drop k (get_or lines l [])
trips_from-drop [] t l k distinct is = cc
trips_from-drop (line ∷ lines) t zero k distinct is =
    trips_from-here line lines t (has_member t line (Member-from_slice_get line k t is)) ∙ line_from-drop t line k (pairs_left (λ t u. t ≢ u) line (concat lines) distinct) is
trips_from-drop (line ∷ lines) t (suc l) k distinct is =
    elim (member_or_not t line) [
      | inl e ↦ absurd (in_one_part t line (concat lines) distinct e.0 (Member-concat_at lines l k t is))
      | inr e ↦ trips_from-past line lines t e.1 ∙ trips_from-drop lines t l k (pairs_right (λ t u. t ≢ u) line (concat lines) distinct) is
    ]

-- who stands at place 0 is the first of the line
pub is_first : (lines : List (List ℕ)) (t l k : ℕ) → AreDistinct (concat lines) → slice_get (get_or lines l []) k ≡ Some t → k ≡ 0 → IsFirst lines t
is_first lines t l k distinct is first =
    Contains-from_Member (trips_from lines t) lines
    (subst (λ row. Member row lines) (sym (trips_from-drop lines t l k distinct is ∙ ap (λ n. drop n (get_or lines l [])) first)) (member_at lines l [] (stands_inside lines l k t is)))

drop_step : (xs : List ℕ) (k v : ℕ) → slice_get xs k ≡ Some v → drop k xs ≡ v ∷ drop (suc k) xs
drop_step [] k v is = cc
drop_step (x ∷ xs) zero v is = cc
drop_step (x ∷ xs) (suc k) v is = drop_step xs k v is

-- who stands at the place before stands before
pub stands_before : (lines : List (List ℕ)) (v t l k : ℕ) → AreDistinct (concat lines) → slice_get (get_or lines l []) (suc k) ≡ Some t → slice_get (get_or lines l []) k ≡ Some v → StandsBefore lines v t
stands_before lines v t l k distinct is before = trips_from-drop lines v l k distinct before ∙ drop_step (get_or lines l []) k v before ∙ ap (λ ys. v ∷ ys) (sym (trips_from-drop lines t l (suc k) distinct is))

-- the trip just before one on its line
pub found_before : (lines : List (List ℕ)) (t n : ℕ) (o : Option ℕ) → AreDistinct (concat lines) → All (λ u. u < n) (concat lines) → IsBefore lines t o → MatchOption o (IsFirst lines t) (λ v. (v < n) × StandsBefore lines v t)
found_before lines t n o distinct all h = by_place h.place.1 o h.stands h.is
  where
    row : List ℕ
    row = get_or lines h.place.0 []

    by_place : (k : ℕ) (o : Option ℕ) → slice_get row k ≡ Some t → o ≡ before_in row k → MatchOption o (IsFirst lines t) (λ v. (v < n) × StandsBefore lines v t)
    by_place zero None stands e = is_first lines t h.place.0 zero distinct stands refl
    by_place zero (Some v) stands e = cc
    by_place (suc k) None stands e =
        let inside : k < length row = omega (arith, slice_get_within row (suc k) t stands) in
        let there : slice_get row k ≡ Some (get_or row k 0) = slice_get_read row (length row) k (get_or row k 0) refl inside (get_or_default row k 0 (get_or row k 0) inside) in cc
    by_place (suc k) (Some v) stands e = (of_member (λ u. u < n) (concat lines) v all (Member-concat_at lines h.place.0 k v (sym e)), stands_before lines v t h.place.0 k distinct stands (sym e))

-- the trips from one on are of the lines
pub trips_from-inside : (lines : List (List ℕ)) (t n : ℕ) → All (λ u. u < n) (concat lines) → All (λ u. u < n) (trips_from lines t)
trips_from-inside lines t n all k d h = of_member (λ u. u < n) (concat lines) (get_or (trips_from lines t) k d) all (member_lines (get_or (trips_from lines t) k d) t lines (member_at (trips_from lines t) k d h))

pub berths_count : (T : TimetableData) (lines : List (List ℕ)) (p : ℕ) → length (berths_at T lines p) ≡ length (line_indices_at T lines p)
berths_count T lines p = sym (length-map (berths_at T lines p) (index_of lines)) ∙ ap length (berths_are T lines p)

pub berth_below : (T : TimetableData) (lines : List (List ℕ)) (p k : ℕ) (list : List Berth) → list ≡ berths_at T lines p → k < length (line_indices_at T lines p) → k < length list
berth_below T lines p k list same h = omega (arith, h, berths_count T lines p, ap length same)

-- the berth with a number is the line index with that number
at_berth : (T : TimetableData) (lines : List (List ℕ)) (p k : ℕ) (list : List Berth) (b : Berth) → list ≡ berths_at T lines p → k < length (line_indices_at T lines p) → b ≡ get_or list k b
    → Member b (berths_at T lines p) × (get_or (line_indices_at T lines p) k no_line_index ≡ index_of lines b)
at_berth T lines p k list b same h is =
    let found : b ≡ get_or (berths_at T lines p) k b = subst (λ (l : List Berth). b ≡ get_or l k b) same is in
    let inside : k < length (berths_at T lines p) = omega (arith, h, berths_count T lines p) in (
      subst (λ (x : Berth). Member x (berths_at T lines p)) (sym found) (member_at (berths_at T lines p) k b inside),
      ap (λ l. get_or l k no_line_index) (sym (berths_are T lines p)) ∙ get_or-map (index_of lines) (berths_at T lines p) k b no_line_index inside ∙ ap (index_of lines) (sym found),
    )

-- what is known of the berth with a number at a stop
pub record BerthFacts (T : TimetableData) (lines : List (List ℕ)) (p n : ℕ) (b : Berth) : Type 0 where
  pub read : get_or (line_indices_at T lines p) n no_line_index ≡ index_of lines b
  pub line : b.line < length lines
  pub at : b.at < length (line_events T (get_or lines b.line []))

pub berth_facts : (T : TimetableData) (lines : List (List ℕ)) (p n : ℕ) (list : List Berth) (b : Berth) → list ≡ berths_at T lines p → n < length (line_indices_at T lines p) → b ≡ get_or list n b
    → BerthFacts T lines p n b
berth_facts T lines p n list b same below is =
    let at = at_berth T lines p n list b same below is in
    let fits = berth_inside T lines p b at.0 in record {
      read = at.1;
      line = fits.0;
      at = fits.1;
    }

-- nobody boards where boarding isn't allowed
pub no_hop : (T : TimetableData) (k : LineIndex) (b : LineIndex) (time : ℤ) → k ≡ b → may_be_boarded T (first_trip b.line) b.at ≡ false → None ≡ boarding_hop T k time
no_hop T k b time same barred = sym (ap (λ (x : LineIndex). boarding_hop T x time) same ∙ ap (λ y. cond y (option_map (λ u. record { trip = u; at = b.at }) (earliest_trip T b.line b.at time)) None) barred)

pub hop_is : (T : TimetableData) (k : LineIndex) (b : LineIndex) (time : ℤ) (o : Option ℕ) → k ≡ b → may_be_boarded T (first_trip b.line) b.at ≡ true → o ≡ earliest_trip T b.line b.at time
    → option_map (λ u. record { trip = u; at = b.at }) o ≡ boarding_hop T k time
hop_is T k b time o same allowed found =
    ap (option_map (λ u. record { trip = u; at = b.at })) found
    ∙ sym (ap (λ (x : LineIndex). boarding_hop T x time) same ∙ ap (λ y. cond y (option_map (λ u. record { trip = u; at = b.at }) (earliest_trip T b.line b.at time)) None) allowed)
