-- Lines of patterns that no changed trip has stay, and all other trips are placed anew.
use Rattle.std.proofs.Common.{◌≡◌, ◌≢◌, ◌∙◌, sym, ap, subst, refl, ℕ, ◌<◌, inl, inr, Bool, true, false, not, List, [], ◌∷◌, ◌++◌, length, get_or, fold, filter, map, arith}
use Rattle.std.specs.Prelude.{AllPairs, IsTrue}
use Rattle.std.specs.List.{concat}
use Rattle.std.specs.List.Sorted.{IsPermutation, IsSortedBy}
use Rattle.std.specs.Cmp.Lexicographic.{slice_cmp}
use Rattle.std.specs.Ordering.{int_cmp, is_lt, nat_cmp, ordering_then}
use Rattle.std.proofs.lemmas.Bool.{false≢true}
use Rattle.std.proofs.lemmas.List.Elements.{All-contains, All-nil}
use Rattle.std.proofs.lemmas.List.Kept.{AllPairs-filter}
use Rattle.std.proofs.lemmas.List.Sorted.{Contains-permutation, IsPermutation-sym, IsPermutation-trans, IsPermutation-filter_both}
use Rattle.tb_base.specs.declared.table.Event.{Event}
use Rattle.tb_base.specs.TimetableData.{TimetableData, events_of}
use Rattle.tb_base.specs.Lines.{AreDividedInto, AreLines, IsTripOrder, TripPrecedes, last_trip, may_follow, place_trip, times_of}
use Rattle.tb_base.proofs.LineFacts.{MayFollow, line_of}
use Rattle.tb_base.proofs.Members.{AllPairs-cons, Member-filter, Member-map, Member-filter_back, Member-left, Member-right}
use Rattle.tb_base.proofs.Ordered.{AllPairs-head, AllPairs-tail, Contains-from_Member, Member, Member-from_Contains, same_members}
use Rattle.line_split.specs.Marks.{MarksChanged, is_line_marked, is_marked}
use Rattle.line_split.specs.Orders.{line_precedes, trip_precedes}
use Rattle.line_split.specs.Patterns.{HasWholePatterns}
use Rattle.line_split.proofs.ApartLines.{filter_fold, first_trip, firsts_ordered, same_fold}
use Rattle.line_split.proofs.LineLaws.{earlier_differ, follows_last, lines_divide}
use Rattle.line_split.proofs.Once.{once-filter, once_from, strictly}
use Rattle.line_split.proofs.OrderLaws.{TripPrecedes-asymmetric}
use Rattle.line_split.proofs.OrderMade.{trip_order_is, trip_order_of}
use Rattle.line_split.proofs.PatternLemmas.{same_bucket}
use Rattle.line_split.proofs.TripOrders.{precedes-ranks, ranks_of}

-- ---- lists

member_concat : (t : ℕ) (line : List ℕ) (lines : List (List ℕ)) → Member line lines → Member t line → Member t (concat lines)
member_concat t line [] m k = absurd m
member_concat t line (l ∷ ls) (inl e) k = Member-left t l (concat ls) (subst (Member t) (sym e) k)
member_concat t line (l ∷ ls) (inr m) k = Member-right t l (concat ls) (member_concat t line ls m k)

pairs_among : {X : Type 0} (R S : X → X → Type 0) (xs : List X) → ((x y : X) → Member x xs → Member y xs → R x y → S x y) → AllPairs R xs → AllPairs S xs
pairs_among R S [] f all = λ i j d before inside. absurd (omega (arith, before, inside))
pairs_among R S (x ∷ xs) f all =
    AllPairs-cons S x xs (λ y m. f x y (inl refl) (inr m) (AllPairs-head R x xs all y (Contains-from_Member y xs m)))
    (pairs_among R S xs (λ u v m k. f u v (inr m) (inr k)) (AllPairs-tail R x xs all))

pairs_from_map : {X : Type 0} (R : ℕ → ℕ → Type 0) (f : X → ℕ) (xs : List X) → AllPairs R (map f xs) → AllPairs (λ x y. R (f x) (f y)) xs
pairs_from_map R f [] all = λ i j d before inside. absurd (omega (arith, before, inside))
pairs_from_map R f (x ∷ xs) all =
    AllPairs-cons (λ x y. R (f x) (f y)) x xs (λ y m. AllPairs-head R (f x) (map f xs) all (f y) (Contains-from_Member (f y) (map f xs) (Member-map f y xs m)))
    (pairs_from_map R f xs (AllPairs-tail R (f x) (map f xs) all))

-- ---- marks

-- trips, one of which may follow the other, have one mark
pub same_mark : (marks : List Bool) (es fs : List Event) → may_follow es fs ≡ true → is_marked marks es ≡ is_marked marks fs
same_mark marks es fs h = ap (λ b. get_or marks b false) (same_bucket (length marks) es fs h)

-- a line's trips have its mark
line_mark : (T : TimetableData) (marks : List Bool) (line : List ℕ) (t : ℕ) → AllPairs (MayFollow T) line → Member t line → is_marked marks (events_of T t) ≡ is_line_marked T marks line
line_mark T marks line t up m =
    elim (follows_last T line up t m) [
      | inl e ↦ ap (λ u. is_marked marks (events_of T u)) e
      | inr h ↦ same_mark marks (events_of T t) (events_of T (last_trip line)) h
    ]

-- the trips of the marked lines are the marked trips
module _ (T : TimetableData) (marks : List Bool) (lines : List (List ℕ)) (divided : AreDividedInto T lines) where
  line_ordered : (line : List ℕ) → Member line lines → AllPairs (MayFollow T) line
  line_ordered line m = All-contains (λ line. AllPairs (MayFollow T) line) lines line divided.ordered (Contains-from_Member line lines m)

  pub marked_trip : (t : ℕ) → Member t (concat (filter (is_line_marked T marks) lines)) → (t < length T.trips) × (is_marked marks (events_of T t) ≡ true)
  marked_trip t m =
      let own = line_of (filter (is_line_marked T marks) lines) t m in
      let back = Member-filter_back (is_line_marked T marks) own.0 lines own.1 in (
        All-contains (λ u. u < length T.trips) (concat lines) t divided.trips (Contains-from_Member t (concat lines) (member_concat t own.0 lines back.0 own.2)),
        line_mark T marks own.0 t (line_ordered own.0 back.0) own.2 ∙ back.1,
      )

  pub trip_marked : (t : ℕ) → t < length T.trips → is_marked marks (events_of T t) ≡ true → Member t (concat (filter (is_line_marked T marks) lines))
  trip_marked t h e =
      let own = line_of lines t (Member-from_Contains t (concat lines) (divided.complete t h)) in
      member_concat t own.0 (filter (is_line_marked T marks) lines)
      (Member-filter (is_line_marked T marks) own.0 lines own.1 (sym (line_mark T marks own.0 t (line_ordered own.0 own.1) own.2) ∙ e)) own.2

-- ---- two timetables

module _ (T U : TimetableData) (changed marks : List Bool) (long : length T.trips ≡ length U.trips) (same : (t : ℕ) → t < length U.trips → get_or changed t false ≡ false → events_of T t ≡ events_of U t) (are : MarksChanged T U changed marks) where
  pub one_mark : (t : ℕ) → t < length U.trips → is_marked marks (events_of T t) ≡ is_marked marks (events_of U t)
  one_mark t h = by_test (get_or changed t false) refl
    where
      by_test : (b : Bool) → b ≡ get_or changed t false → is_marked marks (events_of T t) ≡ is_marked marks (events_of U t)
      by_test true e = are.before t h (sym e) ∙ sym (are.after t h (sym e))
      by_test false e = ap (is_marked marks) (same t h (sym e))

  unmarked_same : (t : ℕ) → t < length U.trips → not (is_marked marks (events_of T t)) ≡ true → events_of T t ≡ events_of U t
  unmarked_same t h clear = by_test (get_or changed t false) refl
    where
      by_test : (b : Bool) → b ≡ get_or changed t false → events_of T t ≡ events_of U t
      by_test true e = absurd (false≢true (sym (ap not (are.before t h (sym e))) ∙ clear))
      by_test false e = same t h (sym e)

  module _ (old : List (List ℕ)) (lines_are : AreLines T old) (sorted : List ℕ) (shuffled : IsPermutation (concat (filter (is_line_marked T marks) old)) sorted) where
    divided : AreDividedInto T old
    divided = lines_divide T old lines_are

    -- what is sorted are the marked trips
    pub sorted_trip : (t : ℕ) → Member t sorted → (t < length U.trips) × (is_marked marks (events_of U t) ≡ true)
    sorted_trip t m =
        let here = Member-from_Contains t _ (Contains-permutation sorted (concat (filter (is_line_marked T marks) old)) t (IsPermutation-sym _ _ shuffled) (Contains-from_Member t sorted m)) in
        let told = marked_trip T marks old divided t here in
        let inside : t < length U.trips = omega (arith, told.0, long) in
        (inside, sym (one_mark t inside) ∙ told.1)

    pub trip_sorted : (t : ℕ) → t < length U.trips → is_marked marks (events_of U t) ≡ true → Member t sorted
    trip_sorted t h e =
        let inside : t < length T.trips = omega (arith, h, long) in
        Member-from_Contains t sorted (Contains-permutation (concat (filter (is_line_marked T marks) old)) sorted t shuffled
        (Contains-from_Member t _ (trip_marked T marks old divided t inside (one_mark t h ∙ e))))

    pub whole_patterns : HasWholePatterns U sorted
    whole_patterns t u h k follows =
        let mark = same_mark marks (events_of U t) (events_of U u) follows in (
          (λ c. Contains-from_Member u sorted (trip_sorted u k (sym mark ∙ (sorted_trip t (Member-from_Contains t sorted c)).1))),
          (λ c. Contains-from_Member t sorted (trip_sorted t h (mark ∙ (sorted_trip u (Member-from_Contains u sorted c)).1))),
        )

    abbrev order : List ℕ
    order = trip_order_of U

    abbrev marked : ℕ → Bool
    marked t = is_marked marks (events_of U t)

    abbrev clear : ℕ → Bool
    clear t = not (is_marked marks (events_of U t))

    abbrev clear_before : ℕ → Bool
    clear_before t = not (is_marked marks (events_of T t))

    order_is : IsTripOrder U order
    order_is = trip_order_is U

    in_order : (t : ℕ) → Member t order → t < length U.trips
    in_order t m = All-contains (λ t. t < length U.trips) order t order_is.trips (Contains-from_Member t order m)

    in_old : (t : ℕ) → Member t lines_are.order → t < length U.trips
    in_old t m = omega (arith, long, All-contains (λ t. t < length T.trips) lines_are.order t lines_are.in_order.trips (Contains-from_Member t lines_are.order m))

    -- a clear trip in the old order has the same events
    same_clear : (t : ℕ) → Member t (filter clear_before lines_are.order) → events_of T t ≡ events_of U t
    same_clear t m =
        let back = Member-filter_back clear_before t lines_are.order m in
        unmarked_same t (in_old t back.0) back.1

    -- the clear trips have one order
    clear_order : filter clear_before lines_are.order ≡ filter clear order
    clear_order =
        same_members (TripPrecedes U) (TripPrecedes-asymmetric U) (filter clear_before lines_are.order) (filter clear order)
        (pairs_among (TripPrecedes T) (TripPrecedes U) (filter clear_before lines_are.order) (λ t u m k h. passed t u (same_clear t m) (same_clear u k) h) (AllPairs-filter (TripPrecedes T) clear_before lines_are.order lines_are.in_order.ordered))
        (AllPairs-filter (TripPrecedes U) clear order order_is.ordered)
        (λ t m.
        let back = Member-filter_back clear_before t lines_are.order m in
        let inside = in_old t back.0 in
        Member-filter clear t order (Member-from_Contains t order (order_is.complete t inside)) (ap not (sym (one_mark t inside)) ∙ back.1))
        (λ t m.
        let back = Member-filter_back clear t order m in
        let inside = in_order t back.0 in
        let there : t < length T.trips = omega (arith, inside, long) in
        Member-filter clear_before t lines_are.order (Member-from_Contains t lines_are.order (lines_are.in_order.complete t there)) (ap not (one_mark t inside) ∙ back.1))
      where
        passed : (t u : ℕ) → events_of T t ≡ events_of U t → events_of T u ≡ events_of U u → TripPrecedes T t u → TripPrecedes U t u
        passed t u e f h =
            subst (λ es. IsTrue (is_lt (ordering_then (slice_cmp int_cmp (times_of es) (times_of (events_of U u))) (nat_cmp t u)))) e
            (subst (λ fs. IsTrue (is_lt (ordering_then (slice_cmp int_cmp (times_of (events_of T t)) (times_of fs)) (nat_cmp t u)))) f h)

    abbrev made : List (List ℕ)
    made = fold (place_trip U) [] order

    -- the kept lines are the clear ones
    kept_lines : filter (λ line. not (is_line_marked T marks line)) old ≡ filter (λ line. not (is_line_marked U marks line)) made
    kept_lines =
        ap (filter (λ line. not (is_line_marked T marks line))) lines_are.placed
        ∙ filter_fold T clear_before (λ t u h. ap not (same_mark marks (events_of T t) (events_of T u) h)) lines_are.order []
        ∙ same_fold T U (filter clear_before lines_are.order) [] (All-nil _) same_clear
        ∙ ap (fold (place_trip U) []) clear_order
        ∙ sym (filter_fold U clear (λ t u h. ap not (same_mark marks (events_of U t) (events_of U u) h)) order [])

    module _ (up : IsSortedBy (trip_precedes U) sorted) where
      sorted_is : sorted ≡ filter marked order
      sorted_is =
          same_members (TripPrecedes U) (TripPrecedes-asymmetric U) sorted (filter marked order)
          (strictly (λ t. t) U (precedes-ranks U) (concat (filter (is_line_marked T marks) old)) sorted (once-filter (is_line_marked T marks) old (once_from (λ t. t) (concat old) divided.once)) shuffled up)
          (AllPairs-filter (TripPrecedes U) marked order order_is.ordered)
          (λ t m. let told = sorted_trip t m in Member-filter marked t order (Member-from_Contains t order (order_is.complete t told.0)) told.1)
          (λ t m. let back = Member-filter_back marked t order m in trip_sorted t (in_order t back.0) back.1)

      placed_lines : fold (place_trip U) [] sorted ≡ filter (is_line_marked U marks) made
      placed_lines =
          ap (fold (place_trip U) []) sorted_is
          ∙ sym (filter_fold U marked (λ t u h. same_mark marks (events_of U t) (events_of U u) h) order [])

      abbrev FirstPrecedes : List ℕ → List ℕ → Type 0
      FirstPrecedes k l = TripPrecedes U (first_trip k) (first_trip l)

      -- all lines, by their first trips
      pub split_again_lines : (lines : List (List ℕ)) → IsPermutation (filter (λ line. not (is_line_marked T marks line)) old ++ fold (place_trip U) [] sorted) lines → IsSortedBy (line_precedes U) lines → AreLines U lines
      split_again_lines lines merged rises = record {
        order = order;
        in_order = order_is;
        placed = same_members FirstPrecedes (λ k l. TripPrecedes-asymmetric U (first_trip k) (first_trip l)) lines made
            (strictly first_trip U (ranks_of U first_trip) made lines (once_from first_trip made (pairs_among FirstPrecedes (λ k l. first_trip k ≢ first_trip l) made (λ k l m n h. earlier_differ U (first_trip k) (first_trip l) h) made_ordered)) all rises)
            made_ordered
            (λ line m. Member-from_Contains line made (Contains-permutation lines made line (IsPermutation-sym _ _ all) (Contains-from_Member line lines m)))
            (λ line m. Member-from_Contains line lines (Contains-permutation made lines line all (Contains-from_Member line made m)));
      }
        where
          all : IsPermutation made lines
          all =
              IsPermutation-trans made _ lines
              (IsPermutation-filter_both (λ line. not (is_line_marked U marks line)) (is_line_marked U marks) (λ line. twice (is_line_marked U marks line)) made)
              (subst (λ ls. IsPermutation ls lines) (λ i. kept_lines i ++ placed_lines i) merged)
            where
              twice : (b : Bool) → b ≡ not (not b)
              twice true = refl
              twice false = refl

          made_ordered : AllPairs FirstPrecedes made
          made_ordered =
              pairs_from_map (TripPrecedes U) first_trip made
              (firsts_ordered U (TripPrecedes U) order [] (All-nil _) order_is.ordered (λ i j d before inside. absurd (omega (arith, before, inside))) (λ x y m k. absurd m))
