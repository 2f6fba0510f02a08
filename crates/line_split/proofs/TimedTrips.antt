-- A sort by the times of the first events, then by all times and the numbers, is the order of trips.
use Rattle.std.proofs.Common.{◌≡◌, ◌∙◌, sym, ap, refl, subst, ℕ, ◌+◌, ◌<◌, Bool, List, [], ◌∷◌, length, map, get_or, arith, pos}
use Rattle.std.specs.Prelude.{All}
use Rattle.std.specs.List.{range_with_len}
use Rattle.std.specs.List.Sorted.{IsPermutation, IsSortedBy}
use Rattle.std.specs.Ordering.{nat_cmp, int_cmp, is_lt, ordering_then}
use Rattle.std.specs.declared.cmp.Ordering.{Ordering}
use Rattle.std.specs.declared.cmp.Ordering.TheVariants.{Less, Equal, Greater}
use Rattle.std.specs.Cmp.{IsStrictWeakOrder, nat_cmp_total, int_cmp_total, on_total, then_total}
use Rattle.std.specs.Cmp.Lexicographic.{slice_cmp, lists_total}
use Rattle.std.proofs.lemmas.List.{get_or-map, length-map}
use Rattle.std.proofs.lemmas.List.Sorted.{ranks_by, All-permutation, IsPermutation-map}
use Rattle.tb_base.specs.declared.table.Event.{Event}
use Rattle.tb_base.specs.Soundness.{IsSound}
use Rattle.tb_base.specs.TimetableData.{TimetableData, events_of, no_event, no_trip}
use Rattle.tb_base.specs.Lines.{times_of, compare_trips, IsTripOrder}
use Rattle.line_split.specs.Orders.{IsTimed, compare_timed}
use Rattle.line_split.specs.declared.order.Timed.{Timed}
use Rattle.line_split.proofs.TripOrders.{precedes, sorted_is_order}

abbrev pub precedes_timed : TimetableData → Timed → Timed → Bool
precedes_timed T a b = is_lt (compare_timed T a b)

pub precedes_timed-ranks : (T : TimetableData) → IsStrictWeakOrder (precedes_timed T)
precedes_timed-ranks T =
    ranks_by
    (then_total (then_total (on_total (λ (a : Timed). a.arr) int_cmp_total) (on_total (λ (a : Timed). a.dep) int_cmp_total))
    (on_total (λ (a : Timed). a.trip) (then_total (on_total (λ t. times_of (events_of T t)) (lists_total int_cmp_total)) nat_cmp_total)))
    (λ a. a)

-- a trip has a first event
pub has_event : (T : TimetableData) (t : ℕ) → IsSound T → t < length T.trips → 0 < length (events_of T t)
has_event T t sound inside = omega (arith, (sound.trip t no_trip inside).long)

-- what the first times settle, all times settle
settled : (A D R N : Ordering) → ordering_then (ordering_then A D) (ordering_then (ordering_then A (ordering_then D R)) N) ≡ ordering_then (ordering_then A (ordering_then D R)) N
settled Less D R N = refl
settled Greater D R N = refl
settled Equal Less R N = refl
settled Equal Greater R N = refl
settled Equal Equal R N = refl

same_compare : (es fs : List Event) (N : Ordering) → 0 < length es → 0 < length fs
    → ordering_then (ordering_then (int_cmp (get_or es 0 no_event).arr (get_or fs 0 no_event).arr) (int_cmp (get_or es 0 no_event).dep (get_or fs 0 no_event).dep)) (ordering_then (slice_cmp int_cmp (times_of es) (times_of fs)) N)
    ≡ ordering_then (slice_cmp int_cmp (times_of es) (times_of fs)) N
same_compare [] fs N h k = absurd (omega (arith, h))
same_compare (e ∷ es) [] N h k = absurd (omega (arith, k))
same_compare (e ∷ es) (f ∷ fs) N h k = settled (int_cmp e.arr f.arr) (int_cmp e.dep f.dep) (slice_cmp int_cmp (times_of es) (times_of fs)) N

same_precedes : (T : TimetableData) (a b : Timed) → IsSound T → IsTimed T a → IsTimed T b → precedes_timed T a b ≡ precedes T a.trip b.trip
same_precedes T a b sound x y =
    ap is_lt
    ((λ i. ordering_then (ordering_then (int_cmp (x.arr i) (y.arr i)) (int_cmp (x.dep i) (y.dep i))) (compare_trips T a.trip b.trip))
    ∙ same_compare (events_of T a.trip) (events_of T b.trip) (nat_cmp a.trip b.trip) (has_event T a.trip sound x.trip) (has_event T b.trip sound y.trip))

abbrev no_timed : Timed
no_timed = record { arr = pos 0; dep = pos 0; trip = 0 }

abbrev pub trip_of : Timed → ℕ
trip_of a = a.trip

pub timed_is_order : (T : TimetableData) (timed sorted : List Timed) → IsSound T → map trip_of timed ≡ range_with_len 0 (length T.trips) → All (IsTimed T) timed → IsPermutation timed sorted → IsSortedBy (precedes_timed T) sorted → IsTripOrder T (map trip_of sorted)
timed_is_order T timed sorted sound named are shuffled up =
    sorted_is_order T (map trip_of sorted) (subst (λ ts. IsPermutation ts (map trip_of sorted)) named (IsPermutation-map trip_of timed sorted shuffled)) rises
  where
    all : All (IsTimed T) sorted
    all = All-permutation (IsTimed T) timed sorted shuffled are

    rises : IsSortedBy (precedes T) (map trip_of sorted)
    rises k d low below =
        let next : k + 1 < length sorted = omega (arith, below, length-map sorted trip_of) in
        let here : k < length sorted = omega (arith, next) in
        (λ i. precedes T (get_or-map trip_of sorted (k + 1) no_timed d next i) (get_or-map trip_of sorted k no_timed d here i))
        ∙ sym (same_precedes T (get_or sorted (k + 1) no_timed) (get_or sorted k no_timed) sound (all (k + 1) no_timed next) (all k no_timed here))
        ∙ up k no_timed low next
