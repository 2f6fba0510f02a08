-- The order of the trips is one list, and so are the lines.
use Rattle.std.proofs.Common.{◌≡◌, ℕ, ◌<◌, List, length, refl, sym, ◌∙◌, ap, subst, fold, [], ◌⊎◌, inl, inr}
use Rattle.std.specs.FinMap.{nat_cmp-IsAntisymmetric}
use Rattle.std.specs.Prelude.{IsTrue}
use Rattle.std.specs.Ordering.{nat_cmp, int_cmp, is_lt, ordering_then, ordering_reverse}
use Rattle.std.specs.declared.cmp.Ordering.{Ordering}
use Rattle.std.specs.declared.cmp.Ordering.TheVariants.{Less, Equal, Greater}
use Rattle.std.specs.Cmp.Lexicographic.{slice_cmp, lists_total}
use Rattle.std.specs.Cmp.{nat_cmp_total, int_cmp_total}
use Rattle.std.proofs.lemmas.List.Elements.{All-contains}
use Rattle.tb_base.specs.TimetableData.{TimetableData, events_of}
use Rattle.tb_base.specs.Lines.{times_of, TripPrecedes, IsTripOrder, AreLines, place_trip}
use Rattle.tb_base.proofs.Ordered.{Member-from_Contains, Contains-from_Member, same_members}

clash : (r s : Ordering) → IsTrue (is_lt (ordering_then r s)) → IsTrue (is_lt (ordering_then (ordering_reverse r) (ordering_reverse s))) → ⊥
clash Less s h k = cc
clash Equal Less h k = cc
clash Equal Equal h k = cc
clash Equal Greater h k = cc
clash Greater s h k = cc

pub TripPrecedes-asymmetric : (T : TimetableData) (t u : ℕ) → TripPrecedes T t u → TripPrecedes T u t → ⊥
TripPrecedes-asymmetric T t u h k =
    clash (slice_cmp int_cmp (times_of (events_of T t)) (times_of (events_of T u))) (nat_cmp t u) h
    (subst (λ r. IsTrue (is_lt (ordering_then r (ordering_reverse (nat_cmp t u))))) ((lists_total int_cmp_total).antisymm (times_of (events_of T u)) (times_of (events_of T t)))
    (subst (λ r. IsTrue (is_lt (ordering_then (slice_cmp int_cmp (times_of (events_of T u)) (times_of (events_of T t))) r))) (nat_cmp_total.antisymm u t) k))

-- of two different trips one comes earlier
either_way : (r s : Ordering) → (s ≡ Equal → ⊥) → IsTrue (is_lt (ordering_then r s)) ⊎ IsTrue (is_lt (ordering_then (ordering_reverse r) (ordering_reverse s)))
either_way Less s differ = inl refl
either_way Equal Less differ = inl refl
either_way Equal Equal differ = absurd (differ refl)
either_way Equal Greater differ = inr refl
either_way Greater s differ = inr refl

pub TripPrecedes-total : (T : TimetableData) (t u : ℕ) → (t ≡ u → ⊥) → TripPrecedes T t u ⊎ TripPrecedes T u t
TripPrecedes-total T t u differ =
    subst (λ r. TripPrecedes T t u ⊎ IsTrue (is_lt (ordering_then r (nat_cmp u t)))) (sym ((lists_total int_cmp_total).antisymm (times_of (events_of T u)) (times_of (events_of T t))))
    (subst (λ r. TripPrecedes T t u ⊎ IsTrue (is_lt (ordering_then (ordering_reverse (slice_cmp int_cmp (times_of (events_of T t)) (times_of (events_of T u)))) r))) (sym (nat_cmp_total.antisymm u t))
    (either_way (slice_cmp int_cmp (times_of (events_of T t)) (times_of (events_of T u))) (nat_cmp t u) (λ e. differ (nat_cmp-IsAntisymmetric t u e))))

pub trip_order_unique : (T : TimetableData) (us vs : List ℕ) → IsTripOrder T us → IsTripOrder T vs → us ≡ vs
trip_order_unique T us vs a b =
    same_members (TripPrecedes T) (TripPrecedes-asymmetric T) us vs a.ordered b.ordered
    (λ t h. Member-from_Contains t vs (b.complete t (All-contains (λ t. t < length T.trips) us t a.trips (Contains-from_Member t us h))))
    (λ t h. Member-from_Contains t us (a.complete t (All-contains (λ t. t < length T.trips) vs t b.trips (Contains-from_Member t vs h))))

pub lines_unique : (T : TimetableData) (ks ls : List (List ℕ)) → AreLines T ks → AreLines T ls → ks ≡ ls
lines_unique T ks ls a b = a.placed ∙ ap (fold (place_trip T) []) (trip_order_unique T a.order b.order a.in_order b.in_order) ∙ sym b.placed
