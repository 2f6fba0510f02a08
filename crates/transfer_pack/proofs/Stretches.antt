-- The hops of several events of a trip that follow one another.
use Rattle.std.proofs.Common.{◌≡◌, ◌∙◌, ℕ, zero, suc, ◌+◌, ◌-◌, ◌<◌, ◌≤◌, ◌⊎◌, inl, inr, List, [], ◌∷◌, ◌++◌, length, true, cond, get_or, take, drop, refl, sym, ap, subst, arith}
use Rattle.std.specs.Prelude.{Contains, flat_map, nat_lt, slice_get, Some}
use Rattle.std.specs.List.{range_with_len}
use Rattle.std.proofs.lemmas.Bool.Decides.{nat_tests}
use Rattle.std.proofs.lemmas.Grind.{get_or_default_zero}
use Rattle.std.proofs.lemmas.List.{append-nil, get_or-drop, get_or-take, length-drop, length-take-le}
use Rattle.std.proofs.lemmas.Option.{get_or_from_slice_get}
use Rattle.tb_base.specs.declared.transfer.Hop.{Hop}
use Rattle.tb_base.specs.TimetableData.{events_of}
use Rattle.transfer_pack.specs.Packed.{AreBounds, FitsRuns, PackedHops, begin_of, hops_before, hops_over, packed, runs_in}
use Rattle.transfer_pack.proofs.Bounds.{IsRun, length-runs_in, run_at}
use Rattle.transfer_pack.proofs.Packing.{run_inside}

take_none : {X : Type 0} (n : ℕ) → take {A = X} n [] ≡ []
take_none zero = refl
take_none (suc n) = refl

drop_none : {X : Type 0} (n : ℕ) → drop {A = X} n [] ≡ []
drop_none zero = refl
drop_none (suc n) = refl

from_none : (m : ℕ) → m ≡ 0 + m
from_none m = omega arith

one_more : (n m : ℕ) → suc (n + m) ≡ suc n + m
one_more n m = omega arith

take_sum : {X : Type 0} (xs : List X) (n m : ℕ) → take n xs ++ take m (drop n xs) ≡ take (n + m) xs
take_sum xs zero m = ap (λ k. take k xs) (from_none m)
take_sum [] (suc n) m = take_none m ∙ sym (take_none (suc n + m))
take_sum (x ∷ xs) (suc n) m = ap (λ ys. x ∷ ys) (take_sum xs n m) ∙ ap (λ k. take k (x ∷ xs)) (one_more n m)

drop_sum : {X : Type 0} (xs : List X) (n m : ℕ) → drop m (drop n xs) ≡ drop (n + m) xs
drop_sum xs zero m = ap (λ k. drop k xs) (from_none m)
drop_sum [] (suc n) m = drop_none m ∙ sym (drop_none (suc n + m))
drop_sum (x ∷ xs) (suc n) m = drop_sum xs n m ∙ ap (λ k. drop k (x ∷ xs)) (one_more n m)

-- two parts that meet
take_join : {X : Type 0} (xs : List X) (a b c : ℕ) → a ≤ b → b ≤ c → take (b - a) (drop a xs) ++ take (c - b) (drop b xs) ≡ take (c - a) (drop a xs)
take_join xs a b c low high =
    let there : drop b xs ≡ drop (b - a) (drop a xs) = ap (λ n. drop n xs) (meet a b low) ∙ sym (drop_sum xs a (b - a)) in
    ap (λ ys. take (b - a) (drop a xs) ++ take (c - b) ys) there ∙ take_sum (drop a xs) (b - a) (c - b) ∙ ap (λ n. take n (drop a xs)) (long a b c low high)
  where
    meet : (a b : ℕ) → a ≤ b → b ≡ a + (b - a)
    meet a b h = omega (arith, h)

    long : (a b c : ℕ) → a ≤ b → b ≤ c → (b - a) + (c - b) ≡ c - a
    long a b c h k = omega (arith, h, k)

-- the runs from one up to n behind it stand one behind the other
record IsStretch (hops : List Hop) (bounds : List ℕ) (end e n : ℕ) : Type 0 where
  pub order : get_or bounds e 0 ≤ get_or bounds (suc (e + n)) 0
  pub within : get_or bounds (suc (e + n)) 0 ≤ end
  pub is : flat_map (λ k. get_or (runs_in hops bounds) k []) (range_with_len e (suc n)) ≡ take (get_or bounds (suc (e + n)) 0 - get_or bounds e 0) (drop (get_or bounds e 0) hops)

stretch : (hops : List Hop) (bounds : List ℕ) (end e n : ℕ) → AreBounds bounds end → suc (e + n) < length bounds → IsStretch hops bounds end e n
stretch hops bounds end e zero are inside =
    let r : IsRun hops bounds end e = run_at hops bounds end e are (omega (arith, inside)) in
    let same : suc e ≡ suc (e + 0) = omega arith in
    record {
      order = subst (λ k. get_or bounds e 0 ≤ get_or bounds k 0) same r.from;
      within = subst (λ k. get_or bounds k 0 ≤ end) same r.to;
      is = append-nil (get_or (runs_in hops bounds) e []) ∙ r.run ∙ ap (λ k. take (get_or bounds k 0 - get_or bounds e 0) (drop (get_or bounds e 0) hops)) same;
    }
stretch hops bounds end e (suc n) are inside =
    let r : IsRun hops bounds end e = run_at hops bounds end e are (omega (arith, inside)) in
    let next : e + 1 ≡ suc e = omega arith in
    let last : suc ((e + 1) + n) ≡ suc (e + suc n) = omega arith in
    let s : IsStretch hops bounds end (e + 1) n = stretch hops bounds end (e + 1) n are (omega (arith, inside)) in
    let a : ℕ = get_or bounds e 0 in
    let b : ℕ = get_or bounds (e + 1) 0 in
    let c : ℕ = get_or bounds (suc ((e + 1) + n)) 0 in
    let low : a ≤ b = subst (λ k. a ≤ get_or bounds k 0) (sym next) r.from in
    let here : get_or (runs_in hops bounds) e [] ≡ take (b - a) (drop a hops) = r.run ∙ ap (λ k. take (get_or bounds k 0 - a) (drop a hops)) (sym next) in
    record {
      order = subst (λ k. a ≤ get_or bounds k 0) last (omega (arith, low, s.order));
      within = subst (λ k. get_or bounds k 0 ≤ end) last s.within;
      is = ap (λ ys. ys ++ flat_map (λ k. get_or (runs_in hops bounds) k []) (range_with_len (e + 1) (suc n))) here
          ∙ ap (λ ys. take (b - a) (drop a hops) ++ ys) s.is
          ∙ take_join hops a b c low s.order
          ∙ ap (λ k. take (get_or bounds k 0 - a) (drop a hops)) last;
    }

-- the runs of events are those with the numbers of the events
same_runs : (S : PackedHops) (t i n : ℕ) → i + n ≤ length (events_of S.table t)
    → flat_map (packed S t) (range_with_len i n) ≡ flat_map (λ k. get_or S.runs k []) (range_with_len (get_or S.starts t 0 + i) n)
same_runs S t i zero inside = refl
same_runs S t i (suc n) inside =
    let test : nat_lt i (length (events_of S.table t)) ≡ true = grind (arith, nat_tests, inside) in
    let next : get_or S.starts t 0 + (i + 1) ≡ (get_or S.starts t 0 + i) + 1 = omega arith in
    ap (λ b. cond b (get_or S.runs (get_or S.starts t 0 + i) []) [] ++ flat_map (packed S t) (range_with_len (i + 1) n)) test
    ∙ ap (λ ys. get_or S.runs (get_or S.starts t 0 + i) [] ++ ys) (same_runs S t (i + 1) n (omega (arith, inside)) ∙ ap (λ k. flat_map (λ m. get_or S.runs m []) (range_with_len k n)) next)

-- the hops from some events of a trip are those from where the first begin to where the last end
pub record IsOver (S : PackedHops) (t first last : ℕ) : Type 0 where
  pub order : begin_of S t first ≤ begin_of S t (suc last)
  pub within : begin_of S t (suc last) ≤ length S.hops
  pub is : hops_over (packed S) t first last ≡ take (begin_of S t (suc last) - begin_of S t first) (drop (begin_of S t first) S.hops)

pub over : (S : PackedHops) (t first last : ℕ) → AreBounds S.bounds (length S.hops) → S.runs ≡ runs_in S.hops S.bounds → FitsRuns S → t < length S.table.trips → first ≤ last → last < length (events_of S.table t) → IsOver S t first last
over S t first last are runs_are fits trip order inside =
    let start : ℕ = get_or S.starts t 0 in
    let there : start + last < length S.runs = run_inside S t last start fits trip inside (sym (get_or_default_zero S.starts t start (omega (arith, trip, fits.trips)))) in
    let counted : length S.bounds ≡ suc (length S.runs) = length-runs_in S.hops S.bounds (length S.hops) are ∙ ap (λ (rs : List (List Hop)). suc (length rs)) (sym runs_are) in
    let end : suc ((start + first) + (last - first)) ≡ start + suc last = omega (arith, order) in
    let many : suc last - first ≡ suc (last - first) = omega (arith, order) in
    let s : IsStretch S.hops S.bounds (length S.hops) (start + first) (last - first) = stretch S.hops S.bounds (length S.hops) (start + first) (last - first) are (omega (arith, there, counted, order)) in
    record {
      order = subst (λ k. begin_of S t first ≤ get_or S.bounds k 0) end s.order;
      within = subst (λ k. get_or S.bounds k 0 ≤ length S.hops) end s.within;
      is = ap (λ n. flat_map (packed S t) (range_with_len first n)) many
          ∙ same_runs S t first (suc (last - first)) (omega (arith, order, inside))
          ∙ ap (λ (rs : List (List Hop)). flat_map (λ k. get_or rs k []) (range_with_len (start + first) (suc (last - first)))) runs_are
          ∙ s.is
          ∙ ap (λ k. take (get_or S.bounds k 0 - begin_of S t first) (drop (begin_of S t first) S.hops)) end;
    }

-- how many they are
pub over_count : (S : PackedHops) (t first last : ℕ) → IsOver S t first last → length (hops_over (packed S) t first last) ≡ begin_of S t (suc last) - begin_of S t first
over_count S t first last o =
    let a : ℕ = begin_of S t first in
    let b : ℕ = begin_of S t (suc last) in
    ap length o.is ∙ length-take-le (b - a) (drop a S.hops) (omega (arith, length-drop a S.hops, o.within, o.order))

-- how many there are before an event
pub before_count : (S : PackedHops) (t first at : ℕ) → first ≤ at → (first < at → IsOver S t first (at - 1)) → length (hops_before (packed S) t first at) ≡ begin_of S t at - begin_of S t first
before_count S t first at order o = elim (at_or_past first at order) [
  | inl here ↦ subst (λ k. length (hops_before (packed S) t first k) ≡ begin_of S t k - begin_of S t first) here
      (ap (λ n. length (flat_map (packed S t) (range_with_len first n))) (none_left first) ∙ nothing (begin_of S t first))
  | inr past ↦ subst (λ k. length (hops_before (packed S) t first k) ≡ begin_of S t k - begin_of S t first) (omega (arith, past)) (over_count S t first (at - 1) (o past))
]
  where
    at_or_past : (first at : ℕ) → first ≤ at → (first ≡ at) ⊎ (first < at)
    at_or_past first at h = grind arith

    none_left : (n : ℕ) → n - n ≡ 0
    none_left n = omega arith

    nothing : (b : ℕ) → 0 ≡ b - b
    nothing b = omega arith

-- A hop that stands between where the hops of an event begin and where they end is one of them.
pub hop_found : (S : PackedHops) (t first last at place : ℕ) (h : Hop) → IsOver S t first last → IsOver S t at at → begin_of S t at ≤ begin_of S t first + place → begin_of S t first + place < begin_of S t (suc at) → begin_of S t (suc at) ≤ begin_of S t (suc last)
    → slice_get (hops_over (packed S) t first last) place ≡ Some h → Contains (packed S t at) h
hop_found S t first last at place h o p low high end got =
    let a : ℕ = begin_of S t first in
    let b : ℕ = begin_of S t at in
    let one : suc at - at ≡ 1 = omega arith in
    let only : packed S t at ≡ hops_over (packed S) t at at
    = sym (append-nil (packed S t at)) ∙ ap (λ n. flat_map (packed S t) (range_with_len at n)) (sym one) in
    let long : length (packed S t at) ≡ begin_of S t (suc at) - b = ap length only ∙ over_count S t at at p in
    let k : ℕ = (a + place) - b in
    let here : get_or (packed S t at) k h ≡ get_or S.hops (b + k) h
    = ap (λ xs. get_or xs k h) (only ∙ p.is) ∙ get_or-take (begin_of S t (suc at) - b) (drop b S.hops) k h (omega (arith, low, high)) ∙ get_or-drop b S.hops k h in
    let there : get_or (hops_over (packed S) t first last) place h ≡ get_or S.hops (a + place) h
    = ap (λ xs. get_or xs place h) o.is ∙ get_or-take (begin_of S t (suc last) - a) (drop a S.hops) place h (omega (arith, high, end)) ∙ get_or-drop a S.hops place h in
    let same : b + k ≡ a + place = omega (arith, low) in
    (k, omega (arith, long, low, high), here ∙ ap (λ m. get_or S.hops m h) same ∙ sym there ∙ get_or_from_slice_get (hops_over (packed S) t first last) place h h got)

-- the same, of a set that is seen as these hops
pub over_seen : (S S' : PackedHops) (t first last : ℕ) → S ≡ S' → AreBounds S.bounds (length S.hops) → S.runs ≡ runs_in S.hops S.bounds → FitsRuns S → t < length S'.table.trips → first ≤ last → last < length (events_of S'.table t) → IsOver S' t first last
over_seen S S' t first last same are runs_are fits trip order inside =
    subst (λ (x : PackedHops). IsOver x t first last) same
    (over S t first last are runs_are fits (subst (λ (x : PackedHops). t < length x.table.trips) (sym same) trip) order (subst (λ (x : PackedHops). last < length (events_of x.table t)) (sym same) inside))
