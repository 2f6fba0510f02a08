-- Which of several events of a trip a place among their hops belongs to.
use Rattle.std.proofs.Common.{◌≡◌, ◌∙◌, ℕ, zero, suc, ◌+◌, ◌-◌, ◌<◌, ◌≤◌, ◌⊎◌, inl, inr, List, [], length, get_or, take, drop, ap, subst, arith}
use Rattle.std.specs.List.{AllWithin}
use Rattle.std.specs.List.Sorted.{IsNonDecreasingBy}
use Rattle.std.proofs.lemmas.List.{get_or_default, get_or-drop, get_or-take, length-drop, length-take-le}
use Rattle.transfer_pack.specs.declared.set.Spot.{Spot}
use Rattle.transfer_pack.specs.Packed.{AreBounds, PackedHops, begin_of}
use Rattle.transfer_pack.specs.Spots.{ends_in}
use Rattle.transfer_pack.proofs.Bounds.{run_at}
use Rattle.transfer_pack.proofs.Packing.{end_at, no_spot}

rises_by : (bounds : List ℕ) (end i n : ℕ) → AreBounds bounds end → i + n < length bounds → get_or bounds i 0 ≤ get_or bounds (i + n) 0
rises_by bounds end i zero are inside = subst (λ k. get_or bounds i 0 ≤ get_or bounds k 0) (none i) (omega arith)
  where
    none : (i : ℕ) → i ≡ i + 0
    none i = omega arith
rises_by bounds end i (suc n) are inside =
    let before = rises_by bounds end i n are (omega (arith, inside)) in
    let next = (run_at [] bounds end (i + n) are (omega (arith, inside))).from in
    subst (λ k. get_or bounds i 0 ≤ get_or bounds k 0) (one_more i n) (omega (arith, before, next))
  where
    one_more : (i n : ℕ) → suc (i + n) ≡ i + suc n
    one_more i n = omega arith

-- the bounds ascend
rises : (bounds : List ℕ) (end i j : ℕ) → AreBounds bounds end → i ≤ j → j < length bounds → get_or bounds i 0 ≤ get_or bounds j 0
rises bounds end i j are order inside =
    let same : i + (j - i) ≡ j = omega (arith, order) in
    subst (λ k. get_or bounds i 0 ≤ get_or bounds k 0) same (rises_by bounds end i (j - i) are (omega (arith, order, inside)))

-- the spots from one place up to another
module _ (spots : List Spot) (from to : ℕ) (part : List Spot) (is : part ≡ take (to - from) (drop from spots)) (inside : to ≤ length spots) where
  pub part_long : length part ≡ to - from
  part_long = ap length is ∙ length-take-le (to - from) (drop from spots) (omega (arith, inside, length-drop from spots))

  pub part_end : (k : ℕ) (d : Spot) → k < to - from → (get_or part k d).end ≡ get_or (ends_in spots) (from + k) 0
  part_end k d below =
      ap (λ (xs : List Spot). (get_or xs k d).end) is
      ∙ ap (λ (s : Spot). s.end) (get_or-take (to - from) (drop from spots) k d below ∙ get_or-drop from spots k d)
      ∙ end_at spots (from + k) d (omega (arith, below, inside))

  pub part_rise : (end : ℕ) → AreBounds (ends_in spots) end → length (ends_in spots) ≡ length spots → IsNonDecreasingBy (λ (s : Spot). s.end) part
  part_rise end are long i j d order below =
      let far : j < to - from = omega (arith, below, part_long) in
      omega (arith, part_end i d (omega (arith, order, far)), part_end j d far, rises (ends_in spots) end (from + i) (from + j) are (omega (arith, order)) (omega (arith, far, inside, long)))

-- ---- how many spots end by a place

module _ (spots : List Spot) (place : ℕ) (up : IsNonDecreasingBy (λ (s : Spot). s.end) spots) where
  -- up to a spot that ends by the place, all do
  ended_to : (p n : ℕ) → p < length spots → (get_or spots p no_spot).end ≤ place → n ≤ p + 1 → AllWithin (λ (s : Spot). s.end ≤ place) spots 0 n
  ended_to p n inside low most k d zero_k to_n =
      omega (arith, low, up k p d (omega (arith, to_n, most)) inside, ap (λ (s : Spot). s.end) (get_or_default spots p no_spot d inside))

  -- from one that doesn't on, none does
  pub open_from : (p n : ℕ) → p < length spots → place < (get_or spots p no_spot).end → p ≤ n → AllWithin (λ (s : Spot). place < s.end) spots n (length spots)
  open_from p n inside high least k d from_n below =
      omega (arith, high, up p k d (omega (arith, from_n, least)) below, ap (λ (s : Spot). s.end) (get_or_default spots p no_spot d inside))

  -- a part is halved: all of its first half end by the place
  pub halved_up : (first left half : ℕ) → 0 < half → half ≤ left → first + left ≤ length spots → AllWithin (λ (s : Spot). place < s.end) spots (first + left) (length spots) → (get_or spots (first + half - 1) no_spot).end ≤ place →
      (first + half + (left - half) ≤ length spots) × AllWithin (λ (s : Spot). s.end ≤ place) spots 0 (first + half) × AllWithin (λ (s : Spot). place < s.end) spots (first + half + (left - half)) (length spots)
  halved_up first left half some most within behind low = (
    omega (arith, most, within),
    ended_to (first + half - 1) (first + half) (omega (arith, some, most, within)) low (omega (arith, some)),
    λ k d from_n below. behind k d (omega (arith, from_n, most)) below,
  )

  -- or not all of it do
  pub halved_down : (first left half : ℕ) → 0 < half → half + half ≤ left + 1 → half ≤ left → first + left ≤ length spots → AllWithin (λ (s : Spot). s.end ≤ place) spots 0 first → place < (get_or spots (first + half - 1) no_spot).end →
      (first + (left - half) ≤ length spots) × AllWithin (λ (s : Spot). s.end ≤ place) spots 0 first × AllWithin (λ (s : Spot). place < s.end) spots (first + (left - half)) (length spots)
  halved_down first left half some fair most within before high = (
    omega (arith, most, within),
    before,
    open_from (first + half - 1) (first + (left - half)) (omega (arith, some, most, within)) high (omega (arith, some, fair)),
  )

-- where none from some place on ends by the place, no more do
pub no_more : (spots : List Spot) (place n count : ℕ) → n ≤ length spots → AllWithin (λ (s : Spot). s.end ≤ place) spots 0 n → AllWithin (λ (s : Spot). place < s.end) spots count (length spots) → n ≤ count
no_more spots place n count within ended behind = elim (or_more n count) [
  | inl h ↦ h
  | inr h ↦ omega (arith, ended count no_spot (omega arith) h, behind count no_spot (omega arith) (omega (arith, h, within)))
]
  where
    or_more : (n m : ℕ) → (n ≤ m) ⊎ (m < n)
    or_more n m = grind arith

-- an event that has the hop at a place among those of events that follow one another
pub record IsAt (S : PackedHops) (t first last place at : ℕ) : Type 0 where
  pub within : at ≤ last
  pub low : begin_of S t at ≤ begin_of S t first + place
  pub high : begin_of S t first + place < begin_of S t (suc at)

-- as many events on as spots end by the place
module _ (S : PackedHops) (spots part : List Spot) (t first last place n : ℕ) (bounds : ends_in spots ≡ S.bounds)
    (is : part ≡ take (length spots - (get_or S.starts t 0 + first + 1)) (drop (get_or S.starts t 0 + first + 1) spots))
    (inside : get_or S.starts t 0 + last + 1 < length spots)
    (order : first ≤ last)
    (whole : place < begin_of S t (suc last) - begin_of S t first) where
  abbrev start : ℕ
  start = get_or S.starts t 0

  here : (k : ℕ) (d : Spot) → k ≤ last - first → (get_or part k d).end ≡ begin_of S t (suc (first + k))
  here k d most =
      part_end spots (start + first + 1) (length spots) part is (omega arith) k d (omega (arith, most, inside, order))
      ∙ ap (λ (bs : List ℕ). get_or bs ((start + first + 1) + k) 0) bounds
      ∙ ap (λ m. get_or S.bounds m 0) (place_of start first k)
    where
      place_of : (s f k : ℕ) → (s + f + 1) + k ≡ s + suc (f + k)
      place_of s f k = omega arith

  long : last - first < length part
  long = omega (arith, part_long spots (start + first + 1) (length spots) part is (omega arith), inside, order)

  -- the hops from the last event end behind the place
  high_last : begin_of S t first + place < (get_or part (last - first) no_spot).end
  high_last =
      let same : first + (last - first) ≡ last = omega (arith, order) in
      omega (arith, whole, here (last - first) no_spot (omega arith), ap (λ k. begin_of S t (suc k)) same)

  -- so no spot from there on ends by it
  pub open_last : IsNonDecreasingBy (λ (s : Spot). s.end) part → AllWithin (λ (s : Spot). begin_of S t first + place < s.end) part (last - first) (length part)
  open_last up = open_from part (begin_of S t first + place) up (last - first) (last - first) long high_last (omega arith)

  pub placed : n ≤ last - first → AllWithin (λ (s : Spot). s.end ≤ begin_of S t first + place) part 0 n → AllWithin (λ (s : Spot). begin_of S t first + place < s.end) part n (length part) → IsAt S t first last place (first + n)
  placed few ended behind = record {
    within = omega (arith, few, order);
    low = low n few ended;
    high = omega (arith, behind n no_spot (omega arith) (omega (arith, few, long)), here n no_spot few);
  }
    where
      low : (n : ℕ) → n ≤ last - first → AllWithin (λ (s : Spot). s.end ≤ begin_of S t first + place) part 0 n → begin_of S t (first + n) ≤ begin_of S t first + place
      low zero most ended = subst (λ k. begin_of S t k ≤ begin_of S t first + place) (none first) (omega arith)
        where
          none : (k : ℕ) → k ≡ k + 0
          none k = omega arith
      low (suc m) most ended =
          subst (λ k. begin_of S t k ≤ begin_of S t first + place) (next first m)
          (omega (arith, ended m no_spot (omega arith) (omega arith), here m no_spot (omega (arith, most))))
        where
          next : (f m : ℕ) → suc (f + m) ≡ f + suc m
          next f m = omega arith
