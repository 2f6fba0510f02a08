-- Sums over the numbers below a bound, and over segments.
use Rattle.std.proofs.Common.{◌≡◌, ◌≢◌, ◌∙◌, ℕ, zero, suc, ◌+◌, ◌<◌, ◌≤◌, inl, inr, List, [], ◌∷◌, ◌++◌, length, take, get_or, refl, sym, ap, subst, arith, add-one}
use Rattle.std.specs.Prelude.{All, AllPairs, sum_by}
use Rattle.std.proofs.lemmas.List.{take_all}
use Rattle.std.proofs.lemmas.List.Sums.{sum_by-append, sum_by-cons, sum_by_push, sum_by_more, sum_by-le-sum_by}
use Rattle.std.proofs.lemmas.List.Elements.{All-head, All-tail}
use Rattle.tb_base.specs.Soundness.{IsSound}
use Rattle.tb_base.specs.TimetableData.{TimetableData, TripData, events_of, event_total, no_trip}
use Rattle.tb_base.specs.Transfers.{numbers_below}
use Rattle.tb_base.proofs.Ordered.{Member, AllPairs-tail}
use Rattle.tb_base.proofs.Members.{Member-append, Member-left, Member-right}
use Rattle.segment_queue.proofs.Distinct.{before_member}
use Rattle.segment_queue.specs.declared.desk.Segment.{Segment}
use Rattle.segment_queue.specs.Queue.{IsSoundSegment, covered_indices, last_index, last_total}
use Rattle.tb_base.proofs.NumberFacts.{below_or_last}

pub total_le : (f g : ℕ → ℕ) (n : ℕ) → ((k : ℕ) → k < n → g k ≤ f k) → sum_by g (numbers_below n) ≤ sum_by f (numbers_below n)
total_le f g zero less = omega arith
total_le f g (suc n) less =
    omega (arith, total_le f g n (λ k h. less k (omega (arith, h))), less n (omega arith), sum_by_push f (numbers_below n) n, sum_by_push g (numbers_below n) n)

-- where no term rises, and one falls by d, the sum falls by d
pub total_falls : (f g : ℕ → ℕ) (n t d : ℕ) → t < n → ((k : ℕ) → k < n → g k ≤ f k) → g t + d ≤ f t → sum_by g (numbers_below n) + d ≤ sum_by f (numbers_below n)
total_falls f g zero t d inside less falls = absurd (omega (arith, inside))
total_falls f g (suc n) t d inside less falls =
    elim (below_or_last t n inside) [
      | inl h ↦ omega (arith, total_falls f g n t d h (λ k b. less k (omega (arith, b))) falls, less n (omega arith), sum_by_push f (numbers_below n) n, sum_by_push g (numbers_below n) n)
      | inr e ↦
          (let here : g n + d ≤ f n = subst (λ k. g k + d ≤ f k) e falls in
          omega (arith, total_le f g n (λ k b. less k (omega (arith, b))), here, sum_by_push f (numbers_below n) n, sum_by_push g (numbers_below n) n))
    ]

-- a term is at most the sum
pub one_le_total : (f : ℕ → ℕ) (n t : ℕ) → t < n → f t ≤ sum_by f (numbers_below n)
one_le_total f n t inside =
    let zero_total : (m : ℕ) → 0 ≤ sum_by (λ k. 0) (numbers_below m) = λ m. omega arith in
    omega (arith, falls (total_falls f (λ k. 0) n t (f t) inside (λ k h. omega arith) (omega arith)))
  where
    falls : sum_by (λ k. 0) (numbers_below n) + f t ≤ sum_by f (numbers_below n) → f t ≤ sum_by f (numbers_below n)
    falls h = omega (arith, h)

events_below : (xs : List TripData) (d : TripData) (n : ℕ) → n ≤ length xs → sum_by (λ t. length (TripData.events (get_or xs t d))) (numbers_below n) ≡ sum_by (λ (t : TripData). length t.events) (take n xs)
events_below xs d zero h = refl
events_below xs d (suc n) h =
    let more : sum_by (λ (t : TripData). length t.events) (take (n + 1) xs) ≡ sum_by (λ (t : TripData). length t.events) (take n xs) + length (TripData.events (get_or xs n d))
    = sum_by_more (λ (t : TripData). length t.events) xs n d (omega (arith, h)) in
    sum_by_push (λ t. length (TripData.events (get_or xs t d))) (numbers_below n) n
    ∙ ap (λ k. k + length (TripData.events (get_or xs n d))) (events_below xs d n (omega (arith, h)))
    ∙ sym more ∙ ap (λ k. sum_by (λ (t : TripData). length t.events) (take k xs)) (add-one n)

-- all trips have as many events as the timetable
pub all_events : (T : TimetableData) → sum_by (λ t. length (events_of T t)) (numbers_below (length T.trips)) ≡ event_total T
all_events T =
    events_below T.trips no_trip (length T.trips) (omega arith) ∙ ap (λ xs. sum_by (λ (t : TripData). length t.events) xs) (take_all (length T.trips) T.trips (omega arith))

-- the last indices of all trips are together at most the number of events
pub last_le_events : (T : TimetableData) → last_total T ≤ event_total T
last_le_events T =
    let each : last_total T ≤ sum_by (λ t. length (events_of T t)) (numbers_below (length T.trips))
    = sum_by-le-sum_by (last_index T) (λ t. length (events_of T t)) (numbers_below (length T.trips)) (λ t. omega arith) in
    omega (arith, each, all_events T)

-- each segment covers an index
pub length_le_covered : (T : TimetableData) (segments : List Segment) → All (IsSoundSegment T) segments → length segments ≤ sum_by covered_indices segments
length_le_covered T [] sound = omega arith
length_le_covered T (s ∷ ss) sound =
    omega (arith, length_le_covered T ss (All-tail (IsSoundSegment T) s ss sound), (All-head (IsSoundSegment T) s ss sound).onward, sum_by-cons covered_indices s ss)

member_split : (x : ℕ) (ys : List ℕ) → Member x ys → (before after : List ℕ) × (ys ≡ before ++ x ∷ after)
member_split x [] h = absurd h
member_split x (y ∷ ys) (inl e) = ([], ys, ap (λ z. z ∷ ys) e)
member_split x (y ∷ ys) (inr h) = let r : (before after : List ℕ) × (ys ≡ before ++ x ∷ after) = member_split x ys h in (y ∷ r.0, r.1, ap (λ zs. y ∷ zs) r.2)

-- the sum over numbers that differ is at most that over a list with all of them
pub distinct_sum : (f : ℕ → ℕ) (xs ys : List ℕ) → AllPairs (λ p q. p ≢ q) xs → ((x : ℕ) → Member x xs → Member x ys) → sum_by f xs ≤ sum_by f ys
distinct_sum f [] ys distinct inside = omega arith
distinct_sum f (x ∷ xs) ys distinct inside =
    let s : (before after : List ℕ) × (ys ≡ before ++ x ∷ after) = member_split x ys (inside x (inl refl)) in
    let rest : sum_by f xs ≤ sum_by f (s.0 ++ s.1)
    = distinct_sum f xs (s.0 ++ s.1) (AllPairs-tail (λ p q. p ≢ q) x xs distinct)
    (λ z h. without s.0 s.1 z (λ e. before_member (λ p q. p ≢ q) x xs z distinct h (sym e)) (subst (λ l. Member z l) s.2 (inside z (inr h)))) in
    omega (arith, rest, sum_by-cons f x xs, ap (sum_by f) s.2, sum_by-append f s.0 (x ∷ s.1), sum_by-cons f x s.1, sum_by-append f s.0 s.1)
  where
    without : (before after : List ℕ) (z : ℕ) → z ≢ x → Member z (before ++ x ∷ after) → Member z (before ++ after)
    without before after z other h =
        elim (Member-append z before (x ∷ after) h) [
          | inl k ↦ Member-left z before after k
          | inr k ↦ Member-right z before after (elim k [ inl e ↦ absurd (other (sym e)) | inr m ↦ m ])
        ]

-- no trip has more events than a timetable may have
pub long_few : (T : TimetableData) (t : ℕ) → IsSound T → t < length T.trips → length (events_of T t) ≤ 10000000
long_few T t sound inside = omega (arith, one_le_total (λ u. length (events_of T u)) (length T.trips) t inside, all_events T, sound.events)

pub index_few : (T : TimetableData) (t at : ℕ) → IsSound T → t < length T.trips → at < last_index T t → at < 10000000
index_few T t at sound inside below = omega (arith, below, long_few T t sound inside)
