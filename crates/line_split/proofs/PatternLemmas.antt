-- Trips of one pattern have one number.
use Rattle.std.proofs.Common.{◌≡◌, ◌∙◌, sym, ap, subst, refl, ℕ, zero, suc, ◌+◌, ◌<◌, ◌≤◌, Bool, true, false, cond, List, [], ◌∷◌, ◌++◌, length, map, filter, get_or, fold, ◌/◌, ◌%◌, ◌^◌, arith}
use Rattle.std.specs.Prelude.{All}
use Rattle.std.specs.List.{range_with_len}
use Rattle.std.specs.List.Sorted.{IsSortedBy, IsPartitionedBy, IsPartitionPoint}
use Rattle.std.specs.Ordering.{is_eq, is_lt, nat_cmp}
use Rattle.std.specs.Cmp.{IsStrictWeakOrder, nat_cmp_total, on_total}
use Rattle.std.specs.Cmp.Lexicographic.{slice_cmp, lists_total}
use Rattle.std.proofs.lemmas.Bool.{and_parts, false≢true}
use Rattle.std.proofs.lemmas.List.{map-append}
use Rattle.std.proofs.lemmas.List.FromFn.{get_or-map-range_with_len, length-map-range_with_len}
use Rattle.std.proofs.lemmas.List.Sorted.{ranks_by, sorted_far}
use Rattle.tb_base.specs.declared.table.Event.{Event}
use Rattle.tb_base.specs.TimetableData.{TimetableData, events_of}
use Rattle.tb_base.specs.Lines.{may_follow}
use Rattle.tb_base.proofs.LineFacts.{event_no_later}
use Rattle.line_split.specs.Patterns.{mix, marks_of, bucket_of, pattern_of, pattern_precedes, number_of, AreNumbered}
use Rattle.line_split.proofs.TripOrders.{range_one_more}

-- one trip more
pub map_range_more : (f : ℕ → ℕ) (n : ℕ) → map f (range_with_len 0 (n + 1)) ≡ map f (range_with_len 0 n) ++ f n ∷ []
map_range_more f n = ap (map f) (range_one_more n) ∙ map-append f (range_with_len 0 n) (n ∷ [])

pub mapped_long : (T : TimetableData) (buckets : List ℕ) → buckets ≡ map (λ t. bucket_of (length T.trips) (events_of T t)) (range_with_len 0 (length T.trips)) → length buckets ≡ length T.trips
mapped_long T buckets is = ap length is ∙ length-map-range_with_len (λ t. bucket_of (length T.trips) (events_of T t)) 0 (length T.trips)

pub all_within : (n : ℕ) (xs ys : List ℕ) (m : ℕ) → All (λ x. x < n) xs → ys ≡ xs → m ≡ n → All (λ x. x < m) ys
all_within n xs ys m below is e = subst (λ zs. All (λ x. x < m) zs) (sym is) (subst (λ k. All (λ x. x < k) xs) (sym e) below)

-- ---- trips, one of which may follow the other, have one pattern

abbrev step : ℕ → Event → ℕ
step hash e = mix (mix hash e.stop) (marks_of e)

same_hash : (hash : ℕ) (es fs : List Event) → may_follow es fs ≡ true → fold step hash es ≡ fold step hash fs
same_hash hash [] [] h = refl
same_hash hash [] (f ∷ fs) h = cc
same_hash hash (e ∷ es) [] h = cc
same_hash hash (e ∷ es) (f ∷ fs) h =
    let p = and_parts _ (may_follow es fs) h in
    let n = event_no_later e f p.0 in
    let one : step hash e ≡ step hash f = cc (n.stop, n.board, n.alight) in
    ap (λ x. fold step x es) one ∙ same_hash (step hash f) es fs p.1

pub same_bucket : (count : ℕ) (es fs : List Event) → may_follow es fs ≡ true → bucket_of count es ≡ bucket_of count fs
same_bucket count es fs h = ap (λ hash. (hash / 2 ^ 32) % count) (same_hash 0 es fs h)

same_pattern : (es fs : List Event) → may_follow es fs ≡ true → pattern_of es ≡ pattern_of fs
same_pattern [] [] h = refl
same_pattern [] (f ∷ fs) h = cc
same_pattern (e ∷ es) [] h = cc
same_pattern (e ∷ es) (f ∷ fs) h =
    let p = and_parts _ (may_follow es fs) h in
    let n = event_no_later e f p.0 in
    let one : marks_of e ≡ marks_of f = cc (n.board, n.alight) in
    ap (λ s. s ∷ marks_of e ∷ pattern_of es) n.stop ∙ ap (λ m. f.stop ∷ m ∷ pattern_of es) one ∙ ap (λ xs. f.stop ∷ marks_of f ∷ xs) (same_pattern es fs p.1)

-- ---- how many come before

pub counted : (p : ℕ → Bool) (xs : List ℕ) (r : ℕ) → r ≤ length xs → IsPartitionPoint (λ x. p x ≡ true) (λ x. p x ≡ false) xs r → r ≡ length (filter p xs)
counted p [] r h parts = omega arith
counted p (x ∷ xs) zero h parts =
    counted p xs zero (omega arith) ((λ k d low below. absurd (omega (arith, below))), (λ k d low below. parts.1 (suc k) d (omega arith) (omega (arith, below))))
    ∙ sym (ap (λ b. length (cond b (x ∷ filter p xs) (filter p xs))) (parts.1 0 0 (omega arith) (omega arith)))
counted p (x ∷ xs) (suc r) h parts =
    ap suc (counted p xs r (omega (arith, h)) ((λ k d low below. parts.0 (suc k) d (omega arith) (omega (arith, below))), (λ k d low below. parts.1 (suc k) d (omega (arith, low)) (omega (arith, below)))))
    ∙ sym (ap (λ b. length (cond b (x ∷ filter p xs) (filter p xs))) (parts.0 0 0 (omega arith) (omega arith)))

pub filter_below : (p : ℕ → Bool) (xs : List ℕ) → length (filter p xs) ≤ length xs
filter_below p [] = omega arith
filter_below p (x ∷ xs) = by_test (filter_below p xs) (p x)
  where
    by_test : length (filter p xs) ≤ length xs → (b : Bool) → length (cond b (x ∷ filter p xs) (filter p xs)) ≤ suc (length xs)
    by_test more true = omega (arith, more)
    by_test more false = omega (arith, more)

-- ---- trips that are sorted by their patterns

pub pattern_ranks : (T : TimetableData) → IsStrictWeakOrder (pattern_precedes T)
pattern_ranks T = ranks_by (on_total (λ t. pattern_of (events_of T t)) (lists_total nat_cmp_total)) (λ t. t)

pub pattern_partitioned : (T : TimetableData) (xs : List ℕ) (t : ℕ) → IsSortedBy (pattern_precedes T) xs → IsPartitionedBy (λ u. pattern_precedes T u t) xs
pattern_partitioned T xs t up i j d low below later = by_test (pattern_precedes T (get_or xs i d) t) refl
  where
    by_test : (b : Bool) → b ≡ pattern_precedes T (get_or xs i d) t → pattern_precedes T (get_or xs i d) t ≡ true
    by_test true e = sym e
    by_test false e =
        absurd (false≢true (sym ((pattern_ranks T).chain (get_or xs j d) (get_or xs i d) t (sorted_far (pattern_precedes T) (pattern_ranks T) xs up i j d low below) (sym e)) ∙ later))

-- ---- the numbers

-- as many trips have an earlier pattern than each of two trips, of which one may follow the other
pub same_earlier : (T : TimetableData) (trips : List ℕ) (t u : ℕ) → may_follow (events_of T t) (events_of T u) ≡ true → length (filter (λ v. pattern_precedes T v t) trips) ≡ length (filter (λ v. pattern_precedes T v u) trips)
same_earlier T trips t u h =
    ap (λ p. length (filter (λ v. is_lt (slice_cmp nat_cmp (pattern_of (events_of T v)) p)) trips)) (same_pattern (events_of T t) (events_of T u) h)

module _ (T : TimetableData) (first others : List ℕ) where
  same_number : (b t u : ℕ) → pattern_of (events_of T t) ≡ pattern_of (events_of T u) → number_of T first others b t ≡ number_of T first others b u
  same_number b t u h =
      ap
      (λ p. cond (is_eq (slice_cmp nat_cmp p (pattern_of (events_of T (get_or first b 0))))) b
      (length first + length (filter (λ v. is_lt (slice_cmp nat_cmp (pattern_of (events_of T v)) p)) others))) h

  number_below : (b t : ℕ) → b < length first → number_of T first others b t < length first + length others + 1
  number_below b t h = by_test (is_eq (slice_cmp nat_cmp (pattern_of (events_of T t)) (pattern_of (events_of T (get_or first b 0)))))
    where
      by_test : (c : Bool) → cond c b (length first + length (filter (λ v. pattern_precedes T v t) others)) < length first + length others + 1
      by_test true = omega (arith, h)
      by_test false = omega (arith, filter_below (λ v. pattern_precedes T v t) others)

pub numbered : (T : TimetableData) (buckets first others numbers : List ℕ) (count : ℕ) → buckets ≡ map (λ t. bucket_of (length T.trips) (events_of T t)) (range_with_len 0 (length T.trips)) → All (λ b. b < length first) buckets
    → numbers ≡ map (λ t. number_of T first others (get_or buckets t 0) t) (range_with_len 0 (length T.trips)) → count ≡ length first + length others + 1 → AreNumbered T numbers count
numbered T buckets first others numbers count are below is many = record {
  long = ap length is ∙ length-map-range_with_len own 0 (length T.trips);
  below = λ t h. subst (λ n. n < count) (sym (at t h)) (subst (λ n. own t < n) (sym many) (number_below T first others (get_or buckets t 0) t (below t 0 (inside t h))));
  same = λ t u h k follows.
      at t h ∙ same_number T first others (get_or buckets t 0) t u (same_pattern (events_of T t) (events_of T u) follows)
      ∙ ap (λ b. number_of T first others b u) (bucket t h ∙ same_bucket (length T.trips) (events_of T t) (events_of T u) follows ∙ sym (bucket u k)) ∙ sym (at u k);
}
  where
    own : ℕ → ℕ
    own t = number_of T first others (get_or buckets t 0) t

    hash : ℕ → ℕ
    hash t = bucket_of (length T.trips) (events_of T t)

    at : (t : ℕ) → t < length T.trips → get_or numbers t 0 ≡ own t
    at t h = ap (λ ns. get_or ns t 0) is ∙ get_or-map-range_with_len own 0 (length T.trips) t t 0 h (omega arith)

    bucket : (t : ℕ) → t < length T.trips → get_or buckets t 0 ≡ hash t
    bucket t h = ap (λ bs. get_or bs t 0) are ∙ get_or-map-range_with_len hash 0 (length T.trips) t t 0 h (omega arith)

    inside : (t : ℕ) → t < length T.trips → t < length buckets
    inside t h = omega (arith, h, ap length are, length-map-range_with_len hash 0 (length T.trips))
