-- A trip is placed by a look at the lines of its bucket alone.
use Rattle.std.proofs.Common.{◌≡◌, ◌≢◌, ◌∙◌, sym, ap, subst, refl, ℕ, zero, suc, ◌+◌, ◌-◌, ◌<◌, ◌⊎◌, inl, inr, Bool, true, false, cond, List, [], ◌∷◌, ◌++◌, length, get_or, set, find, replicate, Some, None, arith, length-set, get_or-set_same, get_or-set_other}
use Rattle.std.specs.Prelude.{All, AllPairs, Contains}
use Rattle.std.proofs.lemmas.Bool.{cases_eq}
use Rattle.std.proofs.lemmas.List.{get_or_append_left, get_or_push, length_push}
use Rattle.std.proofs.lemmas.List.Elements.{All-nil, All-push, All-weaker, All-contains, Contains-push, Contains-append_left}
use Rattle.std.proofs.lemmas.List.Quantifiers.{all_pairs_push}
use Rattle.tb_base.specs.declared.table.Event.{Event}
use Rattle.tb_base.specs.TimetableData.{TimetableData, events_of}
use Rattle.tb_base.specs.Lines.{may_follow, place_trip, last_trip}
use Rattle.tb_base.proofs.Ordered.{Member, Member-from_Contains, Contains-from_Member, AllPairs-head, AllPairs-tail}
use Rattle.tb_base.proofs.Members.{find_found}
use Rattle.tb_base.proofs.NumberFacts.{below_or_at}
use Rattle.line_split.specs.Patterns.{AreNumbered}
use Rattle.line_split.specs.Buckets.{AreBucketed, last_of}

-- whether a trip with these events may join line l
abbrev pub joins : TimetableData → List (List ℕ) → List Event → ℕ → Bool
joins T lines events l = may_follow (events_of T (last_trip (get_or lines l []))) events

-- ---- placing by the first line that may be joined

module _ (T : TimetableData) (t : ℕ) where
  place_trip-at : (lines : List (List ℕ)) (l : ℕ) → l < length lines → ((k : ℕ) → k < l → joins T lines (events_of T t) k ≡ false) → joins T lines (events_of T t) l ≡ true →
      place_trip T lines t ≡ set lines l (get_or lines l [] ++ t ∷ [])
  place_trip-at [] l h before here = absurd (omega arith)
  place_trip-at (line ∷ lines) zero h before here = ap (λ b. cond b ((line ++ t ∷ []) ∷ lines) (line ∷ place_trip T lines t)) here
  place_trip-at (line ∷ lines) (suc l) h before here =
      ap (λ b. cond b ((line ++ t ∷ []) ∷ lines) (line ∷ place_trip T lines t)) (before 0 (omega arith))
      ∙ ap (λ (ls : List (List ℕ)). line ∷ ls) (place_trip-at lines l (omega arith) (λ k below. before (suc k) (omega arith)) here)

  place_trip-behind : (lines : List (List ℕ)) → ((k : ℕ) → k < length lines → joins T lines (events_of T t) k ≡ false) → place_trip T lines t ≡ lines ++ (t ∷ []) ∷ []
  place_trip-behind [] none = refl
  place_trip-behind (line ∷ lines) none =
      ap (λ b. cond b ((line ++ t ∷ []) ∷ lines) (line ∷ place_trip T lines t)) (none 0 (omega arith))
      ∙ ap (λ (ls : List (List ℕ)). line ∷ ls) (place_trip-behind lines (λ k below. none (suc k) (omega arith)))

-- ---- the first that passes, of numbers that ascend

module _ (test : ℕ → Bool) where
  find-none : (xs : List ℕ) → find test xs ≡ None → (x : ℕ) → Member x xs → test x ≡ false
  find-none [] h x m = absurd m
  find-none (y ∷ ys) h x m = by_test (λ k l. find-none ys k x l) (test y) refl h m
    where
      by_test : (find test ys ≡ None → Member x ys → test x ≡ false) → (b : Bool) → b ≡ test y → cond b (Some y) (find test ys) ≡ None → Member x (y ∷ ys) → test x ≡ false
      by_test rest true e k m = cc
      by_test rest false e k (inl is) = ap test (sym is) ∙ sym e
      by_test rest false e k (inr more) = rest k more

  find-first : (xs : List ℕ) → AllPairs (λ k l. k < l) xs → (l : ℕ) → find test xs ≡ Some l → (x : ℕ) → Member x xs → x < l → test x ≡ false
  find-first [] up l h x m below = absurd m
  find-first (y ∷ ys) up l h x m below = by_test (λ k n. find-first ys (AllPairs-tail (λ k l. k < l) y ys up) l k x n below) (test y) refl h m
    where
      by_test : (find test ys ≡ Some l → Member x ys → test x ≡ false) → (b : Bool) → b ≡ test y → cond b (Some y) (find test ys) ≡ Some l → Member x (y ∷ ys) → test x ≡ false
      by_test rest true e k (inl is) = let same : y ≡ l = cc in absurd (omega (arith, is, same, below))
      by_test rest true e k (inr more) = let same : y ≡ l = cc in absurd (omega (arith, same, below, AllPairs-head (λ k l. k < l) y ys up x (Contains-from_Member x ys more)))
      by_test rest false e k (inl is) = ap test (sym is) ∙ sym e
      by_test rest false e k (inr more) = rest k more

-- ---- a look at the bucket is enough

module _ (T : TimetableData) (numbers : List ℕ) (lines buckets : List (List ℕ)) (numbered : AreNumbered T numbers (length buckets)) (are : AreBucketed T numbers lines buckets) (t : ℕ) (inside : t < length T.trips) where
  abbrev own_bucket : List ℕ
  own_bucket = get_or buckets (get_or numbers t 0) []

  joined_inside : (k : ℕ) → k < length lines → joins T lines (events_of T t) k ≡ true → Member k own_bucket
  joined_inside k h j =
      let e = numbered.same (last_of lines k) t (are.trips k h) inside j in
      Member-from_Contains k own_bucket (subst (λ b. Contains (get_or buckets b []) k) e (are.there k h))

  not_joined : (k : ℕ) → k < length lines → (Member k own_bucket → joins T lines (events_of T t) k ≡ false) → joins T lines (events_of T t) k ≡ false
  not_joined k h none = by_test (joins T lines (events_of T t) k) refl
    where
      by_test : (b : Bool) → b ≡ joins T lines (events_of T t) k → joins T lines (events_of T t) k ≡ false
      by_test true e = none (joined_inside k h (sym e))
      by_test false e = sym e

  pub found_inside : (l : ℕ) → find (joins T lines (events_of T t)) own_bucket ≡ Some l → (l < length lines) × (joins T lines (events_of T t) l ≡ true)
  found_inside l h =
      let found = find_found (joins T lines (events_of T t)) own_bucket l h in
      (All-contains (λ k. k < length lines) own_bucket l (are.known (get_or numbers t 0)) (Contains-from_Member l own_bucket found.0), found.1)

  pub placed_on : (l : ℕ) → find (joins T lines (events_of T t)) own_bucket ≡ Some l → place_trip T lines t ≡ set lines l (get_or lines l [] ++ t ∷ [])
  placed_on l h =
      let found = found_inside l h in
      place_trip-at T t lines l found.0
      (λ k below. not_joined k (omega (arith, below, found.0)) (λ m. find-first (joins T lines (events_of T t)) own_bucket (are.ascending (get_or numbers t 0)) l h k m below)) found.1

  pub placed_behind : find (joins T lines (events_of T t)) own_bucket ≡ None → place_trip T lines t ≡ lines ++ (t ∷ []) ∷ []
  placed_behind h = place_trip-behind T t lines (λ k below. not_joined k below (find-none (joins T lines (events_of T t)) own_bucket h k))

-- ---- the last trip of a line

pub last_trip-push : (line : List ℕ) (t : ℕ) → last_trip (line ++ t ∷ []) ≡ t
last_trip-push line t =
    let long : length line ≡ length (line ++ t ∷ []) - 1 = omega (arith, length_push line t) in
    get_or_push line t 0 (length (line ++ t ∷ []) - 1) long

-- ---- the buckets stay right

-- the lines with a trip more on line l
abbrev extended : List (List ℕ) → ℕ → ℕ → List (List ℕ)
extended lines l t = set lines l (get_or lines l [] ++ t ∷ [])

module _ (T : TimetableData) (numbers : List ℕ) (lines buckets : List (List ℕ)) (numbered : AreNumbered T numbers (length buckets)) (are : AreBucketed T numbers lines buckets) (t : ℕ) (inside : t < length T.trips) where
  pub bucketed_on : (l : ℕ) → l < length lines → joins T lines (events_of T t) l ≡ true → AreBucketed T numbers (set lines l (get_or lines l [] ++ t ∷ [])) buckets
  bucketed_on l h j = record {
    known = λ b. subst (λ n. All (λ k. k < n) (get_or buckets b [])) (sym (length-set lines l (get_or lines l [] ++ t ∷ []))) (are.known b);
    ascending = are.ascending;
    trips = λ k below. known k (omega (arith, below, length-set lines l (get_or lines l [] ++ t ∷ []))) (cases_eq k l);
    there = λ k below. stands k (omega (arith, below, length-set lines l (get_or lines l [] ++ t ∷ []))) (cases_eq k l);
  }
    where
      last_joined : (k : ℕ) → k ≡ l → last_of (extended lines l t) k ≡ t
      last_joined k e = ap (last_of (extended lines l t)) e ∙ ap last_trip (get_or-set_same lines l (get_or lines l [] ++ t ∷ []) [] h) ∙ last_trip-push (get_or lines l []) t

      last_kept : (k : ℕ) → k ≢ l → last_of (extended lines l t) k ≡ last_of lines k
      last_kept k e = ap last_trip (get_or-set_other lines l k (get_or lines l [] ++ t ∷ []) [] e)

      known : (k : ℕ) → k < length lines → (k ≡ l) ⊎ (k ≢ l) → last_of (extended lines l t) k < length T.trips
      known k below (inl e) = subst (λ u. u < length T.trips) (sym (last_joined k e)) inside
      known k below (inr e) = subst (λ u. u < length T.trips) (sym (last_kept k e)) (are.trips k below)

      stands : (k : ℕ) → k < length lines → (k ≡ l) ⊎ (k ≢ l) → Contains (get_or buckets (get_or numbers (last_of (extended lines l t) k) 0) []) k
      stands k below (inl e) =
          let old : Contains (get_or buckets (get_or numbers (last_of lines l) 0) []) k = subst (λ i. Contains (get_or buckets (get_or numbers (last_of lines i) 0) []) k) e (are.there k below) in
          subst (λ u. Contains (get_or buckets (get_or numbers u 0) []) k) (sym (last_joined k e)) (subst (λ b. Contains (get_or buckets b []) k) (numbered.same (last_of lines l) t (are.trips l h) inside j) old)
      stands k below (inr e) = subst (λ u. Contains (get_or buckets (get_or numbers u 0) []) k) (sym (last_kept k e)) (are.there k below)

  abbrev own : ℕ
  own = get_or numbers t 0

  abbrev pub more_buckets : List (List ℕ)
  more_buckets = set buckets (get_or numbers t 0) (get_or buckets (get_or numbers t 0) [] ++ length lines ∷ [])

  pub bucketed_behind : AreBucketed T numbers (lines ++ (t ∷ []) ∷ []) more_buckets
  bucketed_behind = record {
    known = λ b. subst (λ n. All (λ k. k < n) (get_or more_buckets b [])) (sym (length_push lines (t ∷ []))) (all_known b (cases_eq b own));
    ascending = λ b. up b (cases_eq b own);
    trips = λ k below. in_table k (below_or_at k (length lines) (omega (arith, below, length_push lines (t ∷ []))));
    there = λ k below. stands k (below_or_at k (length lines) (omega (arith, below, length_push lines (t ∷ []))));
  }
    where
      h : own < length buckets
      h = numbered.below t inside

      at_own : get_or more_buckets own [] ≡ get_or buckets own [] ++ length lines ∷ []
      at_own = get_or-set_same buckets own (get_or buckets own [] ++ length lines ∷ []) [] h

      at_other : (b : ℕ) → b ≢ own → get_or more_buckets b [] ≡ get_or buckets b []
      at_other b e = get_or-set_other buckets own b (get_or buckets own [] ++ length lines ∷ []) [] e

      last_new : (k : ℕ) → k ≡ length lines → last_of (lines ++ (t ∷ []) ∷ []) k ≡ t
      last_new k e = ap (last_of (lines ++ (t ∷ []) ∷ [])) e ∙ ap last_trip (get_or_push lines (t ∷ []) [] (length lines) refl)

      last_kept : (k : ℕ) → k < length lines → last_of (lines ++ (t ∷ []) ∷ []) k ≡ last_of lines k
      last_kept k below = ap last_trip (get_or_append_left lines ((t ∷ []) ∷ []) [] k below)

      in_table : (k : ℕ) → (k < length lines) ⊎ (k ≡ length lines) → last_of (lines ++ (t ∷ []) ∷ []) k < length T.trips
      in_table k (inl below) = subst (λ u. u < length T.trips) (sym (last_kept k below)) (are.trips k below)
      in_table k (inr e) = subst (λ u. u < length T.trips) (sym (last_new k e)) inside

      wider : (b : ℕ) → All (λ k. k < length lines + 1) (get_or buckets b [])
      wider b = All-weaker (λ k. k < length lines) (λ k. k < length lines + 1) (λ k l. omega (arith, l)) (get_or buckets b []) (are.known b)

      all_known : (b : ℕ) → (b ≡ own) ⊎ (b ≢ own) → All (λ k. k < length lines + 1) (get_or more_buckets b [])
      all_known b (inl e) = rw (e, at_own) (All-push (λ k. k < length lines + 1) (get_or buckets own []) (length lines) (wider own) (omega arith))
      all_known b (inr e) = rw (at_other b e) (wider b)

      up : (b : ℕ) → (b ≡ own) ⊎ (b ≢ own) → AllPairs (λ k l. k < l) (get_or more_buckets b [])
      up b (inl e) = rw (e, at_own) (all_pairs_push (λ k l. k < l) (get_or buckets own []) (length lines) (are.ascending own) (λ k d below. are.known own k d below))
      up b (inr e) = rw (at_other b e) (are.ascending b)

      kept : (b k : ℕ) → Contains (get_or buckets b []) k → (b ≡ own) ⊎ (b ≢ own) → Contains (get_or more_buckets b []) k
      kept b k m (inl e) = rw (e, at_own) (Contains-append_left (get_or buckets own []) (length lines ∷ []) k (subst (λ x. Contains (get_or buckets x []) k) e m))
      kept b k m (inr e) = rw (at_other b e) m

      stands : (k : ℕ) → (k < length lines) ⊎ (k ≡ length lines) → Contains (get_or more_buckets (get_or numbers (last_of (lines ++ (t ∷ []) ∷ []) k) 0) []) k
      stands k (inl below) =
          subst (λ u. Contains (get_or more_buckets (get_or numbers u 0) []) k) (sym (last_kept k below))
          (kept (get_or numbers (last_of lines k) 0) k (are.there k below) (cases_eq (get_or numbers (last_of lines k) 0) own))
      stands k (inr e) =
          subst (λ u. Contains (get_or more_buckets (get_or numbers u 0) []) k) (sym (last_new k e))
          (subst (λ xs. Contains xs k) (sym at_own) (subst (λ i. Contains (get_or buckets own [] ++ length lines ∷ []) i) (sym e) (Contains-push (get_or buckets own []) (length lines))))

pub none_in : (n b : ℕ) → get_or (replicate n (let none : List ℕ = [] in none)) b [] ≡ []
none_in zero b = refl
none_in (suc n) zero = refl
none_in (suc n) (suc b) = none_in n b

-- before any trip
pub bucketed_yet : (T : TimetableData) (numbers : List ℕ) (n : ℕ) → AreBucketed T numbers [] (replicate n [])
bucketed_yet T numbers n = record {
  known = λ b. subst (λ row. All (λ l. l < 0) row) (sym (none_in n b)) (All-nil (λ l. l < 0));
  ascending = λ b. subst (λ row. AllPairs (λ k l. k < l) row) (sym (none_in n b)) (λ i j d low inside. absurd (omega (arith, inside)));
  trips = λ l below. absurd (omega (arith, below));
  there = λ l below. absurd (omega (arith, below));
}
