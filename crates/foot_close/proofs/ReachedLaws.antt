-- The stops that were reached, in order of their numbers.
use Rattle.std.proofs.Common.{◌≡◌, ◌≢◌, ◌∙◌, sym, ap, subst, refl, ℕ, zero, suc, ◌+◌, ◌<◌, ◌≤◌, List, [], ◌∷◌, ◌++◌, length, get_or, take, eqb, Option, Some, None, arith, inl, inr}
use Rattle.std.specs.Prelude.{Contains, All, AllPairs, filter_map}
use Rattle.std.specs.List.{range_with_len, cons_option}
use Rattle.std.specs.List.{dedup}
use Rattle.std.specs.List.Sorted.{IsPermutation, IsStrictlyIncreasing}
use Rattle.std.specs.Option.{option_to_list}
use Rattle.std.proofs.lemmas.Bool.{cases_lt}
use Rattle.std.proofs.lemmas.List.{take_more, take_all, get_or_default}
use Rattle.std.proofs.lemmas.List.Kept.{AllPairs-from_increasing, Contains-from_dedup, Contains-dedup_nat}
use Rattle.std.proofs.lemmas.List.Sorted.{All-permutation, Contains-permutation}
use Rattle.std.proofs.lemmas.List.Elements.{All-head, All-tail, All-contains, filter_map-append}
use Rattle.footpaths.specs.Footpaths.{numbers}
use Rattle.tb_base.specs.TimetableData.{FootpathData}
use Rattle.tb_base.specs.Walking.{change_between}
use Rattle.tb_base.specs.Soundness.{IsSoundFootpaths}
use Rattle.foot_close.specs.declared.search.Reached.{Reached}
use Rattle.foot_close.specs.Shortest.{closure_of}
use Rattle.foot_close.proofs.Chains.{same_by}
use Rattle.foot_close.proofs.ClosedLaws.{closure_is}
use Rattle.foot_close.specs.Searching.{mark, IsCovered, AreShortest, reached_at, reached_of}
use Rattle.tb_base.proofs.Ordered.{Member, Member-from_Contains, AllPairs-tail}

none_before : (a : ℕ) (xs : List ℕ) → All (λ q. a < q) xs → Member a xs → ⊥
none_before a [] h m = m
none_before a (x ∷ xs) h (inl e) = (let l = All-head (λ q. a < q) x xs h in absurd (omega (arith, l, e)))
none_before a (x ∷ xs) h (inr m) = none_before a xs (All-tail (λ q. a < q) x xs h) m

later : (a : ℕ) (xs : List ℕ) → All (λ q. a < q) xs → All (λ q. a + 1 ≤ q) xs
later a xs h = λ i d k. (let w = h i d k in omega (arith, w))

module _ {X : Type 0} (f : ℕ → Option X) where
  -- numbers in order that have all values of f among k numbers from a on
  over_range : (k a : ℕ) (xs : List ℕ) → AllPairs (λ p q. p < q) xs → All (λ q. a ≤ q) xs → All (λ q. q < a + k) xs → ((q : ℕ) → f q ≢ None → a ≤ q → q < a + k → Member q xs) → filter_map f xs ≡ filter_map f (range_with_len a k)
  over_range zero a [] up low high has = refl
  over_range zero a (x ∷ xs) up low high has = (let l = All-head (λ q. a ≤ q) x xs low in let h = All-head (λ q. q < a + 0) x xs high in absurd (omega (arith, l, h)))
  over_range (suc k) a [] up low high has =
      let none = no_value (f a) refl (λ some. has a some (omega arith) (omega arith)) in
      rw none (over_range k (a + 1) [] up (λ i d h. absurd (omega (arith, h))) (λ i d h. absurd (omega (arith, h))) (λ q some l h. has q some (omega (arith, l)) (omega (arith, h))))
    where
      no_value : (o : Option X) → f a ≡ o → (f a ≢ None → Member a []) → f a ≡ None
      no_value None e h = e
      no_value (Some x) e h = absurd (h (λ n. let c : None ≡ Some x = sym n ∙ e in cc))
  over_range (suc k) a (x ∷ xs) up low high has =
      let first = All-head (λ q. a ≤ q) x xs low in
      elim (cases_lt a x) [
        | inl l ↦
            let after : All (λ q. a < q) (x ∷ xs) = (λ i d h. by_place l i d h) in
            let none = no_value (f a) refl (λ some. none_before a (x ∷ xs) after (has a some (omega arith) (omega arith))) in
            rw none (over_range k (a + 1) (x ∷ xs) up (later a (x ∷ xs) after) (λ i d h. (let w = high i d h in omega (arith, w))) (λ q some l h. has q some (omega (arith, l)) (omega (arith, h))))
        | inr l ↦
            let same : x ≡ a = omega arith in
            let after : All (λ q. a < q) xs = (λ i d h. let w = up 0 (suc i) d (omega arith) (omega (arith, h)) in omega (arith, w, same)) in
            let rest = over_range k (a + 1) xs (AllPairs-tail (λ p q. p < q) x xs up) (later a xs after) (λ i d h. (let w = All-tail (λ q. q < a + suc k) x xs high i d h in omega (arith, w)))
            (λ q some low_q high_q. others same q low_q (has q some (omega (arith, low_q)) (omega (arith, high_q)))) in
            ap (λ (y : ℕ). cons_option (f y) (filter_map f xs)) same ∙ ap (λ (ys : List X). cons_option (f a) ys) rest
      ]
    where
      by_place : a < x → (i d : ℕ) → i < length (x ∷ xs) → a < get_or (x ∷ xs) i d
      by_place l zero d h = l
      by_place l (suc i) d h = (let w = up 0 (suc i) d (omega arith) h in omega (arith, w))

      no_value : (o : Option X) → f a ≡ o → (f a ≢ None → ⊥) → f a ≡ None
      no_value None e h = e
      no_value (Some x) e h = absurd (h (λ n. let c : None ≡ Some x = sym n ∙ e in cc))

      others : x ≡ a → (q : ℕ) → a + 1 ≤ q → Member q (x ∷ xs) → Member q xs
      others same q l (inr m) = m
      others same q l (inl e) = absurd (omega (arith, l, same, e))

-- one element of a list more
pub filter_more : {A X : Type 0} (h : A → Option X) (xs : List A) (i : ℕ) (x d : A) (old new : List X) (o : Option X) → i < length xs → x ≡ get_or xs i d → old ≡ filter_map h (take i xs) → h x ≡ o → new ≡ old ++ option_to_list o → new ≡ filter_map h (take (i + 1) xs)
filter_more {X = X} h xs i x d old new o below at done e more =
    let parts : take (i + 1) xs ≡ take i xs ++ x ∷ [] = take_more xs i d below ∙ ap (λ y. take i xs ++ y ∷ []) (sym at) in
    more ∙ (ap (λ ys. ys ++ option_to_list o) done ∙ (ap (λ ys. filter_map h (take i xs) ++ ys) (sym (one o e)) ∙ (sym (filter_map-append h (take i xs) (x ∷ [])) ∙ ap (filter_map h) (sym parts))))
  where
    one : (o : Option X) → h x ≡ o → filter_map h (x ∷ []) ≡ option_to_list o
    one None e = rw e refl
    one (Some y) e = rw e refl

-- stops that were lowered, in order: what is made of them is made of all stops
pub over_covered : {X : Type 0} (f : ℕ → Option X) (n : ℕ) (ls : List ℕ) → IsStrictlyIncreasing ls → All (λ q. q < n) ls → ((q : ℕ) → f q ≢ None → Contains ls q) → filter_map f ls ≡ filter_map f (numbers n)
over_covered f n ls up within covers = over_range f n 0 ls (AllPairs-from_increasing ls up) (λ i d h. omega arith) (λ i d h. (let w = within i d h in omega (arith, w))) (λ q some low high. Member-from_Contains q ls (covers q some))

-- marks after a sort
pub covered_sorted : (marks : List (Option ℕ)) (old mid new : List ℕ) → IsCovered marks old → IsPermutation old mid → new ≡ dedup eqb mid → IsCovered marks new
covered_sorted marks old mid new h p e = record {
  within = subst (λ ls. All (λ q. q < length marks) ls) (sym e) (All-from_contains (λ q. q < length marks) (dedup eqb mid) (λ q c. All-contains (λ q. q < length marks) mid q (All-permutation (λ q. q < length marks) old mid p h.within) (Contains-from_dedup eqb mid q c)));
  covers = λ q some. subst (λ ls. Contains ls q) (sym e) (Contains-dedup_nat mid q (Contains-permutation old mid q p (h.covers q some)));
}
  where
    All-from_contains : (P : ℕ → Type 0) (xs : List ℕ) → ((q : ℕ) → Contains xs q → P q) → All P xs
    All-from_contains P xs h i d below = h (get_or xs i d) (i, below, get_or_default xs i (get_or xs i d) d below)

pub reached_same : (f g : ℕ → Option ℕ) → ((q : ℕ) → f q ≡ g q) → (ks : List ℕ) → filter_map (λ q. reached_at q (f q)) ks ≡ filter_map (λ q. reached_at q (g q)) ks
reached_same f g h [] = refl
reached_same f g h (k ∷ ks) = rw (h k, reached_same f g h ks) refl

-- the shortest chains of a search are the closure's
pub reached_closure : (P : FootpathData) (p : ℕ) (marks : List (Option ℕ)) → IsSoundFootpaths P → length marks ≡ length P.change → AreShortest (change_between P) p marks → reached_of (length marks) (mark marks) ≡ reached_of (length P.change) (closure_of P p)
reached_closure P p marks sound many shortest =
    ap (λ n. reached_of n (mark marks)) many
    ∙ reached_same (mark marks) (closure_of P p) (λ q. same_by (change_between P) p q (mark marks q) (closure_of P p q) (shortest q) (closure_is P sound p q)) (numbers (length P.change))

-- a search that went over all places in order has what was reached
pub reached_whole : (marks : List (Option ℕ)) (ls : List ℕ) (n : ℕ) (reached : List Reached) → IsCovered marks ls → IsStrictlyIncreasing ls → length ls ≤ n → reached ≡ filter_map (λ q. reached_at q (mark marks q)) (take n ls) → reached ≡ reached_of (length marks) (mark marks)
reached_whole marks ls n reached covered up end e =
    e ∙ (ap (filter_map (λ q. reached_at q (mark marks q))) (take_all n ls end) ∙ over_covered (λ q. reached_at q (mark marks q)) (length marks) ls up covered.within (λ q some. covered.covers q (λ none. some (ap (reached_at q) none))))
