-- What is made for each of the numbers in a range.
use Rattle.std.proofs.Common.{◌≡◌, ◌≢◌, ◌∙◌, sym, ap, subst, refl, ℕ, zero, suc, ◌+◌, ◌<◌, ◌≤◌, ◌⊎◌, List, [], ◌∷◌, length, get_or, drop, Bool, true, false, cond, Option, Some, None, find, arith, inl, inr}
use Rattle.std.specs.Prelude.{◌==◌, All, filter_map, count_by, IsSomeAnd, IfSome, MatchOption, nat_lt}
use Rattle.std.specs.List.{range_with_len, cons_option}
use Rattle.std.specs.Option.{option_map}
use Rattle.std.proofs.lemmas.Bool.{cases_Bool, cases_lt}
use Rattle.std.proofs.lemmas.Bool.Decides.{nat_tests}
use Rattle.std.proofs.lemmas.List.Elements.{All-nil, All-cons}
use Rattle.std.proofs.lemmas.List.Sums.{sum_by-cons}
use Rattle.std.proofs.Math.Seq.{drop-cons}
use Rattle.foot_close.specs.declared.search.Reached.{Reached}
use Rattle.foot_close.specs.Searching.{reached_at}

module _ {X : Type 0} (number : X → ℕ) (h : ℕ → Option X) (named : (q : ℕ) (x : X) → h q ≡ Some x → number x ≡ q) where
  -- a number outside a range isn't found
  pub not_in_range : (k a q : ℕ) → (q < a) ⊎ (a + k ≤ q) → find (λ x. number x == q) (filter_map h (range_with_len a k)) ≡ None
  not_in_range zero a q out = refl
  not_in_range (suc k) a q out = by_value (not_in_range k (a + 1) q (elim out [ inl l ↦ inl (omega (arith, l)) | inr l ↦ inr (omega (arith, l)) ])) (h a) refl
    where
      by_value : find (λ x. number x == q) (filter_map h (range_with_len (a + 1) k)) ≡ None → (o : Option X) → h a ≡ o → find (λ x. number x == q) (cons_option (h a) (filter_map h (range_with_len (a + 1) k))) ≡ None
      by_value rest None e = rw e rest
      by_value rest (Some x) e =
          let named_x : number x ≡ a = named a x e in
          let apart : number x ≢ q = elim out [ inl l ↦ (λ s. absurd (omega (arith, l, s, named_x))) | inr l ↦ (λ s. absurd (omega (arith, l, s, named_x))) ] in
          let fails : (number x == q) ≡ false = grind (arith, nat_tests, apart) in
          rw (e, fails) rest

  -- a number in a range is found, where something is made for it
  pub in_range : (k a q : ℕ) → a ≤ q → q < a + k → find (λ x. number x == q) (filter_map h (range_with_len a k)) ≡ h q
  in_range zero a q low high = absurd (omega (arith, low, high))
  in_range (suc k) a q low high = by_place (λ l. in_range k (a + 1) q (omega (arith, l)) (omega (arith, high))) (cases_lt a q) (h a) refl
    where
      by_place : (a < q → find (λ x. number x == q) (filter_map h (range_with_len (a + 1) k)) ≡ h q) → (a < q) ⊎ (q ≤ a) → (o : Option X) → h a ≡ o → find (λ x. number x == q) (cons_option (h a) (filter_map h (range_with_len (a + 1) k))) ≡ h q
      by_place rest (inl l) None e = rw e (rest l)
      by_place rest (inl l) (Some x) e =
          let named_x : number x ≡ a = named a x e in
          let apart : number x ≢ q = (λ s. absurd (omega (arith, l, s, named_x))) in
          let fails : (number x == q) ≡ false = grind (arith, nat_tests, apart) in
          rw (e, fails) (rest l)
      by_place rest (inr l) None e =
          let same : a ≡ q = omega (arith, l, low) in
          rw e (not_in_range k (a + 1) q (inl (omega (arith, l))) ∙ sym e ∙ ap h same)
      by_place rest (inr l) (Some x) e =
          let same : a ≡ q = omega (arith, l, low) in
          let here : number x ≡ q = named a x e ∙ same in
          let passes : (number x == q) ≡ true = grind (arith, nat_tests, here) in
          rw (e, passes) (sym e ∙ ap h same)

reached_named : (f : ℕ → Option ℕ) (q : ℕ) (r : Reached) → reached_at q (f q) ≡ Some r → Reached.stop r ≡ q
reached_named f q r e = by_secs (f q) e
  where
    by_secs : (o : Option ℕ) → reached_at q o ≡ Some r → Reached.stop r ≡ q
    by_secs None e = cc
    by_secs (Some s) e = (let is : record { stop = q; secs = s } ≡ r = cc in sym (ap Reached.stop is))

-- a stop's seconds are found among those that were reached
pub own_reached : (f : ℕ → Option ℕ) (n p : ℕ) → p < n → option_map Reached.secs (find (λ r. Reached.stop r == p) (filter_map (λ q. reached_at q (f q)) (range_with_len 0 n))) ≡ f p
own_reached f n p h = ap (option_map Reached.secs) (in_range Reached.stop (λ q. reached_at q (f q)) (reached_named f) n 0 p (omega arith) (omega (arith, h))) ∙ back (f p)
  where
    back : (o : Option ℕ) → option_map Reached.secs (reached_at p o) ≡ o
    back None = refl
    back (Some s) = refl

-- what is made of the stops that were reached is made of all, where nothing is made of others
pub over_reached : {X : Type 0} (f : ℕ → Option ℕ) (h : ℕ → Option ℕ → Option X) → ((q : ℕ) → h q None ≡ None) → (ks : List ℕ) → filter_map (λ r. h (Reached.stop r) (Some (Reached.secs r))) (filter_map (λ q. reached_at q (f q)) ks) ≡ filter_map (λ q. h q (f q)) ks
over_reached f h none [] = refl
over_reached {X = X} f h none (k ∷ ks) = by_secs (over_reached f h none ks) (f k) refl
  where
    by_secs : filter_map (λ r. h (Reached.stop r) (Some (Reached.secs r))) (filter_map (λ q. reached_at q (f q)) ks) ≡ filter_map (λ q. h q (f q)) ks → (o : Option ℕ) → f k ≡ o → filter_map (λ r. h (Reached.stop r) (Some (Reached.secs r))) (cons_option (reached_at k (f k)) (filter_map (λ q. reached_at q (f q)) ks)) ≡ cons_option (h k (f k)) (filter_map (λ q. h q (f q)) ks)
    by_secs rest None e = rw (e, none k) rest
    by_secs rest (Some s) e = rw e (ap (cons_option (h k (Some s))) rest)

abbrev one_if : Bool → ℕ
one_if b = cond b 1 0

pub count_reached : (f : ℕ → Option ℕ) (t : ℕ → Option ℕ → Bool) → ((q : ℕ) → t q None ≡ false) → (ks : List ℕ) → count_by (λ r. t (Reached.stop r) (Some (Reached.secs r))) (filter_map (λ q. reached_at q (f q)) ks) ≡ count_by (λ q. t q (f q)) ks
count_reached f t none [] = refl
count_reached f t none (k ∷ ks) = by_secs (count_reached f t none ks) (f k) refl
  where
    by_secs : count_by (λ r. t (Reached.stop r) (Some (Reached.secs r))) (filter_map (λ q. reached_at q (f q)) ks) ≡ count_by (λ q. t q (f q)) ks → (o : Option ℕ) → f k ≡ o → count_by (λ r. t (Reached.stop r) (Some (Reached.secs r))) (cons_option (reached_at k (f k)) (filter_map (λ q. reached_at q (f q)) ks)) ≡ count_by (λ q. t q (f q)) (k ∷ ks)
    by_secs rest None e =
        let count = sum_by-cons (λ q. cond (t q (f q)) 1 0) k ks in
        let zero_here : one_if (t k (f k)) ≡ 0 = ap (λ o. one_if (t k o)) e ∙ ap one_if (none k) in
        ap (λ o. count_by (λ r. t (Reached.stop r) (Some (Reached.secs r))) (cons_option (reached_at k o) (filter_map (λ q. reached_at q (f q)) ks))) e
        ∙ (rest ∙ (let n : count_by (λ q. t q (f q)) ks ≡ count_by (λ q. t q (f q)) (k ∷ ks) = omega (arith, count, zero_here) in n))
    by_secs rest (Some s) e =
        let count = sum_by-cons (λ q. cond (t q (f q)) 1 0) k ks in
        let counted = sum_by-cons (λ r. cond (t (Reached.stop r) (Some (Reached.secs r))) 1 0) (record { stop = k; secs = s }) (filter_map (λ q. reached_at q (f q)) ks) in
        let here : one_if (t k (f k)) ≡ one_if (t k (Some s)) = ap (λ o. one_if (t k o)) e in
        ap (λ o. count_by (λ r. t (Reached.stop r) (Some (Reached.secs r))) (cons_option (reached_at k o) (filter_map (λ q. reached_at q (f q)) ks))) e
        ∙ (let n : count_by (λ r. t (Reached.stop r) (Some (Reached.secs r))) (record { stop = k; secs = s } ∷ filter_map (λ q. reached_at q (f q)) ks) ≡ count_by (λ q. t q (f q)) (k ∷ ks) = omega (arith, count, counted, here, rest) in n)

pub reached_length : (f : ℕ → Option ℕ) (ks : List ℕ) → length (filter_map (λ q. reached_at q (f q)) ks) ≤ length ks
reached_length f [] = omega arith
reached_length f (k ∷ ks) = by_secs (reached_length f ks) (f k) refl
  where
    by_secs : length (filter_map (λ q. reached_at q (f q)) ks) ≤ length ks → (o : Option ℕ) → f k ≡ o → length (cons_option (reached_at k (f k)) (filter_map (λ q. reached_at q (f q)) ks)) ≤ length (k ∷ ks)
    by_secs rest None e = rw e (omega (arith, rest))
    by_secs rest (Some s) e = rw e (omega (arith, rest))

-- the first stop in a range that is more than a day away
pub record IsFirstIn (f : ℕ → Option ℕ) (a q : ℕ) : Type 0 where
  pub far : IsSomeAnd (f q) (λ secs. 86400 < secs)
  pub earlier : (b : ℕ) → a ≤ b → b < q → IfSome (f b) (λ secs. secs ≤ 86400)

pub far_range : (f : ℕ → Option ℕ) (k a : ℕ)
    → MatchOption (option_map Reached.stop (find (λ r. nat_lt 86400 (Reached.secs r)) (filter_map (λ q. reached_at q (f q)) (range_with_len a k)))) ((b : ℕ) → a ≤ b → b < a + k → IfSome (f b) (λ secs. secs ≤ 86400)) (IsFirstIn f a)
far_range f zero a = λ b low high. absurd (omega (arith, low, high))
far_range f (suc k) a = by_secs (far_range f k (a + 1)) (f a) refl
  where
    on : IfSome (f a) (λ secs. secs ≤ 86400) → (o : Option ℕ) → MatchOption o ((b : ℕ) → a + 1 ≤ b → b < a + 1 + k → IfSome (f b) (λ secs. secs ≤ 86400)) (IsFirstIn f (a + 1)) → MatchOption o ((b : ℕ) → a ≤ b → b < a + suc k → IfSome (f b) (λ secs. secs ≤ 86400)) (IsFirstIn f a)
    on near None h = λ b low high. elim (cases_lt a b) [ inl l ↦ h b (omega (arith, l)) (omega (arith, high)) | inr l ↦ (let same : a ≡ b = omega (arith, l, low) in subst (λ b. IfSome (f b) (λ secs. secs ≤ 86400)) same near) ]
    on near (Some q) h = record { far = h.far; earlier = λ b low high. elim (cases_lt a b) [ inl l ↦ h.earlier b (omega (arith, l)) high | inr l ↦ (let same : a ≡ b = omega (arith, l, low) in subst (λ b. IfSome (f b) (λ secs. secs ≤ 86400)) same near) ] }

    by_secs : MatchOption (option_map Reached.stop (find (λ r. nat_lt 86400 (Reached.secs r)) (filter_map (λ q. reached_at q (f q)) (range_with_len (a + 1) k)))) ((b : ℕ) → a + 1 ≤ b → b < a + 1 + k → IfSome (f b) (λ secs. secs ≤ 86400)) (IsFirstIn f (a + 1))
        → (o : Option ℕ) → f a ≡ o
        → MatchOption (option_map Reached.stop (find (λ r. nat_lt 86400 (Reached.secs r)) (cons_option (reached_at a (f a)) (filter_map (λ q. reached_at q (f q)) (range_with_len (a + 1) k))))) ((b : ℕ) → a ≤ b → b < a + suc k → IfSome (f b) (λ secs. secs ≤ 86400)) (IsFirstIn f a)
    by_secs rest None e = rw e (on (rw e tt) _ rest)
    by_secs rest (Some s) e = elim (cases_Bool (nat_lt 86400 s)) [
      | inl t ↦ (let l : 86400 < s = grind (arith, nat_tests, t) in rw (e, t) (record { far = rw e l; earlier = λ b low high. absurd (omega (arith, low, high)) }))
      | inr n ↦ (let l : s ≤ 86400 = grind (arith, nat_tests, n) in rw (e, n) (on (rw e l) _ rest))
    ]

pub find_here : {X : Type 0} (p : X → Bool) (xs : List X) (i : ℕ) (x : X) → i < length xs → x ≡ get_or xs i x → p x ≡ true → find p (drop i xs) ≡ Some x
find_here p xs i x h at passes =
    let parts : drop i xs ≡ get_or xs i x ∷ drop (suc i) xs = drop-cons xs i x h in
    let passes_there : p (get_or xs i x) ≡ true = ap p (sym at) ∙ passes in
    ap (find p) parts ∙ ap (λ b. cond b (Some (get_or xs i x)) (find p (drop (suc i) xs))) passes_there ∙ ap (λ y. Some y) (sym at)

-- a stop that was reached has its seconds
pub reached_secs : (f : ℕ → Option ℕ) (ks : List ℕ) → All (λ r. f (Reached.stop r) ≡ Some (Reached.secs r)) (filter_map (λ q. reached_at q (f q)) ks)
reached_secs f [] = All-nil (λ r. f (Reached.stop r) ≡ Some (Reached.secs r))
reached_secs f (k ∷ ks) = by_secs (reached_secs f ks) (f k) refl
  where
    by_secs : All (λ r. f (Reached.stop r) ≡ Some (Reached.secs r)) (filter_map (λ q. reached_at q (f q)) ks) → (o : Option ℕ) → f k ≡ o → All (λ r. f (Reached.stop r) ≡ Some (Reached.secs r)) (cons_option (reached_at k (f k)) (filter_map (λ q. reached_at q (f q)) ks))
    by_secs rest None e = rw e rest
    by_secs rest (Some s) e = subst (λ o. All (λ r. f (Reached.stop r) ≡ Some (Reached.secs r)) (cons_option (reached_at k o) (filter_map (λ q. reached_at q (f q)) ks))) (sym e) (All-cons (λ r. f (Reached.stop r) ≡ Some (Reached.secs r)) (record { stop = k; secs = s }) (filter_map (λ q. reached_at q (f q)) ks) e rest)
