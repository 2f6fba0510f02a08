-- Each trip stands at one place of the lines, so its own line is told by the places.
use Rattle.std.proofs.Common.{◌≡◌, ◌≢◌, ◌∙◌, sym, ap, subst, refl, ℕ, zero, suc, ◌⊎◌, inl, inr, Bool, true, false, cond, ◌==◌, ◌&&◌, ◌||◌, List, [], ◌∷◌, ◌++◌, get_or, drop, Some, arith}
use Rattle.std.specs.Prelude.{AllPairs, slice_get, nat_le}
use Rattle.std.specs.List.{concat, list_any}
use Rattle.std.proofs.lemmas.Bool.{cases_eq, ne_eqb, eq-eqb}
use Rattle.tb_base.specs.Lines.{AreDividedInto}
use Rattle.tb_base.specs.TimetableData.{TimetableData}
use Rattle.tb_base.specs.Transfers.{is_own_line_onward, line_from}
use Rattle.tb_base.proofs.Ordered.{Member, Contains-from_Member, AllPairs-head, AllPairs-tail}
use Rattle.tb_base.proofs.Members.{Member-left, Member-right, Member-from_slice_get, Member-concat_at}
use Rattle.line_split.specs.LinesOf.{StandsAt}

-- no number stands twice
abbrev Differ : List ℕ → Type 0
Differ [] = Unit {0}
Differ (x ∷ xs) = (Member x xs → ⊥) × Differ xs

Differ-from_AllPairs : (xs : List ℕ) → AllPairs (λ t u. t ≢ u) xs → Differ xs
Differ-from_AllPairs [] p = tt
Differ-from_AllPairs (x ∷ xs) p = (λ m. AllPairs-head (λ t u. t ≢ u) x xs p x (Contains-from_Member x xs m) refl, Differ-from_AllPairs xs (AllPairs-tail (λ t u. t ≢ u) x xs p))

Differ-left : (xs ys : List ℕ) → Differ (xs ++ ys) → Differ xs
Differ-left [] ys d = tt
Differ-left (x ∷ xs) ys d = (λ m. d.0 (Member-left x xs ys m), Differ-left xs ys d.1)

Differ-right : (xs ys : List ℕ) → Differ (xs ++ ys) → Differ ys
Differ-right [] ys d = d
Differ-right (x ∷ xs) ys d = Differ-right xs ys d.1

Differ-apart : (xs ys : List ℕ) → Differ (xs ++ ys) → (t : ℕ) → Member t xs → Member t ys → ⊥
Differ-apart [] ys d t m n = m
Differ-apart (x ∷ xs) ys d t (inl e) n = d.0 (Member-right x xs ys (subst (λ u. Member u ys) (sym e) n))
Differ-apart (x ∷ xs) ys d t (inr m) n = Differ-apart xs ys d.1 t m n

one_place : (xs : List ℕ) → Differ xs → (j k t : ℕ) → slice_get xs j ≡ Some t → slice_get xs k ≡ Some t → j ≡ k
one_place [] d j k t g h = cc
one_place (x ∷ xs) d zero zero t g h = refl
one_place (x ∷ xs) d zero (suc k) t g h = let e : t ≡ x = cc in absurd (d.0 (subst (λ u. Member u xs) e (Member-from_slice_get xs k t h)))
one_place (x ∷ xs) d (suc j) zero t g h = let e : t ≡ x = cc in absurd (d.0 (subst (λ u. Member u xs) e (Member-from_slice_get xs j t g)))
one_place (x ∷ xs) d (suc j) (suc k) t g h = ap (λ n. suc n) (one_place xs d.1 j k t g h)

one_line : (lines : List (List ℕ)) → Differ (concat lines) → (l m j k t : ℕ) → slice_get (get_or lines l []) j ≡ Some t → slice_get (get_or lines m []) k ≡ Some t → l ≡ m
one_line [] d l m j k t g h = cc
one_line (line ∷ lines) d zero zero j k t g h = refl
one_line (line ∷ lines) d zero (suc m) j k t g h = absurd (Differ-apart line (concat lines) d t (Member-from_slice_get line j t g) (Member-concat_at lines m k t h))
one_line (line ∷ lines) d (suc l) zero j k t g h = absurd (Differ-apart line (concat lines) d t (Member-from_slice_get line k t h) (Member-concat_at lines l j t g))
one_line (line ∷ lines) d (suc l) (suc m) j k t g h = ap (λ n. suc n) (one_line lines (Differ-right line (concat lines) d) l m j k t g h)

line_differs : (lines : List (List ℕ)) → Differ (concat lines) → (l : ℕ) → Differ (get_or lines l [])
line_differs [] d l = tt
line_differs (line ∷ lines) d zero = Differ-left line (concat lines) d
line_differs (line ∷ lines) d (suc l) = line_differs lines (Differ-right line (concat lines) d) l

-- ---- the part of a line from a trip on

line_from-absent : (t : ℕ) (xs : List ℕ) → (Member t xs → ⊥) → line_from t xs ≡ []
line_from-absent t [] out = refl
line_from-absent t (x ∷ xs) out = ap (λ b. cond b (x ∷ xs) (line_from t xs)) (ne_eqb x t (λ e. out (inl e))) ∙ line_from-absent t xs (λ m. out (inr m))

line_from-at : (t : ℕ) (xs : List ℕ) (k : ℕ) → Differ xs → slice_get xs k ≡ Some t → line_from t xs ≡ drop k xs
line_from-at t [] k d h = cc
line_from-at t (x ∷ xs) zero d h = ap (λ b. cond b (x ∷ xs) (line_from t xs)) (eq-eqb x t (cc))
line_from-at t (x ∷ xs) (suc k) d h =
    ap (λ b. cond b (x ∷ xs) (line_from t xs)) (ne_eqb x t (λ e. d.0 (subst (λ u. Member u xs) (sym e) (Member-from_slice_get xs k t h)))) ∙ line_from-at t xs k d.1 h

any-absent : (u : ℕ) (xs : List ℕ) → (Member u xs → ⊥) → list_any (λ x. x == u) xs ≡ false
any-absent u [] out = refl
any-absent u (x ∷ xs) out = ap (λ b. b || list_any (λ y. y == u) xs) (ne_eqb x u (λ e. out (inl e))) ∙ any-absent u xs (λ m. out (inr m))

any-at : (u : ℕ) (xs : List ℕ) (k : ℕ) → slice_get xs k ≡ Some u → list_any (λ x. x == u) xs ≡ true
any-at u [] k h = cc
any-at u (x ∷ xs) zero h = ap (λ b. b || list_any (λ y. y == u) xs) (eq-eqb x u (cc))
any-at u (x ∷ xs) (suc k) h = ap (λ b. (x == u) || b) (any-at u xs k h) ∙ or_true (x == u)
  where
    or_true : (b : Bool) → (b || true) ≡ true
    or_true true = refl
    or_true false = refl

any-drop : (u : ℕ) (xs : List ℕ) (k m : ℕ) → Differ xs → slice_get xs m ≡ Some u → list_any (λ x. x == u) (drop k xs) ≡ nat_le k m
any-drop u xs zero m d h = any-at u xs m h ∙ zero_le m
  where
    zero_le : (m : ℕ) → true ≡ nat_le 0 m
    zero_le m = grind arith
any-drop u [] (suc k) m d h = cc
any-drop u (x ∷ xs) (suc k) zero d h = any-absent u (drop k xs) (λ n. d.0 (subst (λ v. Member v xs) (cc) (in_drop k xs n))) ∙ not_le k
  where
    in_drop : (k : ℕ) (ys : List ℕ) → Member u (drop k ys) → Member u ys
    in_drop zero ys n = n
    in_drop (suc k) [] n = n
    in_drop (suc k) (y ∷ ys) n = inr (in_drop k ys n)

    not_le : (k : ℕ) → false ≡ nat_le (suc k) 0
    not_le k = grind arith
any-drop u (x ∷ xs) (suc k) (suc m) d h = any-drop u xs k m d.1 h ∙ both k m
  where
    both : (k m : ℕ) → nat_le k m ≡ nat_le (suc k) (suc m)
    both k m = grind arith

and_swap : (a b c : Bool) → ((a && b) && c) ≡ ((a && c) && b)
and_swap true true true = refl
and_swap true true false = refl
and_swap true false true = refl
and_swap true false false = refl
and_swap false b c = refl

placed_at : (xs : List ℕ) (t : ℕ) → Member t xs → (k : ℕ) × (slice_get xs k ≡ Some t)
placed_at [] t m = absurd m
placed_at (x ∷ xs) t (inl e) = (0, ap (λ v. Some v) e)
placed_at (x ∷ xs) t (inr m) = let r = placed_at xs t m in (suc r.0, r.1)

-- whether u, a trip of line n, is t or stands after it on its own line is told by the places of
-- both
pub own_line : (T : TimetableData) (lines : List (List ℕ)) → AreDividedInto T lines → (t i u j l p n k : ℕ) (place : ℕ × ℕ) → StandsAt lines t (l, p) → StandsAt lines u place → slice_get (get_or lines n []) k ≡ Some u →
    is_own_line_onward (get_or lines n []) t i u j ≡ ((n == l) && nat_le i j && nat_le p place.1)
own_line T lines divided t i u j l p n k place g h on_line = by_case (cases_eq n l)
  where
    differ : Differ (concat lines)
    differ = Differ-from_AllPairs (concat lines) divided.once

    here : n ≡ place.0
    here = one_line lines differ n place.0 k place.1 u on_line h

    on_n : slice_get (get_or lines n []) place.1 ≡ Some u
    on_n = subst (λ m. slice_get (get_or lines m []) place.1 ≡ Some u) (sym here) h

    by_case : (n ≡ l) ⊎ (n ≡ l → ⊥) → is_own_line_onward (get_or lines n []) t i u j ≡ ((n == l) && nat_le i j && nat_le p place.1)
    by_case (inl is) =
        let there : slice_get (get_or lines n []) p ≡ Some t = subst (λ m. slice_get (get_or lines m []) p ≡ Some t) (sym is) g in
        let from : line_from t (get_or lines n []) ≡ drop p (get_or lines n []) = line_from-at t (get_or lines n []) p (line_differs lines differ n) there in
        ap (λ xs. list_any (λ x. x == u) xs && nat_le i j) from
        ∙ ap (λ b. b && nat_le i j) (any-drop u (get_or lines n []) p place.1 (line_differs lines differ n) on_n)
        ∙ and_swap true (nat_le p place.1) (nat_le i j) ∙ ap (λ b. b && nat_le i j && nat_le p place.1) (sym (eq-eqb n l is))
    by_case (inr apart) =
        ap (λ xs. list_any (λ x. x == u) xs && nat_le i j)
        (line_from-absent t (get_or lines n []) (λ m. let r = placed_at (get_or lines n []) t m in apart (one_line lines differ n l r.0 p t r.1 g)))
        ∙ ap (λ b. b && nat_le i j && nat_le p place.1) (sym (ne_eqb n l apart))
