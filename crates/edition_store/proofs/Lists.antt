-- The longer of two beginnings of one history.
use Rattle.std.proofs.Common.{◌≡◌, ◌+◌, ◌-◌, ◌<◌, ◌≤◌, suc, drop, length-append, ◌⊎◌, List, [], ◌∷◌, ◌++◌, Bool, true, false, length, refl, sym, ap, subst, ◌∙◌, inl, inr, if◌then◌else◌, ◌||◌, arith}
use Rattle.std.specs.Prelude.{nat_lt, slice_get, Some, MatchBool, Result, Ok, Err, MatchResult}
use Rattle.std.specs.Result.{is_err}
use Rattle.std.proofs.Common.{fold}
use Rattle.std.proofs.lemmas.List.{length-take, take_all}
use Rattle.std.proofs.lemmas.Bool.{false≢true}
use Rattle.std.proofs.lemmas.Bool.Decides.{nat_tests}
use Rattle.history.specs.Lists.{Shown, StartsWith, Extends}
use Rattle.edition_store.specs.Lists.{is_longer, longer}
use Rattle.history.proofs.Lists.{rest_of, starts_self, starts_more, extends_self, extends_open}

module _ {A : Type 0} where
  pub extends_longer : (z v w : Shown A) → Extends z v → Extends z w → Extends z (longer v w)
  extends_longer z v w h i = cases (is_longer w v) where
    cases : (b : Bool) → Extends z (if b then w else v)
    cases true = i
    cases false = h

  pub starts_length : (xs ys : List A) → StartsWith xs ys → length ys ≤ length xs
  starts_length xs ys h = omega (arith, length-take (length ys) xs, sym (ap length h))

  open_same : (x y : Shown A) → x.closed ≡ false → y.closed ≡ false → x.list ≡ y.list → x ≡ y
  open_same x y o p e = λ i. record { list = e i; closed = (o ∙ sym p) i }

  -- of two lists one of which extends the other the longer one extends the other
  pub chooses : (x y : Shown A) → Extends x y ⊎ Extends y x → (b : Bool) → is_longer y x ≡ b → MatchBool b (Extends y x) (Extends x y)
  chooses x y (inr h) true is = h
  chooses x y (inl h) false is = h
  chooses x y (inl h) true is = by_mark y.closed refl where
    by_mark : (c : Bool) → y.closed ≡ c → Extends y x
    by_mark true m = subst (λ (z : Shown A). Extends y z) (sym (h.1 m)) (extends_self y)
    by_mark false m = let lt : length x.list < length y.list = less m in absurd (let le = starts_length x.list y.list h.0 in omega arith)
      where
        less : y.closed ≡ false → length x.list < length y.list
        less m' = let t : nat_lt (length x.list) (length y.list) ≡ true = sym (ap (λ (d : Bool). d || nat_lt (length x.list) (length y.list)) m') ∙ is in grind (arith, nat_tests)
  chooses x y (inr h) false is = by_mark y.closed refl where
    by_mark : (c : Bool) → y.closed ≡ c → Extends x y
    by_mark true m = absurd (false≢true (sym is ∙ ap (λ (d : Bool). d || nat_lt (length x.list) (length y.list)) m))
    by_mark false m = by_other x.closed refl where
      at_most : nat_lt (length x.list) (length y.list) ≡ false → length y.list ≤ length x.list
      at_most t = grind (arith, nat_tests)

      by_other : (c : Bool) → x.closed ≡ c → Extends x y
      by_other true n = subst (λ (z : Shown A). Extends z y) (h.1 n) (extends_self y)
      by_other false n = let le = at_most (sym (ap (λ (d : Bool). d || nat_lt (length x.list) (length y.list)) m) ∙ is) in
          let same : y.list ≡ x.list = sym (take_all (length x.list) y.list le) ∙ h.0 in
          subst (λ (z : Shown A). Extends z y) (open_same y x m n same) (extends_self y)

  -- an open list is extended by one more edition, and by its end
  pub one_more : (s : Shown A) (x : A) → s.closed ≡ false → Extends (record { list = s.list ++ x ∷ []; closed = false }) s
  one_more s x o = extends_open s _ o (starts_more s.list (x ∷ []))

  pub closing : (s : Shown A) → s.closed ≡ false → Extends (record { list = s.list; closed = true }) s
  closing s o = extends_open s _ o (starts_self s.list)

pub kept_ok : {U E P : Type 0} (Q : E → Type 0) (r : Result U E) → false ≡ is_err r → MatchResult r (λ _. P) Q → P
kept_ok Q (Ok u) n h = h
kept_ok Q (Err e) n h = absurd (false≢true n)

pub kept_err : {U E Q : Type 0} (P : U → Type 0) (r : Result U E) → true ≡ is_err r → MatchResult r P (λ _. Q) → Q
kept_err P (Ok u) n h = absurd (false≢true (sym n))
kept_err P (Err e) n h = h

-- of contents that replace one another the last one stays
pub last_stays : {A : Type 0} (xs : List A) (s x : A) → fold (λ (_ : A) (y : A). y) s (xs ++ x ∷ []) ≡ x
last_stays [] s x = refl
last_stays (y ∷ xs) s x = last_stays xs y x

pub last_as : {A : Type 0} (xs : List A) (s x : A) (pending : List A) → pending ≡ xs ++ x ∷ [] → fold (λ (_ : A) (y : A). y) s pending ≡ x
last_as {A = A} xs s x pending e = subst (λ (l : List A). fold (λ (_ : A) (y : A). y) s l ≡ x) (sym e) (last_stays xs s x)

last_of_more : {A : Type 0} (xs rest : List A) (x : A) → length rest ≡ 1 → slice_get (xs ++ rest) (length xs + 1 - 1) ≡ Some x → rest ≡ x ∷ []
last_of_more [] [] x one e = absurd (omega (arith, one))
last_of_more [] (y ∷ []) x one e = cc e
last_of_more [] (y ∷ z ∷ rest) x one e = absurd (omega (arith, one))
last_of_more (w ∷ xs) rest x one e =
    let n : length (w ∷ xs) + 1 - 1 ≡ suc (length xs + 1 - 1) = omega arith in
    last_of_more xs rest x one (subst (λ i. slice_get ((w ∷ xs) ++ rest) i ≡ Some x) n e)

-- a list of one edition is its last one
pub one_is : {A : Type 0} (xs : List A) (x : A) → length xs ≡ 1 → slice_get xs (length xs - 1) ≡ Some x → x ∷ [] ≡ xs
one_is xs x one e = sym (last_of_more [] xs x one (subst (λ k. slice_get xs (k - 1) ≡ Some x) one e))

-- of two beginnings of one history, the one that has one edition more is the other one with its last edition
pub next_is : {A : Type 0} (known all : Shown A) (x : A) → Extends known all ⊎ Extends all known → length all.list ≡ length known.list + 1 → slice_get all.list (length all.list - 1) ≡ Some x → known.list ++ x ∷ [] ≡ all.list
next_is known all x (inl h) n e = absurd (let le = starts_length known.list all.list h.0 in omega (arith, le, n))
next_is known all x (inr h) n e =
    let rest = drop (length known.list) all.list in
    let is : all.list ≡ known.list ++ rest = rest_of all.list known.list h.0 in
    let one : length rest ≡ 1 = omega (arith, n, ap length is, length-append known.list rest) in
    let at : slice_get (known.list ++ rest) (length known.list + 1 - 1) ≡ Some x = subst (λ l. slice_get l (length known.list + 1 - 1) ≡ Some x) is (subst (λ k. slice_get all.list (k - 1) ≡ Some x) n e) in
    sym (is ∙ ap (λ l. known.list ++ l) (last_of_more known.list rest x one at))
