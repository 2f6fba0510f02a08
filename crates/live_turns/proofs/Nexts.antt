-- The thing that comes next, by its number.
use Rattle.std.proofs.Common.{◌≡◌, ◌∙◌, refl, ap, sym, subst, suc, ◌+◌, ◌-◌, ◌≤◌, List, [], ◌∷◌, ◌++◌, length, drop, ◌⊎◌, inl, inr, arith}
use Rattle.std.specs.Prelude.{slice_get, Some}
use Rattle.std.proofs.lemmas.List.{length-take, length-append, take_all}
use Rattle.history.specs.Lists.{Shown, Extends, StartsWith}
use Rattle.history.proofs.Lists.{rest_of}

module _ {A : Type 0} where
  pub starts_length : (ys xs : List A) → StartsWith ys xs → length xs ≤ length ys
  starts_length ys xs h = omega (arith, length-take (length xs) ys, sym (ap length h))

  last_of_more : (xs rest : List A) (x : A) → length rest ≡ 1 → slice_get (xs ++ rest) (length xs + 1 - 1) ≡ Some x → rest ≡ x ∷ []
  last_of_more [] [] x one e = absurd (omega (arith, one))
  last_of_more [] (y ∷ []) x one e = cc e
  last_of_more [] (y ∷ z ∷ rest) x one e = absurd (omega (arith, one))
  last_of_more (w ∷ xs) rest x one e =
      let n : length (w ∷ xs) + 1 - 1 ≡ suc (length xs + 1 - 1) = omega arith in
      last_of_more xs rest x one (subst (λ i. slice_get ((w ∷ xs) ++ rest) i ≡ Some x) n e)

  -- of two beginnings of one history, the one that has one thing more is the other one with its last thing
  pub next_is : (known all : Shown A) (x : A) → Extends known all ⊎ Extends all known → length all.list ≡ length known.list + 1 → slice_get all.list (length all.list - 1) ≡ Some x → all.list ≡ known.list ++ x ∷ []
  next_is known all x (inl h) n e = absurd (let le = starts_length known.list all.list h.0 in omega (arith, le, n))
  next_is known all x (inr h) n e =
      let rest = drop (length known.list) all.list in
      let is : all.list ≡ known.list ++ rest = rest_of all.list known.list h.0 in
      let one : length rest ≡ 1 = omega (arith, n, ap length is, length-append known.list rest) in
      let at : slice_get (known.list ++ rest) (length known.list + 1 - 1) ≡ Some x = subst (λ l. slice_get l (length known.list + 1 - 1) ≡ Some x) is (subst (λ k. slice_get all.list (k - 1) ≡ Some x) n e) in
      is ∙ ap (λ l. known.list ++ l) (last_of_more known.list rest x one at)

  -- a beginning that is as long as the whole is the whole
  pub whole_is : (all known : Shown A) → Extends all known → length all.list ≡ length known.list → known.list ≡ all.list
  whole_is all known h n = sym h.0 ∙ take_all (length known.list) all.list (omega (arith, n))

  pub last_at : (xs : List A) (x : A) → slice_get (xs ++ x ∷ []) (length (xs ++ x ∷ []) - 1) ≡ Some x
  last_at xs x = let n : length (xs ++ x ∷ []) - 1 ≡ length xs = omega (arith, length-append xs (x ∷ [])) in subst (λ i. slice_get (xs ++ x ∷ []) i ≡ Some x) (sym n) (here xs x) where
    here : (ys : List A) (y : A) → slice_get (ys ++ y ∷ []) (length ys) ≡ Some y
    here [] y = refl
    here (z ∷ ys) y = here ys y
