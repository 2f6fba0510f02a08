-- What stands in a list stands in a longer one.
use Rattle.std.proofs.Common.{◌≡◌, ℕ, zero, suc, List, [], ◌∷◌, ◌++◌, drop, length, sym, subst}
use Rattle.std.specs.Prelude.{slice_get, Some}
use Rattle.history.specs.Lists.{StartsWith}
use Rattle.history.proofs.Lists.{rest_of}

get_append : {A : Type 0} (xs zs : List A) (i : ℕ) (x : A) → slice_get xs i ≡ Some x → slice_get (xs ++ zs) i ≡ Some x
get_append [] zs i x h = absurd (cc h)
get_append (y ∷ xs) zs zero x h = h
get_append (y ∷ xs) zs (suc i) x h = get_append xs zs i x h

pub starts_get : {A : Type 0} (ys xs : List A) (i : ℕ) (x : A) → StartsWith ys xs → slice_get xs i ≡ Some x → slice_get ys i ≡ Some x
starts_get ys xs i x s h = subst (λ l. slice_get l i ≡ Some x) (sym (rest_of ys xs s)) (get_append xs (drop (length xs) ys) i x h)
