-- One name more.
use Rattle.std.proofs.Common.{◌≡◌, ◌∙◌, sym, ap, refl, ℕ, List, [], ◌∷◌, ◌++◌, Bool, true, false, not, ◌||◌, inl, inr}
use Rattle.std.specs.Prelude.{bytes_eq, Result, Ok, Err, IfOk, OnOk, MatchBool}
use Rattle.std.specs.List.{list_any}
use Rattle.std.proofs.lemmas.Bool.{cases_Bool}
use Rattle.std.proofs.lemmas.List.Folds.{list_any-append}
use Rattle.std.proofs.lemmas.Slice.Eq.{bytes_eq-Decides}

or_false : (a b : Bool) → (a || (b || false)) ≡ (a || b)
or_false true b = refl
or_false false true = refl
or_false false false = refl

or_true : (a : Bool) → (a || true) ≡ true
or_true true = refl
or_true false = refl

or_none : (a : Bool) → a ≡ (a || false)
or_none true = refl
or_none false = refl

from_not : (b : Bool) → false ≡ not b → b ≡ true
from_not true e = refl
from_not false e = absurd (let k : false ≡ true = e in cc)

same_names : (name id : List ℕ) → bytes_eq name id ≡ true → name ≡ id
same_names name id t = (bytes_eq-Decides name id).0 t

members_of : (fresh : Bool) (old new : List (List ℕ)) (id name : List ℕ) → MatchBool fresh (new ≡ old ++ id ∷ []) (new ≡ old) → fresh ≡ not (list_any (bytes_eq id) old)
    → list_any (bytes_eq name) new ≡ (list_any (bytes_eq name) old || bytes_eq name id)
members_of true old new id name h f = rw h (list_any-append (bytes_eq name) old (id ∷ []) ∙ or_false (list_any (bytes_eq name) old) (bytes_eq name id))
members_of false old new id name h f =
    elim (cases_Bool (bytes_eq name id)) [
      | inl t ↦
          let e = same_names name id t in
          let there : list_any (bytes_eq name) old ≡ true = ap (λ (x : List ℕ). list_any (bytes_eq x) old) e ∙ from_not (list_any (bytes_eq id) old) f in
          rw (t, h) (there ∙ sym (or_true (list_any (bytes_eq name) old)))
      | inr n ↦ rw (n, h) (or_none (list_any (bytes_eq name) old))
    ]

pub members : {E : Type 0} (r : Result Bool E) (old new : List (List ℕ)) (id : List ℕ) → IfOk r (λ fresh. MatchBool fresh (new ≡ old ++ id ∷ []) (new ≡ old)) → IfOk r (λ fresh. fresh ≡ not (list_any (bytes_eq id) old))
    → OnOk r ((name : List ℕ) → list_any (bytes_eq name) new ≡ (list_any (bytes_eq name) old || bytes_eq name id))
members (Ok fresh) old new id h f = λ name. members_of fresh old new id name h f
members (Err e) old new id h f = tt

-- a name that wasn't there goes behind the others
pub only_added : (fresh : Bool) (old new : List (List ℕ)) (id : List ℕ) → list_any (bytes_eq id) old ≡ false → MatchBool fresh (new ≡ old ++ id ∷ []) (new ≡ old) → fresh ≡ not (list_any (bytes_eq id) old) → new ≡ old ++ id ∷ []
only_added true old new id none h f = h
only_added false old new id none h f = absurd (let k : false ≡ true = f ∙ ap not none in cc)
