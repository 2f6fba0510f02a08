-- What is made for each number below one more.
use Rattle.std.proofs.Common.{◌≡◌, ◌∙◌, ap, sym, ℕ, suc, ◌+◌, ◌∷◌, ◌++◌, [], List, map, refl, add-one, append_assoc, append-nil}
use Rattle.std.specs.Prelude.{flat_map}
use Rattle.std.proofs.lemmas.List.{map-append}
use Rattle.tb_base.specs.Transfers.{numbers_below}

pub map_next : {A : Type 0} (f : ℕ → A) (n : ℕ) → map f (numbers_below (suc n)) ≡ map f (numbers_below n) ++ f n ∷ []
map_next f n = map-append f (numbers_below n) (n ∷ [])

pub map_more : {A : Type 0} (f : ℕ → A) (n : ℕ) → map f (numbers_below (n + 1)) ≡ map f (numbers_below n) ++ f n ∷ []
map_more f n = rw add-one (map_next f n)

flat_map-append : {A B : Type 0} (f : A → List B) (xs ys : List A) → flat_map f (xs ++ ys) ≡ flat_map f xs ++ flat_map f ys
flat_map-append f [] ys = refl
flat_map-append f (x ∷ xs) ys = ap (λ zs. f x ++ zs) (flat_map-append f xs ys) ∙ sym (append_assoc (f x) (flat_map f xs) (flat_map f ys))

pub flat_map_next : {A : Type 0} (f : ℕ → List A) (n : ℕ) → flat_map f (numbers_below (suc n)) ≡ flat_map f (numbers_below n) ++ f n
flat_map_next f n = flat_map-append f (numbers_below n) (n ∷ []) ∙ ap (λ ys. flat_map f (numbers_below n) ++ ys) (append-nil (f n))

pub flat_map_more : {A : Type 0} (f : ℕ → List A) (n : ℕ) → flat_map f (numbers_below (n + 1)) ≡ flat_map f (numbers_below n) ++ f n
flat_map_more f n = rw add-one (flat_map_next f n)
