-- Facts on lists that std has under no name.
use Rattle.std.proofs.Common.{◌≡◌, ◌∙◌, sym, ap, refl, ℕ, zero, suc, ◌<◌, ◌⊎◌, inl, inr, Bool, true, false, cond, ◌||◌, List, [], ◌∷◌, ◌++◌, Some, find, length, get_or, arith}
use Rattle.std.specs.Prelude.{filter, flat_map}
use Rattle.std.specs.List.{list_any}
use Rattle.std.proofs.lemmas.Bool.{or_parts, or_left, or_right}
use Rattle.std.proofs.lemmas.List.{get_or_default}
use Rattle.tb_base.specs.Transfers.{numbers_down}
use Rattle.tb_base.proofs.Ordered.{Member, Member-from_Contains}

-- ---- an element is where it stands

pub Member-get_or : {X : Type 0} (xs : List X) (i : ℕ) (d : X) → i < length xs → Member (get_or xs i d) xs
Member-get_or xs i d inside = Member-from_Contains (get_or xs i d) xs (i, inside, get_or_default xs i (get_or xs i d) d inside)

-- ---- no element passes

pub list_any-none : {X : Type 0} (p : X → Bool) (xs : List X) → list_any p xs ≡ false → (x : X) → Member x xs → p x ≡ false
list_any-none p [] h x m = absurd m
list_any-none p (y ∷ ys) h x (inl e) = ap p (sym e) ∙ (or_parts (p y) (list_any p ys) h).0
list_any-none p (y ∷ ys) h x (inr m) = list_any-none p ys (or_parts (p y) (list_any p ys) h).1 x m

pub list_any-by : {X : Type 0} (p : X → Bool) (xs : List X) (x : X) → Member x xs → p x ≡ true → list_any p xs ≡ true
list_any-by p [] x m h = absurd m
list_any-by p (y ∷ ys) x (inl e) h = or_left (p y) (list_any p ys) (ap p e ∙ h)
list_any-by p (y ∷ ys) x (inr m) h = or_right (p y) (list_any p ys) (list_any-by p ys x m h)

-- ---- two functions that give the same of each element

pub flat_map-same : {X Y : Type 0} (f g : X → List Y) (xs : List X) → ((x : X) → Member x xs → f x ≡ g x) → flat_map f xs ≡ flat_map g xs
flat_map-same f g [] h = refl
flat_map-same f g (x ∷ xs) h = (λ k. h x (inl refl) k ++ flat_map-same f g xs (λ y m. h y (inr m)) k)

pub filter-same : {X : Type 0} (p q : X → Bool) (xs : List X) → ((x : X) → Member x xs → p x ≡ q x) → filter p xs ≡ filter q xs
filter-same p q [] h = refl
filter-same p q (x ∷ xs) h = (λ k. cond (h x (inl refl) k) (x ∷ filter-same p q xs (λ y m. h y (inr m)) k) (filter-same p q xs (λ y m. h y (inr m)) k))

pub find-same : {X : Type 0} (p q : X → Bool) (xs : List X) → ((x : X) → Member x xs → p x ≡ q x) → find p xs ≡ find q xs
find-same p q [] h = refl
find-same p q (x ∷ xs) h = (λ k. cond (h x (inl refl) k) (Some x) (find-same p q xs (λ y m. h y (inr m)) k))

-- ---- numbers

pub last_or_below : (k n : ℕ) → k < suc n → (n ≡ k) ⊎ (k < n)
last_or_below k n h = grind arith

pub Member-numbers_down : (k n : ℕ) → k < n → Member k (numbers_down n)
Member-numbers_down k zero h = absurd (omega arith)
Member-numbers_down k (suc n) h = by_case (λ l. Member-numbers_down k n l) (last_or_below k n h)
  where
    by_case : (k < n → Member k (numbers_down n)) → (n ≡ k) ⊎ (k < n) → (n ≡ k) ⊎ Member k (numbers_down n)
    by_case more (inl e) = inl e
    by_case more (inr l) = inr (more l)

pub Member-numbers_down_back : (k n : ℕ) → Member k (numbers_down n) → k < n
Member-numbers_down_back k zero h = absurd h
Member-numbers_down_back k (suc n) (inl e) = omega (arith, e)
Member-numbers_down_back k (suc n) (inr m) = omega (arith, Member-numbers_down_back k n m)
