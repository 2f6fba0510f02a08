-- Lists that get one item more.
use Rattle.std.proofs.Common.{◌≡◌, ◌∙◌, ℕ, List, [], ◌∷◌, ◌++◌, length, get_or, refl, ap}

at_end : {X : Type 0} (ys : List X) (y d : X) → get_or (ys ++ y ∷ []) (length ys) d ≡ y
at_end [] y d = refl
at_end (z ∷ ys) y d = at_end ys y d

-- what was put behind a list is its last
pub last_one : {X : Type 0} (xs : List X) (y d : X) (n : ℕ) → n ≡ length xs → get_or (xs ++ y ∷ []) n d ≡ y
last_one xs y d n is = ap (λ m. get_or (xs ++ y ∷ []) m d) is ∙ at_end xs y d
