-- What is made of each number below one, and of one more.
use Rattle.std.proofs.Common.{◌≡◌, ◌∙◌, ap, ℕ, ◌+◌, List, [], ◌∷◌, ◌++◌, flat_map, add-one, append-nil}
use Rattle.std.proofs.lemmas.Grind.{flat_map-append}
use Rattle.tb_base.specs.Transfers.{numbers_below}

pub lines_more : (f : ℕ → List ℕ) (n : ℕ) → flat_map f (numbers_below (n + 1)) ≡ flat_map f (numbers_below n) ++ f n
lines_more f n = rw add-one (flat_map-append f (numbers_below n) (n ∷ []) ∙ ap (λ bytes. flat_map f (numbers_below n) ++ bytes) (append-nil (f n)))
