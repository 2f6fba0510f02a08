-- The fields of a record by position.
use Rattle.std.proofs.Common.{◌≡◌, refl, ℕ, zero, suc, List, [], ◌∷◌, get_or}
use Rattle.std.specs.Prelude.{unwrap_or}
use Rattle.csv.specs.Records.{field_at}

pub field_at-or : (fs : List (List ℕ)) (i : ℕ) → unwrap_or (field_at fs i) [] ≡ get_or fs i []
unfolding field_at
field_at-or [] i = refl
field_at-or (f ∷ fs) zero = refl
field_at-or (f ∷ fs) (suc i) = field_at-or fs i
