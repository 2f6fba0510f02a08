-- Names that differ.
use Rattle.std.specs.Prelude.{◌≡◌, ℕ, List, AllPairs, bytes_eq, false}

abbrev pub AreDistinct : List (List ℕ) → Type 0
AreDistinct names = AllPairs (λ earlier name. bytes_eq name earlier ≡ false) names
