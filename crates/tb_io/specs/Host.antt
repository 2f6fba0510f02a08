-- What a file that is open tells.
use Rattle.std.specs.Prelude.{◌≡◌, ℕ, List, Option, Some, IfSome, drop}

-- reading gives a file's bytes from the place on at which it stands
abbrev pub ReadsFrom : Option ℕ → Option (List ℕ) → Option (List ℕ) → Type 0
ReadsFrom place bytes left = IfSome place (λ at. IfSome bytes (λ bs. left ≡ Some (drop at bs)))
