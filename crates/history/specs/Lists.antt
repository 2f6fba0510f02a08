-- What was published, with the mark that nothing comes after, and which list follows which.
use Rattle.std.specs.Prelude.{◌≡◌, List, Bool, true, take, length}

-- what was published so far, and whether nothing comes after it
pub record Shown (A : Type 0) : Type 0 where
  pub list : List A
  pub closed : Bool

abbrev pub StartsWith : {A : Type 0} → List A → List A → Type 0
StartsWith xs seen = take (length seen) xs ≡ seen

-- y begins with all of x, and nothing comes after a closed list
abbrev pub Extends : {A : Type 0} → Shown A → Shown A → Type 0
Extends y x = StartsWith y.list x.list × (x.closed ≡ true → y ≡ x)
