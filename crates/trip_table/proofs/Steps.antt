-- Steps of which each may give a fault.
use Rattle.std.proofs.Common.{◌≡◌, refl}
use Rattle.std.specs.Prelude.{Result, Ok, Err}
use Rattle.gtfs_rows.specs.Steps.{and_then}
use Rattle.gtfs_rows.specs.declared.fault.FeedFault.{FeedFault}

-- a step that gives something, and then the next one
pub stepped : {A B : Type 0} (m : Result A FeedFault) (next : A → Result B FeedFault) (y : B) → and_then m next ≡ Ok y → (x : A) × (m ≡ Ok x) × (next x ≡ Ok y)
stepped (Err f) next y e = absurd (cc)
stepped (Ok x) next y e = (x, refl, e)

pub one_value : {A : Type 0} (x y : A) → (let r : Result A FeedFault = Ok x in r) ≡ Ok y → x ≡ y
one_value x y e = cc
