-- What a taker has taken, before and after one taking.
use Rattle.std.specs.Prelude.{◌≡◌, List, [], ◌∷◌, ◌++◌}
use Rattle.live_turns.specs.declared.taker.Taken.{Taken}
use Rattle.live_turns.specs.declared.taker.Taken.TheVariants.{Next, End, OutOfTurn}

abbrev pub IsTaken : {A : Type 0} → List A → List A → Taken A → Type 0
IsTaken old new (Next x) = new ≡ old ++ x ∷ []
IsTaken old new End = new ≡ old
IsTaken old new OutOfTurn = new ≡ old
