-- What holds where a call succeeds.
use Rattle.std.proofs.Common.{◌≡◌, sym, subst, Ok, Err, Result}
use Rattle.std.specs.Prelude.{OnOk}

pub on_ok_subst : {A E X : Type 0} (r : Result A E) (P : X → Type 0) (x y : X) → OnOk r (x ≡ y) → P y → OnOk r (P x)
on_ok_subst (Ok a) P x y h p = subst P (sym h) p
on_ok_subst (Err e) P x y h p = tt

pub on_ok_then : {A E X Y : Type 0} (r : Result A E) → (X → Y) → OnOk r X → OnOk r Y
on_ok_then (Ok a) f x = f x
on_ok_then (Err e) f x = tt
