-- Why a call gives no answer.
use Rattle.std.specs.Prelude.{◌≡◌, Result, Ok, Err, MatchResult, ⊤}
use Rattle.tb_base.specs.declared.refused.Refused.{Refused}
use Rattle.tb_base.specs.declared.refused.Refused.TheVariants as why

-- a fault is the one that is meant, and want of memory says nothing
abbrev pub IsRefused : {A F : Type 0} → Result A F → Refused F → Type 0
IsRefused meant (why.Fault f) = meant ≡ Err f
IsRefused meant why.Memory = ⊤

-- what is answered is what is meant, seen by a view, and a refusal is one of what is meant
abbrev pub Yields : {X Y F : Type 0} → Result X (Refused F) → (X → Y) → Result Y F → Type 0
Yields result view meant = MatchResult result (λ x. meant ≡ Ok (view x)) (IsRefused meant)
