-- One number for each stop: the least that earlier alternatives offer there.
use Rattle.std.specs.Prelude.{ℕ, ℤ, List, [], ◌∷◌, Option, Some, None, int_le, if◌then◌else◌}
use Rattle.tb_base.specs.declared.table.Event.{Event}
use Rattle.tb_base.specs.Transfers.{earliest_offer}

-- the lesser of two times, where there are any
abbrev pub lesser : Option ℤ → Option ℤ → Option ℤ
lesser None b = b
lesser (Some x) None = Some x
lesser (Some x) (Some y) = if int_le x y then Some x else Some y

-- the least that some alternatives offer
abbrev pub label : (ℕ → ℕ → Option ℕ) → List (List Event) → ℕ → Option ℤ
label secs_to [] p = None
label secs_to (es ∷ earlier) p = lesser (earliest_offer secs_to es p) (label secs_to earlier p)
