-- Footpaths by the stop that they lead to.
use Rattle.std.specs.Prelude.{ℕ, zero, suc, ◌==◌, List, [], ◌++◌, filter, map, slice_index_or}
use Rattle.tb_base.specs.declared.table.Path.{Path}

-- of the footpaths that leave p those to q, turned round
abbrev pub turned : ℕ → ℕ → List Path → List Path
turned p q paths = map (λ f. record { to = p; secs = f.secs }) (filter (λ f. f.to == q) paths)

-- the footpaths to q that leave the first n stops, turned round
abbrev pub turned_into : List (List Path) → ℕ → ℕ → List Path
turned_into rows q zero = []
turned_into rows q (suc n) = turned_into rows q n ++ turned n q (slice_index_or rows n [])
