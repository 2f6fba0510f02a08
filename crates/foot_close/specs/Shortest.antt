-- The closure as a function: the stops on the way are let in one after another.
use Rattle.std.specs.Prelude.{ℕ, zero, suc, ◌+◌, Option, None, Some, option_map, option_and_then, min, length}
use Rattle.footpaths.specs.Footpaths.{Changes}
use Rattle.tb_base.specs.TimetableData.{FootpathData}
use Rattle.tb_base.specs.Walking.{change_between}

-- of two that may be there the lesser
abbrev pub lesser : Option ℕ → Option ℕ → Option ℕ
lesser None b = b
lesser (Some a) None = Some a
lesser (Some a) (Some b) = Some (min a b)

-- one after the other
abbrev pub both : Option ℕ → Option ℕ → Option ℕ
both a b = option_and_then (λ s. option_map (λ t. s + t) b) a

-- the seconds of the shortest chain whose stops on the way are among the first k
abbrev pub shortest_over : ℕ → Changes → Changes
shortest_over zero given p r = given p r
shortest_over (suc k) given p r =
    lesser (shortest_over k given p r)
    (both (shortest_over k given p k) (shortest_over k given k r))

-- the closure of change times and footpaths: all their stops may be on the way
abbrev pub closure_of : FootpathData → Changes
closure_of P = shortest_over (length P.change) (change_between P)
