-- The calls of a line at a stop.
use Rattle.std.specs.Prelude.{ℕ, ◌==◌, List, map, filter, slice_index_or}
use Rattle.tb_base.specs.declared.table.Event.{Event}
use Rattle.tb_base.specs.TimetableData.{no_event}
use Rattle.tb_base.specs.Transfers.{numbers_below}
use Rattle.line_split.specs.declared.lines.Berth.{Berth}

-- the calls at stop q among the first n events of a line
abbrev pub calls_of : ℕ → List Event → ℕ → ℕ → List Berth
calls_of line events q n =
    map (λ j. record { line = line; at = j })
    (filter (λ j. (slice_index_or events j no_event).stop == q) (numbers_below n))
