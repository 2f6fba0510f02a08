use Rattle.std.proofs.Common.{◌≡◌, ◌-◌, length}
use Rattle.std.specs.Prelude.{filter}
use Rattle.trip_table.specs.LeftFeed.{leave_orphans}
use Rattle.trip_table.specs.Sieves.{after}
use Rattle.trip_table.specs.Turns.{is_there}
use Rattle.trip_table.proofs.left_stops.tell_turns.Given as goal

abbrev pub invariant-loop-turn : goal.invariant-loop-turn
invariant-loop-turn l = after l.fn.told.items (leave_orphans (length l.rows) l.rows) ≡ after l.told.items (leave_orphans (length l.rows - l.turn) (filter (is_there l.rows l.turn) l.rows))
