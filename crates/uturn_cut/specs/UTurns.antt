-- U-turns among transfers.
use Rattle.std.specs.Prelude.{Bool, ◌+ℤ◌, pos, int_le, is_some, if◌then◌else◌, Some, None}
use Rattle.std.specs.Option.{option_and_then}
use Rattle.tb_base.specs.declared.table.Event.{Event}
use Rattle.tb_base.specs.declared.transfer.Transfer.{Transfer}
use Rattle.tb_base.specs.TimetableData.{TimetableData}
use Rattle.tb_base.specs.Transfers.{is_u_turn}
use Rattle.tb_base.specs.Walking.{change_time}

-- the transfer is a U-turn
abbrev pub is_u_turn_row : TimetableData → Transfer → Bool
is_u_turn_row T r = is_u_turn T r.trip r.at (record { trip = r.to_trip; at = r.to_at })

-- from the arrival of the first event one can change, within its stop, to the departure of the
-- second
abbrev pub can_change_within : TimetableData → Event → Event → Bool
can_change_within T before after =
    is_some (option_and_then
    (λ secs. if int_le (before.arr +ℤ pos secs) after.dep then Some secs else None)
    (change_time T.footpaths before.stop))
