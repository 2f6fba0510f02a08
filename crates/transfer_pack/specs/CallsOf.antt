-- What the reduction and the search read of an event.
use Rattle.std.specs.Prelude.{ℕ, ◌<◌, ◌≤ℤ◌, pos, negsuc, false}
use Rattle.tb_base.specs.declared.table.Event.{Event}
use Rattle.transfer_pack.specs.declared.calls.Call.{Call}

-- the call of an event: its stop, its arrival, and whether one may alight there
abbrev pub call_of : Event → Call
call_of e = record { stop = e.stop; arr = e.arr; alight = e.alight }

-- what stands for a call that doesn't exist
abbrev pub no_call : Call
no_call = record { stop = 0; arr = pos 0; alight = false }

-- at one of the first n stops, within the limits of times
pub record IsSoundCall (n : ℕ) (c : Call) : Type 0 where
  pub stop : c.stop < n
  pub earliest : negsuc 86399 ≤ℤ c.arr
  pub latest : c.arr ≤ℤ pos 359999
