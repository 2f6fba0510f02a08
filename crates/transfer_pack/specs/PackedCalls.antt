-- Calls in eight bytes.
use Rattle.std.specs.Prelude.{◌/◌, ◌%◌, ◌==◌, List, map}
use Rattle.transfer_pack.specs.declared.calls.Call.{Call}
use Rattle.transfer_pack.specs.declared.packed_call.PackedCall.{PackedCall}

-- the call of a packed one: it has twice the stop's number, and one more where one may alight
abbrev pub spot_call : PackedCall → Call
spot_call s = record { stop = s.stop_twice / 2; arr = s.arr; alight = s.stop_twice % 2 == 1 }

-- the calls that are packed
abbrev pub calls_in : List PackedCall → List Call
calls_in packed = map spot_call packed
