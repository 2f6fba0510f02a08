use Rattle.std.proofs.Common.{◌≡◌, ◌++◌, flat_map, take}
use Rattle.lane_serve.specs.Rows.{quoted_byte}
use Rattle.lane_serve.proofs.rows.add_quoted_bytes.Given as goal

abbrev pub invariant-loop-b : goal.invariant-loop-b
invariant-loop-b l = l.text ≡ l.fn.text ++ flat_map quoted_byte (take l.b-index l.bytes)
