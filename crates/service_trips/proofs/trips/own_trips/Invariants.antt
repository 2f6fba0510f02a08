use Rattle.std.proofs.Common.{◌≡◌, drop, length, map}
use Rattle.tb_base.specs.declared.days.ServiceDay.TheVariants as day
use Rattle.service_trips.proofs.Rows.{first_trips}
use Rattle.service_trips.proofs.trips.own_trips.Given as goal

abbrev pub invariant-loop-trip : goal.invariant-loop-trip
invariant-loop-trip l = record {
  many : length l.rides.items ≡ length l.rows;
  left : drop l.trip l.rides.items ≡ drop l.trip l.fn.given.items;
  trips : l.trips.items ≡ first_trips day.Date (record { rows = l.rows; rides = map (λ ride. ride.items) l.fn.given.items; frequencies = l.table.rows }) l.runs l.trip;
}
