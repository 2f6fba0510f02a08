use Rattle.std.specs.Prelude.{map}
use Rattle.tb_base.proofs.Listing.{AreListed}
use Rattle.tb_base.proofs.rows.Rows.new.Given as goal

abbrev pub invariant-loop-t : goal.invariant-loop-t
invariant-loop-t l = AreListed l.table (map (λ row. row.items) l.rows.items) l.t l.trips.items
