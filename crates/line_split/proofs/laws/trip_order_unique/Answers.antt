use Rattle.line_split.proofs.OrderLaws.{trip_order_unique}
use Rattle.line_split.proofs.laws.trip_order_unique.Goals as goal

pub returns : goal.returns
returns c = trip_order_unique
