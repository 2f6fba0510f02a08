use Rattle.std.proofs.Common.{lit≤}
use Rattle.transfer_reduce.proofs.Reaching.{none_tried_yet}
use Rattle.transfer_reduce.proofs.reduction.begin_trip.Goals as goal

pub returns-clause-tried : goal.returns-clause-tried
returns-clause-tried c = none_tried_yet c.args.table.now c.soundness.ensures c.clear.new.self.times 4294967295 1024 (lit≤ tt)
