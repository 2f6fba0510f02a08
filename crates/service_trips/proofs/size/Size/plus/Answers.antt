use Rattle.service_trips.proofs.SizeSteps.{both_sizes}
use Rattle.service_trips.proofs.size.Size.plus.Goals as goal

pub returns : goal.returns
returns c = λ xs ys a b. both_sizes xs ys c.args.self c.args.others _ a b c.saturating_add.ensures c.saturating_add-2.ensures
