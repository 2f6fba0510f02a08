use Rattle.std.proofs.Common.{rules}
use Rattle.std.specs.Prelude.{nat_lt}
use Rattle.std.proofs.lemmas.Fn.{filter_same}
use Rattle.earliest_query.proofs.found.drop_walks.Goals as goal

pub returns : goal.returns
returns c = filter_same _ (λ v. nat_lt 0 v.rides) _ (λ x b f' k. search rules) _ _ c.retain.ensures.filtered
