use Rattle.tb_base.specs.Transfers.{kept_hops}
use Rattle.tb_laws.proofs.KeptLaws.{kept_hops_sufficient}
use Rattle.reduce_workers.proofs.KeptSets.{are_rows}
use Rattle.reduce_workers.proofs.laws.kept_rows.Goals as goal

pub returns : goal.returns
returns c T lines sound divided = are_rows T (kept_hops T lines) (kept_hops_sufficient T lines sound divided)
