use Rattle.std.proofs.Common.{rules}
use Rattle.std.specs.Prelude.{nat_lt}
use Rattle.std.proofs.lemmas.Fn.{always_returns_same}
use Rattle.tb_base.specs.declared.table.Path.{Path}
use Rattle.transfer_make.proofs.Sparse.{partitioned, all_below, all_from}
use Rattle.transfer_make.proofs.events.paths_below.Goals as goal

pub returns-clause-below : goal.returns-clause-below
returns-clause-below c =
    all_below c.args.paths.now c.args.stop c.partition_point.result
    (c.partition_point.ensures.partitioned (λ (f : Path). nat_lt f.to c.args.stop) (always_returns_same _ _ _ (λ a r f h. search rules)) (partitioned c.args.paths.now c.args.stop c.requires)).0

pub returns-clause-from : goal.returns-clause-from
returns-clause-from c =
    all_from c.args.paths.now c.args.stop c.partition_point.result
    (c.partition_point.ensures.partitioned (λ (f : Path). nat_lt f.to c.args.stop) (always_returns_same _ _ _ (λ a r f h. search rules)) (partitioned c.args.paths.now c.args.stop c.requires)).1
