use Rattle.tb_base.proofs.Lists.{row_added}
use Rattle.tb_base.proofs.Nested.{row_kept}
use Rattle.footpaths.proofs.path_rows.push_to.Goals as goal

pub returns-in-Ok-clause-added : goal.returns-in-Ok-clause-added
returns-in-Ok-clause-added c = row_added (λ v. v.items) c.args.rows.now.items c.args.from c.index_mut-row.result.now c.push.new.self c.args.path c.requires c.index_mut-row.ensures.value c.in-Ok.ensures.items

pub returns-in-Err-clause-memory : goal.returns-in-Err-clause-memory
returns-in-Err-clause-memory c = row_kept (λ v. v.items) c.args.rows.now.items c.args.from c.index_mut-row.result.now c.push.new.self c.index_mut-row.ensures.value c.in-Err.ensures.items
