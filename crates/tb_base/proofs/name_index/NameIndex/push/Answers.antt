use Rattle.std.proofs.Common.{◌≡◌, false}
use Rattle.tb_base.proofs.Added.{only_added}
use Rattle.tb_base.proofs.name_index.NameIndex.push.Goals as goal

pub returns : goal.returns
returns c = only_added c.in_ok-_fresh._fresh _ _ _ c.requires c.in_ok-_fresh.ensures.added c.in_ok-_fresh.ensures.fresh
