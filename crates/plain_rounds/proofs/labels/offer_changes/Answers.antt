use Rattle.std.proofs.Common.{refl}
use Rattle.tb_base.specs.Walking.{change}
use Rattle.plain_rounds.proofs.OfferLemmas.{own_and_footpaths, change-other}
use Rattle.plain_rounds.proofs.labels.offer_changes.Goals as goal

pub returns : goal.returns
returns c =
    own_and_footpaths c.args.table.now c.soundness.ensures c.args.from c.requires.from c.args.label c.args.labels.now c.offer_own.new.labels c.offer_footpaths.new.labels (change c.args.table.now c.args.from c.args.from) (λ q. change c.args.table.now c.args.from q)
    refl (λ q far. change-other c.args.table.now c.args.from q far) c.offer_own.ensures c.offer_footpaths.ensures
