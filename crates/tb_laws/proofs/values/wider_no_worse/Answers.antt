use Rattle.tb_laws.proofs.WiderLaws.{wider_no_worse}
use Rattle.tb_laws.proofs.values.wider_no_worse.Goals as goal

pub returns : goal.returns
returns c = wider_no_worse
