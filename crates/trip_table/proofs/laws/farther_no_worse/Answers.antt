use Rattle.tb_laws.proofs.WiderLaws.{wider_no_worse}
use Rattle.trip_table.proofs.Farther.{farther_has_all}
use Rattle.trip_table.proofs.laws.farther_no_worse.Goals as goal

pub returns : goal.returns
returns c feed day near far T U sound nearer t u Q vs best v attained =
    wider_no_worse T U sound (farther_has_all feed day near far T U nearer t u) Q vs best v attained
