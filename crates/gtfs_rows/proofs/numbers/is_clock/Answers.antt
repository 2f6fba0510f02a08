use Rattle.std.proofs.Common.{◌∙◌, sym}
use Rattle.gtfs_rows.proofs.ClockTests.{clock_parts, clock_tested}
use Rattle.gtfs_rows.proofs.numbers.is_clock.Goals as goal

pub returns : goal.returns
returns c = λ yes. clock_parts c.args.text.now (sym (clock_tested c.args.text.now c.requires (λ i. (c.type_inv.text i).fits)) ∙ yes)
