use Rattle.std.proofs.Common.{◌≡◌, ◌∙◌, ap, sym, true, arith}
use Rattle.std.specs.Prelude.{bytes_eq, position}
use Rattle.std.proofs.lemmas.Grind.{common_steps}
use Rattle.gtfs_rows.specs.TransfersFile.{is_filled}
use Rattle.trip_table.proofs.TurnSteps.{base_none}
use Rattle.trip_table.proofs.turns.base_of.Goals as goal

pub returns-in-None : goal.returns-in-None
returns-in-None c =
    let filled : is_filled c.args.row.now.parent ≡ true = grind (arith, common_steps) in
    let parent : c.bytes-parent.result.now ≡ c.args.row.now.parent = grind (arith, common_steps) in
    base_none c.args.known.now c.args.row.now c.args.count c.requires.count filled (ap (λ id. position (bytes_eq id) c.args.known.now) (sym parent) ∙ sym c.find.ensures ∙ c.in-None.is)
