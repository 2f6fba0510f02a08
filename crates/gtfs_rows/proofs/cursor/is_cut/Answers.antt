use Rattle.std.proofs.Common.{◌≡◌, ◌≢◌, length, arith}
use Rattle.std.proofs.lemmas.Bool.Decides.{nat_tests}
use Rattle.gtfs_rows.proofs.CutTexts.{nothing_cut, empty_cut}
use Rattle.gtfs_rows.proofs.cursor.is_cut.Goals as goal

pub returns-then-is_empty : goal.returns-then-is_empty
returns-then-is_empty c = λ yes. let none : length c.args.text.now ≡ 0 = grind (arith, nat_tests, c.if-is_empty.ensures) in empty_cut c.args.text.now none

pub returns : goal.returns
returns c = λ yes.
    let some : length c.args.text.now ≢ 0 = grind (arith, nat_tests, c.if-is_empty.ensures) in
    nothing_cut c.args.text.now (omega (arith, some)) c.if-text-le32.false c.if-text-le32-2.false
