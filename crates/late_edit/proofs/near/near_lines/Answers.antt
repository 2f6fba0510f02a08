use Rattle.std.proofs.Common.{arith, ◌≡◌, length}
use Rattle.late_edit.proofs.near.near_lines.Goals as goal

pub returns : goal.returns
returns c =
    let inv = c.loop-number.invariant in
    let all : length c.args.lined.now.lines ≡ c.loop-number.number = omega (arith, c.loop-number-test.false, c.loop-number.auto.number-end, c.line_count-number-end.ensures) in
    record {
      long = omega (arith, inv.long, all);
      told = λ l inside. inv.told l (omega (arith, inside, all));
    }
