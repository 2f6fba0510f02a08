use Rattle.std.proofs.Common.{[], get_or, arith}
use Rattle.std.proofs.lemmas.Result.{err_from_is_err_and}
use Rattle.footpaths.proofs.LawLaws.{at_row, good_over, good_before}
use Rattle.footpaths.proofs.law.test_over.Goals as goal

pub test_one-requires-clause-second : goal.test_one-requires-clause-second
test_one-requires-clause-second c =
    let P = c.args.paths.now in
    let q = c.args.first.now.to in
    let lt = rw c.leaving-second-items.ensures at c.loop-second-test.true in
    let at = rw c.leaving-second-items.ensures at c.second-item.is in
    at_row (get_or P.paths q []) c.loop-second.second-index c.second-item.result (c.requires.sound.ascending q [] c.requires.to) lt at

pub returns-in_err-test_one : goal.returns-in_err-test_one
returns-in_err-test_one c =
    let P = c.args.paths.now in
    let q = c.args.first.now.to in
    let lt = rw c.leaving-second-items.ensures at c.loop-second-test.true in
    let at = rw c.leaving-second-items.ensures at c.second-item.is in
    let p = err_from_is_err_and c.from_residual.result c.from_residual.ensures.1 in
    rw (p.1, p.2) (record {
      r = c.second-item.result.to;
      breach = c.in_err-test_one.ensures;
      earlier_end = good_before P c.args.p q c.loop-second.second-index c.second-item.result (c.requires.sound.ascending q [] c.requires.to) lt at c.loop-second.invariant;
    })

pub returns : goal.returns
returns c =
    let P = c.args.paths.now in
    let q = c.args.first.now.to in
    let end = rw c.leaving-second-items.ensures at c.loop-second-test.false in
    good_over P c.args.p q (λ j d h. c.loop-second.invariant j d (omega (arith, h, end)))
