use Rattle.std.proofs.Common.{◌≡◌, ◌∙◌, ap, sym, subst, ℕ, [], get_or, inl, inr, arith}
use Rattle.std.proofs.lemmas.Bool.{cases_lt}
use Rattle.std.proofs.lemmas.List.{get_or_default}
use Rattle.std.proofs.lemmas.Result.{err_from_is_err_and}
use Rattle.tb_base.specs.declared.table.Path.{Path}
use Rattle.footpaths.specs.Law.{IsGood}
use Rattle.footpaths.proofs.LawLaws.{at_row, good_from, good_middle}
use Rattle.footpaths.proofs.law.test_from.Goals as goal

pub test_over-requires-clause-first : goal.test_over-requires-clause-first
test_over-requires-clause-first c =
    let P = c.args.paths.now in
    let lt = rw c.leaving-first-items.ensures at c.loop-first-test.true in
    let at = rw c.leaving-first-items.ensures at c.first-item.is in
    at_row (get_or P.paths c.args.p []) c.loop-first.first-index c.first-item.result (c.requires.sound.ascending c.args.p [] c.requires.from) lt at

pub returns-in_err-test_over : goal.returns-in_err-test_over
returns-in_err-test_over c =
    let P = c.args.paths.now in
    let lt = rw c.leaving-first-items.ensures at c.loop-first-test.true in
    let at = rw c.leaving-first-items.ensures at c.first-item.is in
    let p = err_from_is_err_and c.from_residual.result c.from_residual.ensures.1 in
    rw (p.1, p.2) (record {
      q = c.first-item.result.to;
      over = c.in_err-test_over.ensures;
      earlier_middle = good_middle P c.args.p c.loop-first.first-index c.first-item.result (c.requires.sound.ascending c.args.p [] c.requires.from) lt at c.loop-first.invariant;
    })

pub loop-first-preserved : goal.loop-first-preserved
loop-first-preserved c =
    let P = c.args.paths.now in
    let row = get_or P.paths c.args.p [] in
    let i = c.loop-first.first-index in
    let f = c.first-item.result in
    let lt = rw c.leaving-first-items.ensures at c.loop-first-test.true in
    let at = rw c.leaving-first-items.ensures at c.first-item.is in
    λ j d r h.
    elim (cases_lt j i) [
      | inl b ↦ c.loop-first.invariant j d r b
      | inr n ↦
          let same : j ≡ i = omega arith in
          let to : Path.to f ≡ Path.to (get_or row j d) = ap (λ (g : Path). g.to) (at ∙ get_or_default row i f d lt) ∙ ap (λ (k : ℕ). Path.to (get_or row k d)) (sym same) in
          let P' : ℕ → Type 0 = λ x. IsGood P c.args.p x r in
          subst P' to (c.in_ok-test_over.ensures r)
    ]

pub returns : goal.returns
returns c =
    let P = c.args.paths.now in
    let end = rw c.leaving-first-items.ensures at c.loop-first-test.false in
    good_from P c.args.p (λ j d r h. c.loop-first.invariant j d r (omega (arith, h, end)))
