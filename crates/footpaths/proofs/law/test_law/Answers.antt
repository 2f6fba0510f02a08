use Rattle.std.proofs.Common.{◌≡◌, ap, subst, ℕ, ◌≤◌, length, inl, inr, arith}
use Rattle.std.proofs.lemmas.Bool.{cases_lt}
use Rattle.std.proofs.lemmas.List.{length-map}
use Rattle.tb_base.specs.TimetableData.{FootpathData}
use Rattle.footpaths.specs.Law.{IsGood}
use Rattle.footpaths.proofs.LawLaws.{good_past, law_at}
use Rattle.footpaths.proofs.law.test_law.Goals as goal

pub loop-p-preserved : goal.loop-p-preserved
loop-p-preserved c = λ a b r h.
    elim (cases_lt a c.loop-p.p) [
      | inl l ↦ c.loop-p.invariant a b r l
      | inr n ↦
          let same : c.loop-p.p ≡ a = omega arith in
          let P' : ℕ → Type 0 = λ x. IsGood c.args.paths.now x b r in
          subst P' same (c.in_ok-test_from.ensures b r)
    ]

pub returns : goal.returns
returns c =
    let P = c.args.paths.now in
    let many = ap (λ (x : FootpathData). length x.paths) c.paths.view_is in
    let end : length P.paths ≤ c.loop-p.p = omega (arith, many, length-map c.paths.inside.paths.items (λ row. row.items), c.len-count.ensures, c.loop-p-test.false) in
    λ p q r s t away onward e f.
    law_at P p q r s t (elim (cases_lt p c.loop-p.p) [ inl l ↦ c.loop-p.invariant p q r l | inr n ↦ good_past P p q r (omega (arith, n, end)) ]) away onward e f
