use Rattle.std.proofs.Common.{◌∙◌, ◌∷◌, ◌++◌, ◌≤◌, ap, take, sym, length, arith}
use Rattle.std.proofs.lemmas.Grind.{common_steps}
use Rattle.text_lines.specs.Lines.{without_cr}
use Rattle.live_turns.specs.Coming.{begun_by, ended}
use Rattle.live_turns.proofs.Pieces.{fed_step, given_all, given_more, unfed}
use Rattle.live_turns.proofs.cutting.take_lines.Goals as goal

pub loop-fed-preserved : goal.loop-fed-preserved
loop-fed-preserved c =
    let m = c.args.most in
    let i = c.loop-fed.invariant in
    let short : length c.loop-fed.begun.items ≤ c.args.most = grind (arith, common_steps, i.2) in
    let cut = c.in-Some.ensures.cut in
    let next = c.end_line.new.begun.items in
    let none = c.in_ok-line.ensures.begun in
    let step = fed_step m c.loop-fed.begun.items _ c.in-Some.fed.rest.now c.loop-fed.text.now short cut.0 cut.1 in (
      given_more _ _ _ _ _ _ _ i.0 (step.0 ∙ ap (λ b. without_cr (take m (c.loop-fed.begun.items ++ c.in-Some.fed.line.now)) ∷ ended m b c.in-Some.fed.rest.now) (sym none)) c.in_ok-line.ensures.line c.in-Ok.ensures.items,
      i.1 ∙ step.1 ∙ ap (λ b. begun_by m b c.in-Some.fed.rest.now) (sym none),
      c.end_line.ensures.most,
    )

pub returns-in-Ok-go_on-clause-lines : goal.returns-in-Ok-go_on-clause-lines
returns-in-Ok-go_on-clause-lines c =
    let i = c.loop-fed.invariant in
    let short : length c.loop-fed.begun.items ≤ c.args.most = grind (arith, common_steps, i.2) in
    let end = unfed c.args.most c.loop-fed.begun.items c.loop-fed.text.now short c.in_default.ensures.cut in
    given_all _ _ _ i.0 end.0

pub returns-in-Ok-go_on-clause-begun : goal.returns-in-Ok-go_on-clause-begun
returns-in-Ok-go_on-clause-begun c =
    let i = c.loop-fed.invariant in
    let short : length c.loop-fed.begun.items ≤ c.args.most = grind (arith, common_steps, i.2) in
    let end = unfed c.args.most c.loop-fed.begun.items c.loop-fed.text.now short c.in_default.ensures.cut in
    c.in-Ok-go_on.ensures.kept ∙ sym (i.1 ∙ end.1)
