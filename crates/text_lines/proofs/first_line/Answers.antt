use Rattle.std.proofs.Common.{◌≡◌, ◌∙◌, ◌+◌, ◌-◌, ◌≢◌, suc, [], ◌∷◌, ap, sym, length, take, drop, arith}
use Rattle.std.proofs.lemmas.List.{length-drop, take_all}
use Rattle.std.proofs.lemmas.Bool.Decides.{nat_tests}
use Rattle.text_lines.specs.Lines.{lines_from, lines_of, without_cr}
use Rattle.text_lines.proofs.Cutting.{behind_place, cut, nothing, one_line, uncut}
use Rattle.text_lines.proofs.first_line.Goals as goal

pub returns-in-Some-clause-lines : goal.returns-in-Some-clause-lines
returns-in-Some-clause-lines c =
    let text = c.args.text.now in
    let at = c.in-Some.at in
    let found = c.in-Some.ensures in
    let whole : take (length text - (at + 1)) (drop (at + 1) text) ≡ drop (at + 1) text = take_all (length text - (at + 1)) (drop (at + 1) text) (omega (arith, length-drop (at + 1) text)) in
    let next : suc at ≡ at + 1 = omega arith in
    cut [] text at found.0.high (λ k lt is. found.0.before k (omega arith) lt is) found.1
    ∙ ap (λ n. without_cr (take at text) ∷ lines_from [] (drop n text)) next
    ∙ ap (λ line. line ∷ lines_from [] (drop (at + 1) text)) (sym c.without_cr.ensures)
    ∙ ap (λ rest. c.without_cr.result.now ∷ lines_of rest) (sym whole)

pub returns-in-None-clause-lines : goal.returns-in-None-clause-lines
returns-in-None-clause-lines c =
    let text = c.args.text.now in
    let some : length text ≢ 0 = grind (arith, nat_tests, c.if-is_empty.ensures) in
    let none : take (length text - length text) (drop (length text) text) ≡ [] = nothing (length text) text in
    uncut [] text (λ k lt is. c.in-None.ensures k (omega arith) lt is)
    ∙ one_line text (omega (arith, some))
    ∙ ap (λ line. line ∷ []) (sym c.without_cr-in-None.ensures)
    ∙ ap (λ rest. c.without_cr-in-None.result.now ∷ lines_of rest) (sym none)

pub returns-in-Some-clause-behind : goal.returns-in-Some-clause-behind
returns-in-Some-clause-behind c = behind_place c.args.text.now (c.in-Some.at + 1) (omega (arith, c.in-Some.ensures.0.high))

pub returns-in-None-clause-behind : goal.returns-in-None-clause-behind
returns-in-None-clause-behind c = behind_place c.args.text.now (length c.args.text.now) (omega arith)
