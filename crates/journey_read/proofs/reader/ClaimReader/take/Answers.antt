use Rattle.std.proofs.Common.{◌≡◌, ◌<◌, ◌∙◌, ◌∷◌, Some, length, ap, sym, subst, arith}
use Rattle.std.proofs.lemmas.Bool.Decides.{nat_tests}
use Rattle.text_lines.specs.LineWords.{line_words}
use Rattle.tb_base.specs.Refusals.{IsRefused}
use Rattle.journey_read.specs.Claims.{SoFar, claim_so_far}
use Rattle.journey_read.proofs.LineSteps.{has_words, words_found}
use Rattle.journey_read.proofs.reader.ClaimReader.take.Goals as goal

pub returns-in-Err-clause-reads : goal.returns-in-Err-clause-reads
returns-in-Err-clause-reads c = λ lines.
    let T = c.args.table.now in
    let words = c.as_slice.result.now in
    let some : 0 < length words = grind (arith, nat_tests, c.if-is_empty.ensures, c.as_slice.ensures.len) in
    let are : line_words c.args.text.now ≡ Some words = words_found _ _ c.in-Some.words words _ c.in_ok-words.ensures c.in-Some.is c.as_slice.ensures.value in
    subst (λ (s : SoFar). IsRefused (claim_so_far T s (c.args.text.now ∷ lines)) c.in-Err.refused) c.self.view_is
    (rw (has_words T c.self.inside.lines c.self.inside.claimed c.args.text.now lines words some are) (c.in-Err.ensures lines))

pub returns-clause-reads : goal.returns-clause-reads
returns-clause-reads c = λ lines.
    let T = c.args.table.now in
    let words = c.as_slice.result.now in
    let some : 0 < length words = grind (arith, nat_tests, c.if-is_empty.ensures, c.as_slice.ensures.len) in
    let are : line_words c.args.text.now ≡ Some words = words_found _ _ c.in-Some.words words _ c.in_ok-words.ensures c.in-Some.is c.as_slice.ensures.value in
    ap (λ (s : SoFar). claim_so_far T s (c.args.text.now ∷ lines)) (sym c.self.view_is)
    ∙ has_words T c.self.inside.lines c.self.inside.claimed c.args.text.now lines words some are ∙ c.in-Ok.ensures lines
