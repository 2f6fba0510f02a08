use Rattle.std.proofs.Common.{subst, sym}
use Rattle.edition_store.specs.Editions.{NetworkData}
use Rattle.edition_store.specs.Mirror.{IsMirror}
use Rattle.router_cli.proofs.AnswerLemmas.{mirror_serves}
use Rattle.router_cli.proofs.answers.mirror_text.Goals as goal

pub text_by-text-requires-clause-serves : goal.text_by-text-requires-clause-serves
text_by-text-requires-clause-serves g c =
    mirror_serves c.args.table.now c.network.result.now.table c.args.question.now c.requires.mirror
    (subst (λ (N : NetworkData). IsMirror c.args.table.now N.table) (sym c.network.ensures) c.in_ok-mirrored.ensures)
