use Rattle.std.proofs.Common.{◌≡◌, IfOk, subst, sym}
use Rattle.command_line.specs.Matrices.{matrix_request_from}
use Rattle.command_line.proofs.Days.{three_or_more, too_few_asked}
use Rattle.command_line.proofs.matrix.matrix_request_from.Goals as goal

pub returns-in-len3-up : goal.returns-in-len3-up
returns-in-len3-up c =
    subst (λ words. IfOk c.matrix_request.result (λ request. request ≡ matrix_request_from c.args.settings words))
    (sym (three_or_more c.args.words.now _ _ _ c.in-len3-up.len_at_least)) c.matrix_request.ensures

pub returns-in_default : goal.returns-in_default
returns-in_default c = too_few_asked c.args.settings c.args.words.now c.in_default.len_below
