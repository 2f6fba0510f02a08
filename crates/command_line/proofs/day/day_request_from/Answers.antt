use Rattle.std.proofs.Common.{◌≡◌, IfOk, subst, sym}
use Rattle.command_line.proofs.Days.{too_few}
use Rattle.command_line.specs.DayCommands.{day_request_from}
use Rattle.command_line.proofs.day.day_request_from.Goals as goal

pub returns-in-Some : goal.returns-in-Some
returns-in-Some c =
    subst (λ words. IfOk c.day_request.result (λ request. request ≡ day_request_from c.args.settings c.args.name.now words))
    (sym c.in-Some.ensures) c.day_request.ensures

pub returns-in-None : goal.returns-in-None
returns-in-None c = too_few c.args.settings c.args.name.now c.args.words.now c.in-None.ensures
