use Rattle.std.proofs.Common.{◌∙◌, ◌++◌, ap}
use Rattle.transfer_pack.proofs.Descents.{left_before, run_hops}
use Rattle.transfer_pack.proofs.trip_hops.add_last.Goals as goal

pub returns-clause-left : goal.returns-clause-left
returns-clause-left c =
    left_before c.args.row.now c.args.at c.run_start-first.result c.args.left c.requires.row c.requires.left c.run_start-first.ensures.within c.run_start-first.ensures.here c.run_start-first.ensures.before

pub returns-clause-hops : goal.returns-clause-hops
returns-clause-hops c =
    c.in_ok-add_run.ensures ∙ ap (λ hs. c.args.hops.now ++ hs)
    (run_hops c.args.row.now c.args.at c.run_start-first.result c.args.left c.requires.row c.requires.left c.run_start-first.ensures.within c.run_start-first.ensures.here c.run_start-first.ensures.before c.part.result.now c.part.ensures)
