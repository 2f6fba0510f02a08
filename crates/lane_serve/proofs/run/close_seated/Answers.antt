use Rattle.lane_serve.proofs.Reports.{run_of_some}
use Rattle.lane_serve.proofs.run.close_seated.Goals as goal

pub reports_of-reports-requires-clause-run : goal.reports_of-reports-requires-clause-run
reports_of-reports-requires-clause-run g c =
    run_of_some c.args.lane.now.lines c.args.seated.caller.kept c.args.seated.replies c.in-Some.replies c.in-Some.is c.requires.run
