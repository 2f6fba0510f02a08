use Rattle.lane_serve.proofs.Causes.{outcome_each, told_fault}
use Rattle.lane_serve.proofs.run.serve.Goals as goal

pub returns-clause-refused : goal.returns-clause-refused
returns-clause-refused g c =
    told_fault c.asked_determined.ensures (g.F.Folder.files c.args.folder.now) c.args.options.now c.args.plan.now c.args.script.now _ _ _
    c.serve_plan.ensures.served c.serve_plan.ensures.fault

pub returns-clause-outcomes : goal.returns-clause-outcomes
returns-clause-outcomes g c =
    outcome_each (g.F.Folder.files c.args.folder.now) c.args.options.now c.args.plan.now c.args.script.now _ c.serve_plan.ensures.served
