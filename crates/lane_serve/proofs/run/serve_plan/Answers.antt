use Rattle.std.proofs.Common.{◌∷◌, [], subst, sym, take}
use Rattle.edition_build.specs.Plans.{outcome_of}
use Rattle.lane_serve.specs.Sides.{HasTakenSoFar}
use Rattle.lane_serve.proofs.Plans.{first_taken}
use Rattle.lane_serve.proofs.run.serve_plan.Goals as goal

pub serve_from-served-requires-clause-first : goal.serve_from-served-requires-clause-first
serve_from-served-requires-clause-first g c κs within =
    let e = c.in-Ok.edition in
    subst (λ f. HasTakenSoFar f c.args.building (take 1 c.args.plan.now) (outcome_of 1 e ∷ []) (e ∷ []) e) (sym c.build_day.ensures.files)
    (first_taken (g.F.Folder.files c.args.folder.now) c.args.building c.args.plan.now c.first_day.result.now e c.first_day.ensures c.in-Ok.ensures.built)
