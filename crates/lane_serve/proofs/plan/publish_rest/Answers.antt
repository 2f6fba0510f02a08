use Rattle.std.proofs.Common.{◌∙◌, subst, take, arith}
use Rattle.std.proofs.lemmas.List.{take_all}
use Rattle.edition_build.specs.Plans.{Takes}
use Rattle.lane_serve.proofs.Plans.{begins_taken, has_room, taken_all, taken_more}
use Rattle.lane_serve.proofs.plan.publish_rest.Goals as goal

pub take_item-requires-clause-room : goal.take_item-requires-clause-room
take_item-requires-clause-room g c κs within =
    has_room (g.F.Folder.files c.args.folder.now) c.args.building c.args.plan.now c.loop-i.i c.loop-i.outcomes.items (g.P.Publishes.list c.loop-i.publisher) c.loop-i.day
    c.loop-i.invariant.0 c.loop-i-test.true c.requires.plan

pub loop-i-preserved : goal.loop-i-preserved
loop-i-preserved g c =
    let inv = c.loop-i.invariant in
    let now = g.F.Folder.files c.loop-i.folder in
    let building = c.args.building in
    let item = c.index-plan-i.result in
    let os = c.loop-i.outcomes.items in
    let told = c.take_item.new.outcomes.items in
    let es = g.P.Publishes.list c.loop-i.publisher in
    let gone = g.P.Publishes.list c.in-Ok.next in
    let day = c.loop-i.day in
    let next = c.take_item.new.day in
    let taken = subst (λ x. Takes now building.options building.mirrored x es gone os told day next) c.index-plan-i.is c.in-Ok.ensures.taken in (
      taken_more (g.F.Folder.files c.args.folder.now) now building c.args.plan.now c.loop-i.i item os told es gone day next inv.1 inv.0 c.loop-i-test.true taken,
      c.take_item.ensures.files ∙ inv.1,
      c.in-Ok.ensures.faults ∙ inv.2,
    )

pub returns-clause-outcomes : goal.returns-clause-outcomes
returns-clause-outcomes g c =
    let over = c.loop-i-test.false in
    taken_all (g.F.Folder.files c.args.folder.now) c.args.building (take c.loop-i.i c.args.plan.now) c.args.plan.now c.loop-i.outcomes.items (g.P.Publishes.list c.loop-i.publisher) c.loop-i.day
    (take_all c.loop-i.i c.args.plan.now (omega (arith, over))) c.loop-i.invariant.0

pub returns-clause-begins : goal.returns-clause-begins
returns-clause-begins g c =
    begins_taken (g.F.Folder.files c.args.folder.now) c.args.building (take c.loop-i.i c.args.plan.now) c.loop-i.outcomes.items (g.P.Publishes.list c.loop-i.publisher) c.loop-i.day c.loop-i.invariant.0
