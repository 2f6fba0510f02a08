use Rattle.std.proofs.Common.{rules}
use Rattle.std.specs.Prelude.{Some, option_to_list}
use Rattle.edition_build.specs.Plans.{HasOutcome}
use Rattle.live_turns.proofs.LivePublisher.{stops_found}
use Rattle.live_turns.proofs.live.publisher.take_next.Goals as goal

pub returns-in-Err-clause-refused : goal.returns-in-Err-clause-refused
returns-in-Err-clause-refused g c =
    let files = g.F.Folder.files c.args.folder.now in
    let options = c.args.building.options in
    let mirrored = c.args.building.mirrored in
    let n = c.number-before.result in
    let item = c.args.item.now in
    let o = c.in-Ok.field-0.outcome in
    let added = option_to_list c.in-Ok.field-0.edition in
    let found : HasOutcome files options mirrored (Some c.args.day.now) n item o added = search rules in
    stops_found files options mirrored item n (g.P.Issues.list c.args.publisher) (g.E.Ends.list c.in-Err.left) c.args.day.now o added c.number-before.ensures found c.in-Err.ensures.refused
