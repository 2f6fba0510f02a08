use Rattle.std.proofs.Common.{◌<◌, length, sym, subst, to_z, of_z, w32}
use Rattle.tb_base.specs.TimetableData.{TimetableData, events_of}
use Rattle.tb_base.proofs.Events.{MayBoard-inside}
use Rattle.earliest_query.proofs.LineBoarding.{boarding_facts}
use Rattle.query_gate.proofs.leaving.line_departure.Goals as goal

pub event-requires-clause-trip : goal.event-requires-clause-trip
event-requires-clause-trip g c =
    let T : TimetableData = (g.S.Scan.net c.args.scan.now).table in
    let facts = boarding_facts T (g.S.Scan.net c.args.scan.now).lines c.args.stop c.soundness.ensures.divided c.args.berth (to_z w32 (of_z w32 c.args.time)) c.in-Some.hop c.requires.berth (sym c.in-Some.ensures.hop) in
    subst (λ (U : TimetableData). c.in-Some.hop.trip < length U.trips) c.requires.table (MayBoard-inside T c.in-Some.hop.trip c.in-Some.hop.at facts.boards).0

pub event-requires-clause-at : goal.event-requires-clause-at
event-requires-clause-at g c =
    let T : TimetableData = (g.S.Scan.net c.args.scan.now).table in
    let facts = boarding_facts T (g.S.Scan.net c.args.scan.now).lines c.args.stop c.soundness.ensures.divided c.args.berth (to_z w32 (of_z w32 c.args.time)) c.in-Some.hop c.requires.berth (sym c.in-Some.ensures.hop) in
    subst (λ (U : TimetableData). c.in-Some.hop.at < length (events_of U c.in-Some.hop.trip)) c.requires.table (MayBoard-inside T c.in-Some.hop.trip c.in-Some.hop.at facts.boards).1
