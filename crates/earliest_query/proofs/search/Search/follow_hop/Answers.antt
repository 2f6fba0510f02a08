use Rattle.std.proofs.Common.{ℕ, suc, length, refl, sym, ap, subst, None}
use Rattle.std.proofs.lemmas.Option.{slice_get_within}
use Rattle.tb_base.specs.Network.{NetData}
use Rattle.tb_base.specs.BestValues.{QueryData}
use Rattle.segment_queue.specs.declared.notes.Note.{Note}
use Rattle.segment_queue.specs.Queue.{DeskData}
use Rattle.segment_queue.specs.Scans.{followed_seen, hops_seen}
use Rattle.earliest_query.specs.Noted.{note_of}
use Rattle.earliest_query.specs.UnderWay.{AddsSegments, IsQueue, IsReachedBy}
use Rattle.earliest_query.proofs.Following.{hop_boards, hop_in_set, hop_not_last, hop_trip}
use Rattle.earliest_query.proofs.Growing.{extends-refl}
use Rattle.earliest_query.proofs.NotedHops.{IsFrom, found, from_some}
use Rattle.earliest_query.proofs.Noting.{note_events}
use Rattle.earliest_query.proofs.OneMore.{reached_before}
use Rattle.earliest_query.proofs.search.Search.follow_hop.Goals as goal

pub is_passed-requires-clause-step : goal.is_passed-requires-clause-step
is_passed-requires-clause-step g c = c.requires.queue.step

pub is_passed-requires-clause-trip : goal.is_passed-requires-clause-trip
is_passed-requires-clause-trip g c =
    let N : NetData = g.S.Scan.net c.args.self.now.scan.now in
    let D : DeskData = c.args.desk.now in
    let note : Note = note_of c.args.segment c.args.followed.now in
    let f : IsFrom N D note c.args.hop = from_some N D c.args.round c.args.place note c.args.hop c.requires.note c.requires.hop in
    hop_trip N.table N.hops D D (suc c.args.round) note.segment f.at c.args.hop c.requires.sufficient c.requires.note.inside f.covers (extends-refl D (suc c.args.round)) f.in_set

pub returns-then-is_passed : goal.returns-then-is_passed
returns-then-is_passed g c =
    let N : NetData = g.S.Scan.net c.args.self.now.scan.now in
    let Q : QueryData = c.args.self.now.query.now in
    let D : DeskData = c.args.desk.now in
    let note : Note = note_of c.args.segment c.args.followed.now in
    let top : ℕ = suc c.args.round in
    let f : IsFrom N D note c.args.hop = from_some N D c.args.round c.args.place note c.args.hop c.requires.note c.requires.hop in
    let inside = hop_trip N.table N.hops D D top note.segment f.at c.args.hop c.requires.sufficient c.requires.note.inside f.covers (extends-refl D top) f.in_set in
    let not_last = hop_not_last N.table N.hops D D top note.segment f.at c.args.hop c.requires.sufficient c.requires.note.inside f.covers (extends-refl D top) f.in_set in
    record {
      queue = c.requires.queue;
      extends = extends-refl D top;
      room = refl;
      notes = refl;
      reached = reached_before N Q D top c.args.hop.trip c.args.hop.at None c.soundness.ensures.divided inside c.requires.queue c.if-is_passed.ensures not_last;
    }

pub event_of-at-requires-clause-events : goal.event_of-at-requires-clause-events
event_of-at-requires-clause-events g c = note_events (g.S.Scan.net c.args.self.now.scan.now) c.args.desk.now.segments c.args.round (note_of c.args.segment c.args.followed.now) c.requires.queue.step.segments c.requires.note

pub event_of-at-requires-clause-place : goal.event_of-at-requires-clause-place
event_of-at-requires-clause-place g c = slice_get_within (hops_seen (g.S.Scan.net c.args.self.now.scan.now).hops (followed_seen c.args.followed.now)) c.args.place c.args.hop c.requires.hop

pub enter-requires-clause-queue : goal.enter-requires-clause-queue
enter-requires-clause-queue g c =
    subst (λ r. IsQueue (g.S.Scan.net c.args.self.now.scan.now) c.args.self.now.query.now c.args.desk.now (suc r)) (sym c.requires.note.this_round) c.requires.queue

pub enter-requires-clause-trip : goal.enter-requires-clause-trip
enter-requires-clause-trip g c =
    let N : NetData = g.S.Scan.net c.args.self.now.scan.now in
    let D : DeskData = c.args.desk.now in
    let note : Note = note_of c.args.segment c.args.followed.now in
    let told = c.event_of-at.ensures in
    let f = found N D c.args.round c.event_of-at.result note c.args.hop c.requires.note told.first told.last (told.hop c.args.hop c.requires.hop) in
    hop_trip N.table N.hops D D (suc c.args.round) note.segment c.event_of-at.result c.args.hop c.requires.sufficient c.requires.note.inside f.0 (extends-refl D (suc c.args.round)) f.1

pub enter-requires-clause-not_last : goal.enter-requires-clause-not_last
enter-requires-clause-not_last g c =
    let N : NetData = g.S.Scan.net c.args.self.now.scan.now in
    let D : DeskData = c.args.desk.now in
    let note : Note = note_of c.args.segment c.args.followed.now in
    let told = c.event_of-at.ensures in
    let f = found N D c.args.round c.event_of-at.result note c.args.hop c.requires.note told.first told.last (told.hop c.args.hop c.requires.hop) in
    hop_not_last N.table N.hops D D (suc c.args.round) note.segment c.event_of-at.result c.args.hop c.requires.sufficient c.requires.note.inside f.0 (extends-refl D (suc c.args.round)) f.1

pub enter-requires-clause-boards : goal.enter-requires-clause-boards
enter-requires-clause-boards g c =
    let N : NetData = g.S.Scan.net c.args.self.now.scan.now in
    let D : DeskData = c.args.desk.now in
    let note : Note = note_of c.args.segment c.args.followed.now in
    let told = c.event_of-at.ensures in
    let f = found N D c.args.round c.event_of-at.result note c.args.hop c.requires.note told.first told.last (told.hop c.args.hop c.requires.hop) in
    hop_boards N.table N.hops D D (suc c.args.round) note.segment c.event_of-at.result c.args.hop c.requires.sufficient c.requires.note.inside f.0 (extends-refl D (suc c.args.round)) f.1

pub enter-requires-clause-in_set : goal.enter-requires-clause-in_set
enter-requires-clause-in_set g c =
    let N : NetData = g.S.Scan.net c.args.self.now.scan.now in
    let D : DeskData = c.args.desk.now in
    let note : Note = note_of c.args.segment c.args.followed.now in
    let told = c.event_of-at.ensures in
    let f = found N D c.args.round c.event_of-at.result note c.args.hop c.requires.note told.first told.last (told.hop c.args.hop c.requires.hop) in
    hop_in_set N.table N.hops D D (suc c.args.round) note.segment c.event_of-at.result c.args.hop c.requires.sufficient c.requires.note.inside f.0 (extends-refl D (suc c.args.round)) f.1

pub returns : goal.returns
returns g c =
    let N : NetData = g.S.Scan.net c.args.self.now.scan.now in
    let D : DeskData = c.args.desk.now in
    let E : DeskData = c.enter.new.desk in
    let same = ap suc c.requires.note.this_round in
    record {
      queue = subst (λ r. IsQueue N c.args.self.now.query.now E r) same c.enter.ensures.queue;
      extends = subst (λ r. AddsSegments D E r) same c.enter.ensures.extends;
      room = c.enter.ensures.room;
      notes = c.enter.ensures.notes;
      reached = subst (λ r. IsReachedBy N.table E (length E.segments) r c.args.hop.trip c.args.hop.at) same c.enter.ensures.reached;
    }
