use Rattle.std.proofs.Common.{ℕ, suc, ap, refl, None}
use Rattle.std.proofs.lemmas.Option.{slice_get_within}
use Rattle.tb_base.specs.Network.{NetData}
use Rattle.tb_base.specs.BestValues.{QueryData}
use Rattle.segment_queue.specs.declared.notes.Note.{Note}
use Rattle.segment_queue.specs.Queue.{DeskData}
use Rattle.segment_queue.specs.Scans.{followed_seen, hops_seen}
use Rattle.earliest_query.specs.Noted.{note_of}
use Rattle.earliest_query.proofs.Following.{hop_boards, hop_in_set, hop_not_last, hop_trip}
use Rattle.earliest_query.proofs.Growing.{extends-refl}
use Rattle.earliest_query.proofs.NotedHops.{IsFrom, found, from_some}
use Rattle.earliest_query.proofs.Noting.{note_events}
use Rattle.earliest_query.proofs.SweptOnto.{swept_before}
use Rattle.earliest_query.proofs.search.Search.follow_level_hop.Goals as goal

pub is_passed-requires-clause-trip : goal.is_passed-requires-clause-trip
is_passed-requires-clause-trip g c =
    let N : NetData = g.S.Scan.net c.args.self.now.scan.now in
    let D : DeskData = c.args.desk.now in
    let note : Note = note_of c.args.segment c.args.followed.now in
    let f : IsFrom N D note c.args.hop = from_some N D c.args.level c.args.place note c.args.hop c.requires.note c.requires.hop in
    hop_trip N.table N.hops D D (suc c.args.level) note.segment f.at c.args.hop c.requires.sufficient c.requires.note.inside f.covers (extends-refl D (suc c.args.level)) f.in_set

pub is_passed-requires-clause-within : goal.is_passed-requires-clause-within
is_passed-requires-clause-within g c =
    let N : NetData = g.S.Scan.net c.args.self.now.scan.now in
    let D : DeskData = c.args.desk.now in
    let note : Note = note_of c.args.segment c.args.followed.now in
    let f : IsFrom N D note c.args.hop = from_some N D c.args.level c.args.place note c.args.hop c.requires.note c.requires.hop in
    c.requires.queue.within c.args.level c.args.hop.trip c.requires.level
    (hop_trip N.table N.hops D D (suc c.args.level) note.segment f.at c.args.hop c.requires.sufficient c.requires.note.inside f.covers (extends-refl D (suc c.args.level)) f.in_set)

pub returns-then-is_passed : goal.returns-then-is_passed
returns-then-is_passed g c =
    let N : NetData = g.S.Scan.net c.args.self.now.scan.now in
    let D : DeskData = c.args.desk.now in
    let note : Note = note_of c.args.segment c.args.followed.now in
    let f : IsFrom N D note c.args.hop = from_some N D c.args.level c.args.place note c.args.hop c.requires.note c.requires.hop in
    let Q : QueryData = c.args.self.now.query.now in
    let top : ℕ = suc c.args.level in
    let inside = hop_trip N.table N.hops D D (suc c.args.level) note.segment f.at c.args.hop c.requires.sufficient c.requires.note.inside f.covers (extends-refl D (suc c.args.level)) f.in_set in
    let not_last = hop_not_last N.table N.hops D D (suc c.args.level) note.segment f.at c.args.hop c.requires.sufficient c.requires.note.inside f.covers (extends-refl D (suc c.args.level)) f.in_set in
    record {
      queue = c.requires.queue;
      levels = refl;
      extends = extends-refl D top;
      reached = swept_before N Q D c.args.levels.now c.args.level c.args.hop.trip c.args.hop.at None c.soundness.ensures.divided inside c.requires.level c.requires.queue c.if-is_passed.ensures not_last;
      still = λ fits. fits;
    }

pub event_of-at-requires-clause-events : goal.event_of-at-requires-clause-events
event_of-at-requires-clause-events g c = note_events (g.S.Scan.net c.args.self.now.scan.now) c.args.desk.now.segments c.args.level (note_of c.args.segment c.args.followed.now) c.requires.queue.sound c.requires.note

pub event_of-at-requires-clause-place : goal.event_of-at-requires-clause-place
event_of-at-requires-clause-place g c = slice_get_within (hops_seen (g.S.Scan.net c.args.self.now.scan.now).hops (followed_seen c.args.followed.now)) c.args.place c.args.hop c.requires.hop

pub enter_level-requires-clause-round : goal.enter_level-requires-clause-round
enter_level-requires-clause-round g c = ap suc c.requires.note.this_round

pub enter_level-requires-clause-trip : goal.enter_level-requires-clause-trip
enter_level-requires-clause-trip g c =
    let N : NetData = g.S.Scan.net c.args.self.now.scan.now in
    let D : DeskData = c.args.desk.now in
    let note : Note = note_of c.args.segment c.args.followed.now in
    let told = c.event_of-at.ensures in
    let f = found N D c.args.level c.event_of-at.result note c.args.hop c.requires.note told.first told.last (told.hop c.args.hop c.requires.hop) in
    hop_trip N.table N.hops D D (suc c.args.level) note.segment c.event_of-at.result c.args.hop c.requires.sufficient c.requires.note.inside f.0 (extends-refl D (suc c.args.level)) f.1

pub enter_level-requires-clause-not_last : goal.enter_level-requires-clause-not_last
enter_level-requires-clause-not_last g c =
    let N : NetData = g.S.Scan.net c.args.self.now.scan.now in
    let D : DeskData = c.args.desk.now in
    let note : Note = note_of c.args.segment c.args.followed.now in
    let told = c.event_of-at.ensures in
    let f = found N D c.args.level c.event_of-at.result note c.args.hop c.requires.note told.first told.last (told.hop c.args.hop c.requires.hop) in
    hop_not_last N.table N.hops D D (suc c.args.level) note.segment c.event_of-at.result c.args.hop c.requires.sufficient c.requires.note.inside f.0 (extends-refl D (suc c.args.level)) f.1

pub enter_level-requires-clause-boards : goal.enter_level-requires-clause-boards
enter_level-requires-clause-boards g c =
    let N : NetData = g.S.Scan.net c.args.self.now.scan.now in
    let D : DeskData = c.args.desk.now in
    let note : Note = note_of c.args.segment c.args.followed.now in
    let told = c.event_of-at.ensures in
    let f = found N D c.args.level c.event_of-at.result note c.args.hop c.requires.note told.first told.last (told.hop c.args.hop c.requires.hop) in
    hop_boards N.table N.hops D D (suc c.args.level) note.segment c.event_of-at.result c.args.hop c.requires.sufficient c.requires.note.inside f.0 (extends-refl D (suc c.args.level)) f.1

pub enter_level-requires-clause-in_set : goal.enter_level-requires-clause-in_set
enter_level-requires-clause-in_set g c =
    let N : NetData = g.S.Scan.net c.args.self.now.scan.now in
    let D : DeskData = c.args.desk.now in
    let note : Note = note_of c.args.segment c.args.followed.now in
    let told = c.event_of-at.ensures in
    let f = found N D c.args.level c.event_of-at.result note c.args.hop c.requires.note told.first told.last (told.hop c.args.hop c.requires.hop) in
    hop_in_set N.table N.hops D D (suc c.args.level) note.segment c.event_of-at.result c.args.hop c.requires.sufficient c.requires.note.inside f.0 (extends-refl D (suc c.args.level)) f.1
