use Rattle.std.proofs.Common.{◌≡◌, ◌∙◌, ℕ, suc, ◌-◌, inl, inr, length, refl, sym, ap, subst, arith, Some}
use Rattle.std.specs.Prelude.{Contains, slice_get}
use Rattle.std.proofs.lemmas.Bool.{cases_lt}
use Rattle.std.proofs.lemmas.Option.{slice_get-get_or}
use Rattle.tb_base.specs.Network.{NetData}
use Rattle.segment_queue.specs.declared.desk.Segment.{Segment}
use Rattle.segment_queue.specs.declared.notes.Note.{Note}
use Rattle.segment_queue.specs.declared.seen.Seen.{Seen}
use Rattle.segment_queue.specs.Queue.{DeskData}
use Rattle.transfer_pack.specs.Words.{lent}
use Rattle.segment_queue.specs.Scans.{hops_seen, seen_first, seen_last, seen_trip}
use Rattle.segment_queue.specs.Traced.{segment_of}
use Rattle.earliest_query.specs.Noted.{IsSoundNote}
use Rattle.earliest_query.specs.UnderWay.{AddsSegments, IsReachedBy}
use Rattle.earliest_query.proofs.Following.{in_all}
use Rattle.earliest_query.proofs.Growing.{extends-long, extends-reached, extends-refl, extends-round, extends-segment, extends-trans}
use Rattle.earliest_query.proofs.Noting.{note_events, sound_note-kept}
use Rattle.earliest_query.proofs.search.Search.follow_level.Goals as goal

pub hops_from-followed-requires : goal.hops_from-followed-requires
hops_from-followed-requires g c = note_events (g.S.Scan.net c.args.self.now.scan.now) c.args.desk.now.segments c.args.level c.args.note c.requires.queue.sound c.requires.note

pub loop-from-init : goal.loop-from-init
loop-from-init g c = record {
  queue = c.requires.queue;
  levels = refl;
  extends = extends-refl c.args.desk.now (suc c.args.level);
  still = λ fits. fits;
  places = refl;
  within = omega arith;
  reached = λ k h below got. absurd (omega (arith, below));
}

pub follow_level_some-requires-clause-queue : goal.follow_level_some-requires-clause-queue
follow_level_some-requires-clause-queue g c = c.loop-from.invariant.queue

pub follow_level_some-requires-clause-note : goal.follow_level_some-requires-clause-note
follow_level_some-requires-clause-note g c =
    let N : NetData = g.S.Scan.net c.args.self.now.scan.now in
    let E : DeskData = c.loop-from.desk in
    subst (λ (seen : Seen). IsSoundNote N E.segments c.args.level (record { segment = c.args.note.segment; seen = seen })) (sym c.hops_from-followed.ensures.seen)
    (sound_note-kept N c.args.desk.now E (suc c.args.level) c.args.level c.args.note c.loop-from.invariant.extends c.requires.note)

pub follow_level_some-requires-clause-hops : goal.follow_level_some-requires-clause-hops
follow_level_some-requires-clause-hops g c = c.hops_from-followed.ensures.hops ∙ ap (hops_seen (g.S.Scan.net c.args.self.now.scan.now).hops) (sym c.hops_from-followed.ensures.seen)

pub follow_level_some-requires-clause-to : goal.follow_level_some-requires-clause-to
follow_level_some-requires-clause-to g c = omega (arith, c.min-tried.ensures, c.count-count.ensures, c.loop-from-test.true)

pub follow_level_some-requires-clause-room : goal.follow_level_some-requires-clause-room
follow_level_some-requires-clause-room g c = omega (arith, c.min-tried.ensures, c.loop-from.invariant.places, c.requires.room)

pub loop-from-preserved : goal.loop-from-preserved
loop-from-preserved g c =
    let N : NetData = g.S.Scan.net c.args.self.now.scan.now in
    let top : ℕ = suc c.args.level in
    let E : DeskData = c.loop-from.desk in
    let F : DeskData = c.follow_level_some.new.desk in
    let on = c.in_ok-follow_level_some.ensures in
    let before = c.loop-from.invariant in
    let joined : AddsSegments E F top = on.extends in
    record {
      queue = on.queue;
      levels = on.levels ∙ before.levels;
      extends = extends-trans c.args.desk.now E F top before.extends joined;
      still = λ fits. c.follow_level_some.ensures.still (before.still fits);
      places = on.places ∙ before.places;
      within = omega (arith, c.min-tried.ensures, c.count-count.ensures, c.loop-from-test.true);
      reached = λ k h below got. elim (cases_lt k c.loop-from.from) [
        | inl earlier ↦ extends-reached N.table E F top (length E.segments) (length F.segments) top top h.trip h.at joined (before.reached k h earlier got) (omega arith) (extends-long E F top joined) (omega arith)
        | inr now ↦ on.reached k h now below got
      ];
    }

pub returns-clause-followed : goal.returns-clause-followed
returns-clause-followed g c = λ i of h in_set.
    let N : NetData = g.S.Scan.net c.args.self.now.scan.now in
    let D : DeskData = c.args.desk.now in
    let E : DeskData = c.loop-from.desk in
    let note : Note = c.args.note in
    let top : ℕ = suc c.args.level in
    let before = c.loop-from.invariant in
    let hops = lent c.hops_from-followed.result.hops in
    let same : segment_of E.segments note.segment ≡ segment_of D.segments note.segment = extends-segment D E top before.extends note.segment c.requires.note.inside in
    let here : Contains (N.hops (seen_trip note.seen) i) h
    = subst (λ t. Contains (N.hops t i) h) (sym c.requires.note.trip) (subst (λ (s : Segment). Contains (N.hops s.trip i) h) same in_set) in
    let found : Contains hops h
    = subst (λ hs. Contains hs h) (sym c.hops_from-followed.ensures.hops) (in_all (N.hops (seen_trip note.seen)) (seen_first note.seen) (suc (seen_last note.seen) - seen_first note.seen) i h of.from (omega (arith, of.to, c.requires.note.order)) here) in
    let got : slice_get hops found.0 ≡ Some h = slice_get-get_or hops found.0 h found.1 ∙ ap Some found.2 in
    let reached : IsReachedBy N.table E (length E.segments) top h.trip h.at = before.reached found.0 h (omega (arith, c.loop-from-test.false, c.count-count.ensures, found.1)) got in
    subst (λ r. IsReachedBy N.table E (length E.segments) r h.trip h.at) (ap suc (sym (extends-round D E top before.extends note.segment c.requires.note.inside ∙ c.requires.note.this_round))) reached
