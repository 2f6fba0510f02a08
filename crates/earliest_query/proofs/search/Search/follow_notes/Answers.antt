use Rattle.std.proofs.Common.{◌≡◌, ◌∙◌, ℕ, suc, ◌<◌, inl, inr, length, get_or, refl, sym, ap, subst, arith}
use Rattle.std.specs.Prelude.{slice_set}
use Rattle.std.proofs.lemmas.Option.{get_or_from_slice_get, slice_get_within}
use Rattle.tb_base.specs.Network.{NetData}
use Rattle.tb_base.specs.BestValues.{QueryData}
use Rattle.tb_base.proofs.NumberFacts.{below_or_at}
use Rattle.segment_queue.specs.declared.notes.Note.{Note}
use Rattle.segment_queue.specs.Queue.{DeskData, spent}
use Rattle.segment_queue.specs.Scans.{AreEvents}
use Rattle.earliest_query.specs.Noted.{IsOf, IsSoundNote}
use Rattle.earliest_query.specs.UnderWay.{AddsSegments, IsDone, IsQueue, room_of}
use Rattle.earliest_query.proofs.Growing.{extends-long, extends-refl, extends-trans}
use Rattle.earliest_query.proofs.Lateness.{done-kept}
use Rattle.earliest_query.proofs.Noting.{extends-notes, left_one_less, note_events, queue-notes, sound_note-kept}
use Rattle.earliest_query.proofs.search.Search.follow_notes.Goals as goal

pub loop-k-init : goal.loop-k-init
loop-k-init g c = record {
  queue = c.requires.queue;
  extends = extends-refl c.args.desk.now (suc c.args.round);
  room = refl;
  places = omega arith;
  left = record { long = refl; same = λ j d above. refl };
  done = λ j d i below of. absurd (omega (arith, below));
}

pub read_notes_ahead-requires : goal.read_notes_ahead-requires
read_notes_ahead-requires g c = λ j d from below.
    let N : NetData = g.S.Scan.net c.args.self.now.scan.now in
    let D : DeskData = c.args.desk.now in
    let left = c.loop-k.invariant.left in
    let inside : j < length D.notes = omega (arith, below, left.long) in
    subst (λ (note : Note). AreEvents N.table note.seen) (sym (left.same j d from))
    (note_events N D.segments c.args.round (get_or D.notes j d) c.requires.queue.step.segments (c.requires.notes j d inside))

pub take_note-note-requires : goal.take_note-note-requires
take_note-note-requires g c = omega (arith, c.loop-k-test.true, c.note_count-k-end.ensures, ap (λ (d : DeskData). length d.notes) c.read_notes_ahead.ensures, c.loop-k.invariant.left.long)

pub follow_note-requires-clause-queue : goal.follow_note-requires-clause-queue
follow_note-requires-clause-queue g c =
    let N : NetData = g.S.Scan.net c.args.self.now.scan.now in
    let Q : QueryData = c.args.self.now.query.now in
    let X : DeskData = c.read_notes_ahead.new.self in
    let top : ℕ = suc c.args.round in
    let before : IsQueue N Q X top = subst (λ d. IsQueue N Q d top) (sym c.read_notes_ahead.ensures) c.loop-k.invariant.queue in
    subst (λ d. IsQueue N Q d top) (sym c.take_note-note.ensures.spent) (queue-notes N Q X (slice_set X.notes c.loop-k.k (spent c.take_note-note.result)) top before)

pub follow_note-requires-clause-note : goal.follow_note-requires-clause-note
follow_note-requires-clause-note g c =
    let N : NetData = g.S.Scan.net c.args.self.now.scan.now in
    let D : DeskData = c.args.desk.now in
    let k : ℕ = c.loop-k.k in
    let note : Note = c.take_note-note.result in
    let L : DeskData = c.loop-k.desk in
    let X : DeskData = c.read_notes_ahead.new.self in
    let notes : X.notes ≡ L.notes = ap (λ (d : DeskData). d.notes) c.read_notes_ahead.ensures in
    let left = c.loop-k.invariant.left in
    let is : get_or D.notes k note ≡ note = sym (left.same k note (omega arith)) ∙ ap (λ ns. get_or ns k note) (sym notes) ∙ get_or_from_slice_get X.notes k note note c.take_note-note.ensures.taken in
    let inside : k < length D.notes = omega (arith, slice_get_within X.notes k note c.take_note-note.ensures.taken, ap length notes, left.long) in
    let sound : IsSoundNote N L.segments c.args.round note
    = sound_note-kept N D L (suc c.args.round) c.args.round note c.loop-k.invariant.extends (subst (IsSoundNote N D.segments c.args.round) is (c.requires.notes k note inside)) in
    subst (λ ss. IsSoundNote N ss c.args.round note) (sym (ap (λ (d : DeskData). d.segments) c.take_note-note.ensures.spent ∙ ap (λ (d : DeskData). d.segments) c.read_notes_ahead.ensures)) sound

pub loop-k-preserved : goal.loop-k-preserved
loop-k-preserved g c =
    let N : NetData = g.S.Scan.net c.args.self.now.scan.now in
    let Q : QueryData = c.args.self.now.query.now in
    let D : DeskData = c.args.desk.now in
    let L : DeskData = c.loop-k.desk in
    let X : DeskData = c.read_notes_ahead.new.self in
    let E : DeskData = c.take_note-note.new.self in
    let F : DeskData = c.follow_note.new.desk in
    let best = c.args.best.now in
    let k : ℕ = c.loop-k.k in
    let top : ℕ = suc c.args.round in
    let note : Note = c.take_note-note.result in
    let before = c.loop-k.invariant in
    let notes : X.notes ≡ L.notes = ap (λ (d : DeskData). d.notes) c.read_notes_ahead.ensures in
    let rest : AddsSegments X E top = subst (λ d. AddsSegments X d top) (sym c.take_note-note.ensures.spent) (extends-notes X (slice_set X.notes k (spent note)) top) in
    let step : AddsSegments L F top = extends-trans L E F top (subst (λ d. AddsSegments d E top) c.read_notes_ahead.ensures rest) c.follow_note.ensures.extends in
    let taken : E.notes ≡ slice_set L.notes k (spent note) = ap (λ (d : DeskData). d.notes) c.take_note-note.ensures.spent ∙ ap (λ ns. slice_set ns k (spent note)) notes in
    let inside : k < length D.notes = omega (arith, slice_get_within X.notes k note c.take_note-note.ensures.taken, ap length notes, before.left.long) in
    record {
      queue = c.follow_note.ensures.queue;
      extends = extends-trans D L F top before.extends step;
      room = c.follow_note.ensures.room ∙ ap room_of c.take_note-note.ensures.spent ∙ ap room_of c.read_notes_ahead.ensures ∙ before.room;
      places = omega (arith, before.places, c.follow_note.ensures.places);
      left = left_one_less D.notes L.notes F.notes k (spent note) before.left (c.follow_note.ensures.notes ∙ taken);
      done = λ j d i below of. elim (below_or_at j k below) [
        | inl earlier ↦ done-kept N Q L F top c.args.round (get_or D.notes j d).segment i best best step
            (let sound = c.requires.notes j d (omega (arith, earlier, inside)) in omega (arith, sound.inside, extends-long D L top before.extends)) (inl refl) (before.done j d i earlier of)
        | inr e ↦ (let is : note ≡ get_or D.notes j d = sym (get_or_from_slice_get X.notes k note d c.take_note-note.ensures.taken) ∙ ap (λ ns. get_or ns k d) notes ∙ before.left.same k d (omega arith) ∙ ap (λ m. get_or D.notes m d) (sym e) in
            subst (λ (x : Note). IsOf x x.segment i → IsDone N F best x.segment i) is (c.follow_note.ensures.done i) of)
      ];
    }

pub returns-clause-done : goal.returns-clause-done
returns-clause-done g c = λ note i h of.
    let D : DeskData = c.args.desk.now in
    subst (λ (x : Note). IsOf x x.segment i → IsDone (g.S.Scan.net c.args.self.now.scan.now) c.loop-k.desk c.args.best.now x.segment i) h.2 (c.loop-k.invariant.done h.0 note i (omega (arith, h.1, c.loop-k-test.false, c.note_count-k-end.ensures))) of
