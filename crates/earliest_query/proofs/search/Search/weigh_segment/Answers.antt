use Rattle.std.proofs.Common.{◌≡◌, ◌∙◌, ℕ, ◌≤◌, inl, inr, List, ◌++◌, length, length-append, refl, sym, ap, subst, arith, Option, None, Some}
use Rattle.std.specs.Prelude.{All, Contains}
use Rattle.std.proofs.lemmas.List.Elements.{All-append, Contains-append_left, Contains-append_right}
use Rattle.tb_base.specs.Network.{NetData}
use Rattle.tb_base.specs.BestValues.{QueryData}
use Rattle.segment_queue.specs.declared.notes.Note.{Note}
use Rattle.segment_queue.specs.declared.seen.Seen.{Seen}
use Rattle.segment_queue.specs.Queue.{DeskData}
use Rattle.segment_queue.specs.Traced.{no_segment}
use Rattle.earliest_query.specs.Noted.{IsSoundNote, notes_of}
use Rattle.earliest_query.proofs.Noting.{weighed_off-kept}
use Rattle.earliest_query.proofs.search.Search.weigh_segment.Goals as goal

few_notes : (n : ℕ) (seen : Option Seen) → length (notes_of n seen) ≤ 1
few_notes n None = omega arith
few_notes n (Some seen) = omega arith

pub note_down-requires : goal.note_down-requires
note_down-requires g c =
    let sound = c.requires.queue.step.segments c.args.n no_segment c.requires.segment in
    omega (arith, c.requires.room, sound.onward)

pub returns : goal.returns
returns g c =
    let N : NetData = g.S.Scan.net c.args.self.now.scan.now in
    let Q : QueryData = c.args.self.now.query.now in
    let D : DeskData = c.args.desk.now in
    let F : DeskData = c.note_down.new.desk in
    let best = c.weigh_events-seen.new.best in
    let seen : List Note = notes_of c.args.n c.weigh_events-seen.result in
    let told = c.weigh_events-seen.ensures in
    let notes : F.notes ≡ D.notes ++ seen = ap (λ (d : DeskData). d.notes) c.note_down.ensures in
    let sound = c.requires.queue.step.segments c.args.n no_segment c.requires.segment in
    record {
      rest = c.note_down.ensures ∙ ap (λ ns. record D { notes = ns }) (sym notes);
      notes = subst (All (IsSoundNote N D.segments c.args.round)) (sym notes) (All-append (IsSoundNote N D.segments c.args.round) D.notes seen c.requires.notes told.seen);
      kept = λ note h. subst (λ ns. Contains ns note) (sym notes) (Contains-append_left D.notes seen note h);
      weighed = λ i covers. elim (told.weighed i covers) [
        | inl w ↦ inl (weighed_off-kept N Q D c.args.round c.args.n i best best seen F.notes c.requires.segment (λ note h. subst (λ ns. Contains ns note) (sym notes) (Contains-append_right D.notes seen note h)) (inl refl) w)
        | inr o ↦ inr o
      ];
      improved = told.improved;
      met = told.met;
      ready = told.ready;
      still_met = told.still_met;
      few = omega (arith, ap length notes, length-append D.notes seen, few_notes c.args.n c.weigh_events-seen.result, sound.onward);
      steps = told.steps;
    }
