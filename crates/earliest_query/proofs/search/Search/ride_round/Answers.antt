use Rattle.std.proofs.Common.{ℕ, suc, ◌<◌, inl, inr, length, refl, sym, subst, arith, ◌∙◌, ap}
use Rattle.std.specs.Prelude.{All}
use Rattle.tb_base.specs.Network.{NetData}
use Rattle.tb_base.specs.BestValues.{QueryData}
use Rattle.segment_queue.specs.Queue.{DeskData}
use Rattle.earliest_query.specs.Noted.{IsSoundNote}
use Rattle.earliest_query.specs.UnderWay.{AddsSegments, IsDone, IsQueue, room_of}
use Rattle.earliest_query.proofs.Growing.{extends-segment, extends-trans, outdone-kept, queue-later}
use Rattle.earliest_query.proofs.BestSoFar.{bounded-same, new_hit-kept}
use Rattle.earliest_query.proofs.Lateness.{done-kept}
use Rattle.earliest_query.proofs.Meeting.{met-kept}
use Rattle.earliest_query.proofs.Noting.{extends-notes, queue-notes}
use Rattle.earliest_query.proofs.search.Search.ride_round.Goals as goal

pub follow_notes-requires-clause-queue : goal.follow_notes-requires-clause-queue
follow_notes-requires-clause-queue g c =
    let N : NetData = g.S.Scan.net c.args.self.now.scan.now in
    let E : DeskData = c.weigh_round-best.new.desk in
    subst (λ d. IsQueue N c.args.self.now.query.now d (suc c.args.round)) (sym c.weigh_round-best.ensures.rest) (queue-notes N c.args.self.now.query.now c.args.desk.now E.notes (suc c.args.round) (queue-later N c.args.self.now.query.now c.args.desk.now c.args.round (suc c.args.round) (omega arith) c.requires.queue))

pub follow_notes-requires-clause-notes : goal.follow_notes-requires-clause-notes
follow_notes-requires-clause-notes g c =
    subst (λ (d : DeskData). All (IsSoundNote (g.S.Scan.net c.args.self.now.scan.now) d.segments c.args.round) c.weigh_round-best.new.desk.notes) (sym c.weigh_round-best.ensures.rest) c.weigh_round-best.ensures.notes

pub returns : goal.returns
returns g c =
    let N : NetData = g.S.Scan.net c.args.self.now.scan.now in
    let Q : QueryData = c.args.self.now.query.now in
    let D : DeskData = c.args.desk.now in
    let E : DeskData = c.weigh_round-best.new.desk in
    let F : DeskData = c.follow_notes.new.desk in
    let best = c.weigh_round-best.result in
    let told = c.weigh_round-best.ensures in
    let top : ℕ = suc c.args.round in
    let weighed : AddsSegments D E top = subst (λ d. AddsSegments D d top) (sym told.rest) (extends-notes D E.notes top) in
    let grown : AddsSegments D F top = extends-trans D E F top weighed c.follow_notes.ensures.extends in
    record {
      queue = c.follow_notes.ensures.queue;
      extends = grown;
      room = c.follow_notes.ensures.room ∙ ap room_of told.rest;
      ridden = λ n i from below covers.
          let inside : n < length D.segments = omega (arith, below, c.requires.to) in
          elim (told.weighed n i from below covers) [
            | inl w ↦ inl (record {
              done = elim w.left [
                | inl done ↦ done-kept N Q D F top c.args.round n i best best grown inside (inl refl) done
                | inr noted ↦ subst (λ m. IsDone N F best m i) noted.of.segment (c.follow_notes.ensures.done noted.by i noted.one (record { segment = refl; from = noted.of.from; to = noted.of.to }))
              ];
              bounded = bounded-same N.table Q D F best n i (sym (extends-segment D F top grown n inside)) w.bounded;
            })
            | inr o ↦ inr (outdone-kept N D F top n i grown inside o)
          ];
      improved = new_hit-kept N.table Q D F top c.args.round c.args.so_far best grown told.improved;
      met = λ n i from below covers. met-kept N Q D F top n i c.args.round best best (g.A.AtEvent.has_met c.weigh_round-best.new.also N) (g.A.AtEvent.has_met c.weigh_round-best.new.also N) (λ t j r met. met) grown (omega (arith, below, c.requires.to)) (inl refl) (told.met n i from below covers);
      ready = told.ready;
      still_met = told.still_met;
      steps = told.steps;
    }
