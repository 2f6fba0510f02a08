use Rattle.std.proofs.Common.{◌≡◌, ◌∙◌, ℕ, ◌+◌, ◌-◌, ◌<◌, ◌⊎◌, inl, length, refl, sym, ap, subst, arith}
use Rattle.std.specs.Prelude.{All, Some, slice_get, slice_index_or}
use Rattle.std.proofs.lemmas.List.Elements.{All-nil}
use Rattle.std.proofs.lemmas.List.Sums.{sum_by_more, sum_by_more_le}
use Rattle.tb_base.specs.Network.{NetData}
use Rattle.segment_queue.specs.Queue.{DeskData, IsClipped, IsInStep, covered_indices}
use Rattle.segment_queue.specs.Traced.{no_segment, round_of, segment_of}
use Rattle.segment_queue.proofs.Totals.{last_le_events}
use Rattle.earliest_query.specs.Meeting.{IsMetInTime}
use Rattle.earliest_query.specs.Noted.{IsSoundNote, IsWeighedOff}
use Rattle.earliest_query.specs.UnderWay.{Covers, IsImproved, IsOutdone, IsQueue, covered_before}
use Rattle.earliest_query.proofs.Meeting.{met_one_more}
use Rattle.earliest_query.proofs.Noting.{improved_one_weighed, in_step-notes, queue-notes, weighed_one_more}
use Rattle.earliest_query.proofs.RoundWeighed.{AreWeighed}
use Rattle.earliest_query.proofs.search.Search.weigh_round.Goals as goal

pub clip_ahead-requires-clause-step : goal.clip_ahead-requires-clause-step
clip_ahead-requires-clause-step g c =
    let N : NetData = g.S.Scan.net c.args.self.now.scan.now in
    subst (IsInStep N) (sym c.loop-next.invariant.are.rest) (in_step-notes N c.args.desk.now c.loop-next.desk.notes c.requires.queue.step)

pub clip_ahead-requires-clause-to : goal.clip_ahead-requires-clause-to
clip_ahead-requires-clause-to g c = omega (arith, c.min-ahead.ensures, c.loop-next-test.true, c.requires.to, ap (λ (d : DeskData). length d.segments) c.loop-next.invariant.are.rest)

pub clip_ahead-requires-clause-room : goal.clip_ahead-requires-clause-room
clip_ahead-requires-clause-room g c = omega (arith, c.min-ahead.ensures, c.loop-next.invariant.room)

pub loop-next-init : goal.loop-next-init
loop-next-init g c =
    let emptied = c.clear_notes.ensures in
    let none = ap (λ (d : DeskData). d.notes) emptied in
    record {
      onward = omega arith;
      upto = c.requires.from;
      room = omega arith;
      are = record {
        rest = emptied ∙ ap (λ ns. record c.args.desk.now { notes = ns }) (sym none);
        sound = subst (All (IsSoundNote (g.S.Scan.net c.args.self.now.scan.now) c.args.desk.now.segments c.args.round)) (sym none) (All-nil (IsSoundNote (g.S.Scan.net c.args.self.now.scan.now) c.args.desk.now.segments c.args.round));
        weighed = λ n i from below covers. absurd (omega (arith, from, below));
        improved = inl refl;
        met = λ n i from below covers. absurd (omega (arith, from, below));
        ready = c.requires.ready;
        still_met = λ t i r met. met;
        few = omega (arith, ap length none);
        counted = omega arith;
      };
    }

pub loop-n-init : goal.loop-n-init
loop-n-init g c =
    let N : NetData = g.S.Scan.net c.args.self.now.scan.now in
    record {
      onward = omega arith;
      upto = omega arith;
      are = subst (λ d. AreWeighed N c.args.self.now.query.now c.args.desk.now c.args.from c.args.round c.args.so_far (g.A.AtEvent.has_met c.args.also.now N) (g.A.AtEvent.has_met c.loop-next.also N) (g.A.AtEvent.is_ready c.loop-next.also N c.args.self.now.query.now) c.args.steps.now d c.loop-next.best c.loop-next.steps c.loop-next.next)
          (sym c.clip_ahead.ensures.same) c.loop-next.invariant.are;
    }

pub weigh_segment-requires-clause-queue : goal.weigh_segment-requires-clause-queue
weigh_segment-requires-clause-queue g c =
    let N : NetData = g.S.Scan.net c.args.self.now.scan.now in
    let Q = c.args.self.now.query.now in
    subst (λ d. IsQueue N Q d c.args.round) (sym c.loop-n.invariant.are.rest) (queue-notes N Q c.args.desk.now c.loop-n.desk.notes c.args.round c.requires.queue)

pub weigh_segment-requires-clause-segment : goal.weigh_segment-requires-clause-segment
weigh_segment-requires-clause-segment g c = omega (arith, c.loop-n-test.true, c.min-ahead.ensures, c.loop-next-test.true, c.requires.to, ap (λ (d : DeskData). length d.segments) c.loop-n.invariant.are.rest)

pub weigh_segment-requires-clause-round : goal.weigh_segment-requires-clause-round
weigh_segment-requires-clause-round g c =
    ap (λ (d : DeskData). round_of d.segments c.loop-n.n) c.loop-n.invariant.are.rest ∙ c.requires.rounds c.loop-n.n (omega (arith, c.loop-next.invariant.onward, c.loop-n.invariant.onward)) (omega (arith, c.loop-n-test.true, c.min-ahead.ensures, c.loop-next-test.true))

pub weigh_segment-requires-clause-room : goal.weigh_segment-requires-clause-room
weigh_segment-requires-clause-room g c =
    let N : NetData = g.S.Scan.net c.args.self.now.scan.now in
    let D : DeskData = c.args.desk.now in
    omega (
      arith,
      c.loop-n.invariant.are.few,
      ap (λ (d : DeskData). covered_indices (segment_of d.segments c.loop-n.n)) c.loop-n.invariant.are.rest,
      ap (λ (d : DeskData). d.note_room) c.loop-n.invariant.are.rest,
      sum_by_more_le covered_indices D.segments c.loop-n.n no_segment (omega (arith, c.loop-n-test.true, c.min-ahead.ensures, c.loop-next-test.true, c.requires.to)),
      c.requires.queue.step.counted,
      last_le_events N.table,
      c.requires.queue.step.fits.notes,
    )

pub weigh_segment-requires-clause-notes : goal.weigh_segment-requires-clause-notes
weigh_segment-requires-clause-notes g c =
    subst (λ (d : DeskData). All (IsSoundNote (g.S.Scan.net c.args.self.now.scan.now) d.segments c.args.round) c.loop-n.desk.notes) (sym c.loop-n.invariant.are.rest) c.loop-n.invariant.are.sound

pub weigh_segment-requires-clause-clipped : goal.weigh_segment-requires-clause-clipped
weigh_segment-requires-clause-clipped g c = λ s is.
    let N : NetData = g.S.Scan.net c.args.self.now.scan.now in
    let rest = c.loop-n.invariant.are.rest in
    let earlier = c.loop-next.invariant.are.rest in
    let marks : c.loop-n.desk.marks ≡ c.loop-next.desk.marks = ap (λ (d : DeskData). d.marks) rest ∙ sym (ap (λ (d : DeskData). d.marks) earlier) in
    let segments : c.loop-n.desk.segments ≡ c.loop-next.desk.segments = ap (λ (d : DeskData). d.segments) rest ∙ sym (ap (λ (d : DeskData). d.segments) earlier) in
    subst (λ ms. IsClipped N ms s (slice_index_or c.clip_ahead.new.ends (c.loop-n.n - c.loop-next.next) 0)) (sym marks)
    (c.clip_ahead.ensures.clipped c.loop-n.n s c.loop-n.invariant.onward c.loop-n-test.true (subst (λ ss. slice_get ss c.loop-n.n ≡ Some s) segments is))

pub loop-n-preserved : goal.loop-n-preserved
loop-n-preserved g c =
    let N : NetData = g.S.Scan.net c.args.self.now.scan.now in
    let Q = c.args.self.now.query.now in
    let D : DeskData = c.args.desk.now in
    let E : DeskData = c.loop-n.desk in
    let before = c.loop-n.invariant.are in
    let rest : E ≡ record D { notes = E.notes } = before.rest in
    let F : DeskData = c.weigh_segment.new.desk in
    let k : ℕ = c.loop-n.n in
    let result = c.weigh_segment.new.best in
    let told = c.weigh_segment.ensures in
    let inside : k < length D.segments = omega (arith, c.loop-n-test.true, c.min-ahead.ensures, c.loop-next-test.true, c.requires.to) in
    let weighed : (i : ℕ) → Covers (record D { notes = E.notes }) k i → IsWeighedOff N Q (record D { notes = E.notes }) result F.notes k i ⊎ IsOutdone N D.segments k i
    = subst (λ (d : DeskData). (i : ℕ) → Covers d k i → IsWeighedOff N Q d result F.notes k i ⊎ IsOutdone N d.segments k i) rest told.weighed in
    let improved : IsImproved N.table Q (record D { notes = E.notes }) c.args.round c.loop-n.best result = subst (λ d. IsImproved N.table Q d c.args.round c.loop-n.best result) rest told.improved in
    let covered = ap (λ (d : DeskData). covered_indices (segment_of d.segments k)) rest in
    record {
      onward = omega (arith, c.loop-n.invariant.onward);
      upto = omega (arith, c.loop-n-test.true);
      are = record {
        rest = told.rest ∙ ap (λ (d : DeskData). record d { notes = F.notes }) rest;
        sound = subst (λ (d : DeskData). All (IsSoundNote N d.segments c.args.round) F.notes) rest told.notes;
        weighed = weighed_one_more N Q D E.notes F.notes c.args.from k c.args.round c.args.so_far c.loop-n.best result inside told.kept improved before.weighed weighed;
        improved = improved_one_weighed N Q D E.notes F.notes c.args.from k c.args.round c.args.so_far c.loop-n.best result inside told.kept improved before.improved;
        met = met_one_more N Q D E.notes c.args.from k c.args.round c.loop-n.best result inside improved (g.A.AtEvent.has_met c.loop-n.also N) (g.A.AtEvent.has_met c.weigh_segment.new.also N) told.still_met before.met
            (subst (λ (d : DeskData). (i : ℕ) → Covers d k i → IsMetInTime N (g.A.AtEvent.has_met c.weigh_segment.new.also N) d result k i) rest told.met);
        ready = told.ready;
        still_met = λ t i r was. told.still_met t i r (before.still_met t i r was);
        few = omega (arith, before.few, told.few, covered, sum_by_more covered_indices D.segments k no_segment inside);
        counted = omega (arith, before.counted, told.steps, covered, sum_by_more covered_indices D.segments k no_segment inside);
      };
    }

pub loop-next-preserved : goal.loop-next-preserved
loop-next-preserved g c =
    let D : DeskData = c.args.desk.now in
    let w = c.loop-n.invariant.are in
    let stop : ℕ = c.loop-next.next + c.min-ahead.result in
    let there : c.loop-n.n ≡ stop = omega (arith, c.loop-n-test.false, c.loop-n.invariant.upto) in
    let covered : covered_before D.segments c.loop-n.n ≡ covered_before D.segments stop = ap (covered_before D.segments) there in
    record {
      onward = omega (arith, c.loop-next.invariant.onward);
      upto = omega (arith, c.min-ahead.ensures, c.loop-next-test.true);
      room = omega (arith, c.loop-next.invariant.room, c.clip_ahead.ensures.long);
      are = record {
        rest = w.rest;
        sound = w.sound;
        weighed = λ n i from below covers. w.weighed n i from (omega (arith, below, there)) covers;
        improved = w.improved;
        met = λ n i from below covers. w.met n i from (omega (arith, below, there)) covers;
        ready = w.ready;
        still_met = w.still_met;
        few = omega (arith, w.few, covered);
        counted = omega (arith, w.counted, covered);
      };
    }

pub returns : goal.returns
returns g c =
    let D : DeskData = c.args.desk.now in
    let w = c.loop-next.invariant.are in
    let there : c.loop-next.next ≡ c.args.to = omega (arith, c.loop-next-test.false, c.loop-next.invariant.upto) in
    record {
      rest = w.rest;
      notes = w.sound;
      weighed = λ n i from below covers. w.weighed n i from (omega (arith, below, there)) covers;
      improved = w.improved;
      met = λ n i from below covers. w.met n i from (omega (arith, below, there)) covers;
      ready = w.ready;
      still_met = w.still_met;
      steps = omega (arith, w.counted, ap (covered_before D.segments) there);
    }
