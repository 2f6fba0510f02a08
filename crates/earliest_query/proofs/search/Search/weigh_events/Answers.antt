use Rattle.std.proofs.Common.{◌≡◌, ℕ, ◌+◌, ◌<◌, ◌≤◌, ◌⊎◌, inl, inr, sym, ap, subst, refl, arith}
use Rattle.std.proofs.lemmas.Int.{ints}
use Rattle.std.proofs.lemmas.Option.{get_or_from_slice_get}
use Rattle.tb_base.specs.Network.{NetData}
use Rattle.tb_base.specs.TimetableData.{TimetableData}
use Rattle.tb_base.specs.BestValues.{QueryData}
use Rattle.tb_base.specs.Search.{IsReached}
use Rattle.tb_base.proofs.NumberFacts.{less_or_same}
use Rattle.segment_queue.specs.declared.desk.Segment.{Segment}
use Rattle.segment_queue.specs.Queue.{DeskData, IsSoundSegment}
use Rattle.segment_queue.specs.Traced.{no_segment, round_of, segment_of}
use Rattle.earliest_query.specs.Noted.{IsNoted, notes_of}
use Rattle.earliest_query.proofs.Following.{sound_event}
use Rattle.earliest_query.proofs.Noting.{IsWeighedAt, bounded_late, clipped_outdone, clipped_within, here_seen, improved_late, late_from, left_late, seen_behind, seen_more, seen_noted, seen_sound, weighed_on}
use Rattle.earliest_query.proofs.Reaching.{reached_all}
use Rattle.earliest_query.proofs.search.Search.weigh_events.Goals as goal

pub loop-before-init : goal.loop-before-init
loop-before-init g c =
    let same : segment_of c.args.desk.now.segments c.args.n ≡ c.in-Some.segment = get_or_from_slice_get c.args.desk.now.segments c.args.n c.in-Some.segment no_segment (sym c.in-Some.ensures) in
    let board = ap (λ (s : Segment). s.board) same in
    record {
      weighed = record { bounded = λ i above below. absurd (omega (arith, board, above, below)); improved = inl refl };
      seen = sym board;
      ready = c.requires.ready;
      met = λ i above below. absurd (omega (arith, board, above, below));
      still_met = λ t i r met. met;
      within = (let sound = c.requires.queue.step.segments c.args.n no_segment c.requires.segment in omega (arith, board, sound.onward));
      steps = omega (arith, board);
    }

pub visit-visit-requires-clause-trip : goal.visit-visit-requires-clause-trip
visit-visit-requires-clause-trip g c =
    let same : segment_of c.args.desk.now.segments c.args.n ≡ c.in-Some.segment = get_or_from_slice_get c.args.desk.now.segments c.args.n c.in-Some.segment no_segment (sym c.in-Some.ensures) in
    let sound = subst (IsSoundSegment (g.S.Scan.net c.args.self.now.scan.now).table) same (c.requires.queue.step.segments c.args.n no_segment c.requires.segment) in
    sound.trip

pub visit-visit-requires-clause-at : goal.visit-visit-requires-clause-at
visit-visit-requires-clause-at g c =
    let same : segment_of c.args.desk.now.segments c.args.n ≡ c.in-Some.segment = get_or_from_slice_get c.args.desk.now.segments c.args.n c.in-Some.segment no_segment (sym c.in-Some.ensures) in
    let sound = subst (IsSoundSegment (g.S.Scan.net c.args.self.now.scan.now).table) same (c.requires.queue.step.segments c.args.n no_segment c.requires.segment) in
    omega (arith, sound.within, c.loop-before-test.true, clipped_within (g.S.Scan.net c.args.self.now.scan.now) c.args.desk.now.marks c.in-Some.segment c.args.end (c.requires.clipped c.in-Some.segment (sym c.in-Some.ensures)))

pub meet-requires-clause-ready : goal.meet-requires-clause-ready
meet-requires-clause-ready g c = c.loop-before.invariant.ready c.args.round (omega arith)

pub meet-requires-clause-reached : goal.meet-requires-clause-reached
meet-requires-clause-reached g c =
    let same : segment_of c.args.desk.now.segments c.args.n ≡ c.in-Some.segment = get_or_from_slice_get c.args.desk.now.segments c.args.n c.in-Some.segment no_segment (sym c.in-Some.ensures) in
    let T : TimetableData = (g.S.Scan.net c.args.self.now.scan.now).table in
    let Q : QueryData = c.args.self.now.query.now in
    subst (λ r. IsReached T Q.from Q.leave r c.in-Some.segment.trip c.in-Some.segment.board) c.requires.round
    (subst (λ (s : Segment). IsReached T Q.from Q.leave (round_of c.args.desk.now.segments c.args.n) s.trip s.board) same
    (reached_all T Q c.args.desk.now.segments c.requires.queue.entered c.args.n c.requires.segment))

pub meet-requires-clause-trip : goal.meet-requires-clause-trip
meet-requires-clause-trip g c =
    let same : segment_of c.args.desk.now.segments c.args.n ≡ c.in-Some.segment = get_or_from_slice_get c.args.desk.now.segments c.args.n c.in-Some.segment no_segment (sym c.in-Some.ensures) in
    (subst (IsSoundSegment (g.S.Scan.net c.args.self.now.scan.now).table) same (c.requires.queue.step.segments c.args.n no_segment c.requires.segment)).trip

pub meet-requires-clause-at : goal.meet-requires-clause-at
meet-requires-clause-at g c =
    let same : segment_of c.args.desk.now.segments c.args.n ≡ c.in-Some.segment = get_or_from_slice_get c.args.desk.now.segments c.args.n c.in-Some.segment no_segment (sym c.in-Some.ensures) in
    let sound = subst (IsSoundSegment (g.S.Scan.net c.args.self.now.scan.now).table) same (c.requires.queue.step.segments c.args.n no_segment c.requires.segment) in
    omega (arith, sound.within, c.loop-before-test.true, clipped_within (g.S.Scan.net c.args.self.now.scan.now) c.args.desk.now.marks c.in-Some.segment c.args.end (c.requires.clipped c.in-Some.segment (sym c.in-Some.ensures)))

pub weigh-requires-clause-stop : goal.weigh-requires-clause-stop
weigh-requires-clause-stop g c =
    let T : TimetableData = (g.S.Scan.net c.args.self.now.scan.now).table in
    let same : segment_of c.args.desk.now.segments c.args.n ≡ c.in-Some.segment = get_or_from_slice_get c.args.desk.now.segments c.args.n c.in-Some.segment no_segment (sym c.in-Some.ensures) in
    let sound = subst (IsSoundSegment T) same (c.requires.queue.step.segments c.args.n no_segment c.requires.segment) in
    let event = sound_event T c.in-Some.segment.trip (c.loop-before.before + 1) c.soundness.ensures.sound sound.trip (omega (arith, sound.within, c.loop-before-test.true, clipped_within (g.S.Scan.net c.args.self.now.scan.now) c.args.desk.now.marks c.in-Some.segment c.args.end (c.requires.clipped c.in-Some.segment (sym c.in-Some.ensures)))) in
    omega (arith, c.visit-visit.ensures.stop, event.stop)

pub weigh-requires-clause-arr : goal.weigh-requires-clause-arr
weigh-requires-clause-arr g c =
    let T : TimetableData = (g.S.Scan.net c.args.self.now.scan.now).table in
    let same : segment_of c.args.desk.now.segments c.args.n ≡ c.in-Some.segment = get_or_from_slice_get c.args.desk.now.segments c.args.n c.in-Some.segment no_segment (sym c.in-Some.ensures) in
    let sound = subst (IsSoundSegment T) same (c.requires.queue.step.segments c.args.n no_segment c.requires.segment) in
    let event = sound_event T c.in-Some.segment.trip (c.loop-before.before + 1) c.soundness.ensures.sound sound.trip (omega (arith, sound.within, c.loop-before-test.true, clipped_within (g.S.Scan.net c.args.self.now.scan.now) c.args.desk.now.marks c.in-Some.segment c.args.end (c.requires.clipped c.in-Some.segment (sym c.in-Some.ensures)))) in
    omega (arith, ints, c.visit-visit.ensures.arr, event.waits, event.latest)

pub seen_on-requires : goal.seen_on-requires
seen_on-requires g c =
    let T : TimetableData = (g.S.Scan.net c.args.self.now.scan.now).table in
    let same : segment_of c.args.desk.now.segments c.args.n ≡ c.in-Some.segment = get_or_from_slice_get c.args.desk.now.segments c.args.n c.in-Some.segment no_segment (sym c.in-Some.ensures) in
    let look = c.visit-visit.ensures in
    seen_behind T (segment_of c.args.desk.now.segments c.args.n) c.loop-before.seen c.visit-visit.result.seen c.loop-before.before c.loop-before.invariant.seen
    (here_seen T (segment_of c.args.desk.now.segments c.args.n) c.in-Some.segment c.visit-visit.result.seen (c.loop-before.before + 1) same look.trip look.first look.last look.seen)

before_or_behind : (i e : ℕ) → (i ≤ e) ⊎ (e < i)
before_or_behind i e = grind arith

-- what was met up to one index stays so, and the next is met
met_on : (before after : ℕ → Type 0) → (board at : ℕ) → ((i : ℕ) → board < i → i ≤ at → before i) → ((i : ℕ) → before i → after i) → after (at + 1) → (i : ℕ) → board < i → i ≤ at + 1 → after i
met_on before after board at met kept here i above below = elim (less_or_same i (at + 1) below) [
  | inl earlier ↦ kept i (met i above (omega (arith, earlier)))
  | inr e ↦ subst after (sym e) here
]

pub loop-before-preserved : goal.loop-before-preserved
loop-before-preserved g c =
    let N : NetData = g.S.Scan.net c.args.self.now.scan.now in
    let Q : QueryData = c.args.self.now.query.now in
    let D : DeskData = c.args.desk.now in
    let n : ℕ = c.args.n in
    let at : ℕ = c.loop-before.before + 1 in
    let before = c.loop-before.invariant in
    let same : segment_of c.args.desk.now.segments c.args.n ≡ c.in-Some.segment = get_or_from_slice_get c.args.desk.now.segments c.args.n c.in-Some.segment no_segment (sym c.in-Some.ensures) in
    let w : IsWeighedAt N Q D n at c.args.round c.loop-before.best c.weigh.new.best
    = record {
      segment = c.in-Some.segment;
      is = same;
      inside = c.requires.segment;
      is_round = c.requires.round;
      onward = omega arith;
      within = omega (arith, c.loop-before-test.true, clipped_within (g.S.Scan.net c.args.self.now.scan.now) c.args.desk.now.marks c.in-Some.segment c.args.end (c.requires.clipped c.in-Some.segment (sym c.in-Some.ensures)));
      stop = c.visit-visit.result.stop;
      arr = c.visit-visit.result.arr;
      alight = c.visit-visit.result.alight;
      stop_is = c.visit-visit.ensures.stop;
      arr_is = c.visit-visit.ensures.arr;
      alight_is = c.visit-visit.ensures.alight;
      weighed = c.weigh.ensures;
    } in
    let look = c.visit-visit.ensures in
    let on = c.seen_on.ensures in
    record {
      weighed = weighed_on N Q D n c.loop-before.before c.args.round c.args.best.now c.loop-before.best c.weigh.new.best before.weighed w;
      seen = seen_more N.table (segment_of D.segments n) c.loop-before.seen c.visit-visit.result.seen c.seen_on.result c.loop-before.before before.seen
          (here_seen N.table (segment_of D.segments n) c.in-Some.segment c.visit-visit.result.seen at same look.trip look.first look.last look.seen) on.trip on.last on.first;
      ready = c.meet.ensures.ready;
      met = met_on (λ i. g.A.AtEvent.has_met c.loop-before.also N (segment_of D.segments n).trip i c.args.round) (λ i. g.A.AtEvent.has_met c.meet.new.self N (segment_of D.segments n).trip i c.args.round) (segment_of D.segments n).board c.loop-before.before
          before.met (λ i. c.meet.ensures.kept (segment_of D.segments n).trip i c.args.round) (subst (λ (s : Segment). g.A.AtEvent.has_met c.meet.new.self N s.trip at c.args.round) (sym same) c.meet.ensures.met);
      still_met = λ t i r was. c.meet.ensures.kept t i r (before.still_met t i r was);
      within = omega (arith, c.loop-before-test.true, clipped_within (g.S.Scan.net c.args.self.now.scan.now) c.args.desk.now.marks c.in-Some.segment c.args.end (c.requires.clipped c.in-Some.segment (sym c.in-Some.ensures)), ap (λ (s : Segment). s.end) same);
      steps = omega (arith, before.steps, look.step, ap (λ (s : Segment). s.board) same);
    }

pub returns-then-is_late : goal.returns-then-is_late
returns-then-is_late g c =
    let N : NetData = g.S.Scan.net c.args.self.now.scan.now in
    let Q : QueryData = c.args.self.now.query.now in
    let D : DeskData = c.args.desk.now in
    let n : ℕ = c.args.n in
    let at : ℕ = c.loop-before.before + 1 in
    let before = c.loop-before.invariant in
    let same : segment_of c.args.desk.now.segments c.args.n ≡ c.in-Some.segment = get_or_from_slice_get c.args.desk.now.segments c.args.n c.in-Some.segment no_segment (sym c.in-Some.ensures) in
    let whole = c.requires.queue.step.segments n no_segment c.requires.segment in
    let w : IsWeighedAt N Q D n at c.args.round c.loop-before.best c.weigh.new.best
    = record {
      segment = c.in-Some.segment;
      is = same;
      inside = c.requires.segment;
      is_round = c.requires.round;
      onward = omega arith;
      within = omega (arith, c.loop-before-test.true, clipped_within (g.S.Scan.net c.args.self.now.scan.now) c.args.desk.now.marks c.in-Some.segment c.args.end (c.requires.clipped c.in-Some.segment (sym c.in-Some.ensures)));
      stop = c.visit-visit.result.stop;
      arr = c.visit-visit.result.arr;
      alight = c.visit-visit.result.alight;
      stop_is = c.visit-visit.ensures.stop;
      arr_is = c.visit-visit.ensures.arr;
      alight_is = c.visit-visit.ensures.alight;
      weighed = c.weigh.ensures;
    } in
    let late = c.if-is_late.ensures.0 refl in
    let noted : (i : ℕ) → (segment_of D.segments n).board < i → i ≤ c.loop-before.before → IsNoted (notes_of n c.loop-before.seen) n i
    = λ i above below. seen_noted N.table (segment_of D.segments n) c.loop-before.seen n c.loop-before.before i before.seen above below in
    record {
      seen = seen_sound N D.segments (segment_of D.segments n) c.loop-before.seen n c.loop-before.before c.args.round refl c.requires.segment c.requires.round before.within before.seen;
      weighed = λ i covers. inl (record {
        left = left_late N Q D n c.loop-before.before c.args.round c.args.best.now c.loop-before.best c.weigh.new.best before.weighed w c.soundness.ensures.sound whole late (notes_of n c.loop-before.seen) noted i covers;
        bounded = bounded_late N Q D n c.loop-before.before c.args.round c.args.best.now c.loop-before.best c.weigh.new.best before.weighed w c.soundness.ensures.sound whole late i covers;
      });
      improved = improved_late N Q D n c.loop-before.before c.args.round c.args.best.now c.loop-before.best c.weigh.new.best before.weighed w c.soundness.ensures.sound whole late;
      met = λ i covers. elim (before_or_behind i c.loop-before.before) [
        | inl earlier ↦ inl (subst (λ r. g.A.AtEvent.has_met c.meet.new.self N (segment_of D.segments n).trip i r) (sym c.requires.round) (c.meet.ensures.kept (segment_of D.segments n).trip i c.args.round (before.met i covers.onward earlier)))
        | inr from ↦ inr (inl (late_from N Q D n c.loop-before.before c.args.round c.args.best.now c.loop-before.best c.weigh.new.best before.weighed w c.soundness.ensures.sound whole late i covers (omega (arith, from))))
      ];
      ready = c.meet.ensures.ready;
      still_met = λ t i r was. c.meet.ensures.kept t i r (before.still_met t i r was);
      steps = omega (arith, before.steps, c.visit-visit.ensures.step, ap (λ (s : Segment). s.board) same, ap (λ (s : Segment). s.end) same, c.loop-before-test.true, clipped_within (g.S.Scan.net c.args.self.now.scan.now) c.args.desk.now.marks c.in-Some.segment c.args.end (c.requires.clipped c.in-Some.segment (sym c.in-Some.ensures)));
    }

pub returns-clause-seen : goal.returns-clause-seen
returns-clause-seen g c =
    let N : NetData = g.S.Scan.net c.args.self.now.scan.now in
    let D : DeskData = c.args.desk.now in
    seen_sound N D.segments (segment_of D.segments c.args.n) c.loop-before.seen c.args.n c.loop-before.before c.args.round refl c.requires.segment c.requires.round c.loop-before.invariant.within c.loop-before.invariant.seen

pub returns-clause-weighed : goal.returns-clause-weighed
returns-clause-weighed g c = λ i covers.
    let D : DeskData = c.args.desk.now in
    let same : segment_of c.args.desk.now.segments c.args.n ≡ c.in-Some.segment = get_or_from_slice_get c.args.desk.now.segments c.args.n c.in-Some.segment no_segment (sym c.in-Some.ensures) in
    elim (before_or_behind i c.loop-before.before) [
      | inl within ↦ inl (record {
        left = inr (seen_noted (g.S.Scan.net c.args.self.now.scan.now).table (segment_of D.segments c.args.n) c.loop-before.seen c.args.n c.loop-before.before i c.loop-before.invariant.seen covers.onward within);
        bounded = c.loop-before.invariant.weighed.bounded i covers.onward within;
      })
      | inr past ↦ inr (clipped_outdone (g.S.Scan.net c.args.self.now.scan.now) c.args.self.now.query.now D c.args.n c.args.round c.args.end i c.in-Some.segment c.soundness.ensures.divided c.requires.queue c.requires.segment c.requires.round same (c.requires.clipped c.in-Some.segment (sym c.in-Some.ensures))
          (omega (arith, covers.within, ap (λ (s : Segment). s.end) same)) (omega (arith, past, c.loop-before-test.false)))
    ]

pub returns-clause-met : goal.returns-clause-met
returns-clause-met g c = λ i covers.
    let D : DeskData = c.args.desk.now in
    let same : segment_of c.args.desk.now.segments c.args.n ≡ c.in-Some.segment = get_or_from_slice_get c.args.desk.now.segments c.args.n c.in-Some.segment no_segment (sym c.in-Some.ensures) in
    elim (before_or_behind i c.loop-before.before) [
      | inl within ↦ inl (subst (λ r. g.A.AtEvent.has_met c.loop-before.also (g.S.Scan.net c.args.self.now.scan.now) (segment_of D.segments c.args.n).trip i r) (sym c.requires.round) (c.loop-before.invariant.met i covers.onward within))
      | inr past ↦ inr (inr (clipped_outdone (g.S.Scan.net c.args.self.now.scan.now) c.args.self.now.query.now D c.args.n c.args.round c.args.end i c.in-Some.segment c.soundness.ensures.divided c.requires.queue c.requires.segment c.requires.round same (c.requires.clipped c.in-Some.segment (sym c.in-Some.ensures))
          (omega (arith, covers.within, ap (λ (s : Segment). s.end) same)) (omega (arith, past, c.loop-before-test.false))))
    ]

pub returns-clause-improved : goal.returns-clause-improved
returns-clause-improved g c = c.loop-before.invariant.weighed.improved

pub returns-clause-steps : goal.returns-clause-steps
returns-clause-steps g c = omega (arith, c.loop-before.invariant.steps, c.loop-before.invariant.within)
