use Rattle.std.proofs.Common.{◌≡◌, ℕ, ◌+◌, ◌<◌, ◌≤◌, inl, inr, sym, ap, subst, refl, arith}
use Rattle.std.proofs.lemmas.Int.{ints}
use Rattle.std.proofs.lemmas.Option.{get_or_from_slice_get}
use Rattle.tb_base.specs.Network.{NetData}
use Rattle.tb_base.specs.BestValues.{QueryData}
use Rattle.segment_queue.specs.declared.desk.Segment.{Segment}
use Rattle.segment_queue.specs.Queue.{DeskData, IsSoundSegment}
use Rattle.segment_queue.specs.Traced.{no_segment, segment_of}
use Rattle.earliest_query.specs.Noted.{IsNoted, notes_of}
use Rattle.earliest_query.proofs.Following.{sound_event}
use Rattle.earliest_query.proofs.Noting.{IsWeighedAt, bounded_late, here_seen, improved_late, left_late, seen_behind, seen_more, seen_noted, seen_sound, weighed_on}
use Rattle.earliest_query.proofs.search.Search.weigh_level.Goals as goal

pub loop-before-init : goal.loop-before-init
loop-before-init g c =
    let same : segment_of c.args.desk.now.segments c.args.n ≡ c.in-Some.segment = get_or_from_slice_get c.args.desk.now.segments c.args.n c.in-Some.segment no_segment (sym c.in-Some.ensures) in
    let board = ap (λ (s : Segment). s.board) same in
    let whole = c.requires.sound c.args.n no_segment c.requires.segment in
    record {
      weighed = record { bounded = λ i above below. absurd (omega (arith, board, above, below)); improved = inl refl };
      seen = sym board;
      within = omega (arith, board, whole.onward);
    }

pub visit-visit-requires-clause-trip : goal.visit-visit-requires-clause-trip
visit-visit-requires-clause-trip g c =
    let same : segment_of c.args.desk.now.segments c.args.n ≡ c.in-Some.segment = get_or_from_slice_get c.args.desk.now.segments c.args.n c.in-Some.segment no_segment (sym c.in-Some.ensures) in
    let whole = subst (IsSoundSegment (g.S.Scan.net c.args.self.now.scan.now).table) same (c.requires.sound c.args.n no_segment c.requires.segment) in
    whole.trip

pub visit-visit-requires-clause-at : goal.visit-visit-requires-clause-at
visit-visit-requires-clause-at g c =
    let same : segment_of c.args.desk.now.segments c.args.n ≡ c.in-Some.segment = get_or_from_slice_get c.args.desk.now.segments c.args.n c.in-Some.segment no_segment (sym c.in-Some.ensures) in
    let whole = subst (IsSoundSegment (g.S.Scan.net c.args.self.now.scan.now).table) same (c.requires.sound c.args.n no_segment c.requires.segment) in
    omega (arith, whole.within, c.loop-before-test.true)

pub weigh-requires-clause-stop : goal.weigh-requires-clause-stop
weigh-requires-clause-stop g c =
    let same : segment_of c.args.desk.now.segments c.args.n ≡ c.in-Some.segment = get_or_from_slice_get c.args.desk.now.segments c.args.n c.in-Some.segment no_segment (sym c.in-Some.ensures) in
    let whole = subst (IsSoundSegment (g.S.Scan.net c.args.self.now.scan.now).table) same (c.requires.sound c.args.n no_segment c.requires.segment) in
    let event = sound_event (g.S.Scan.net c.args.self.now.scan.now).table c.in-Some.segment.trip (c.loop-before.before + 1) c.soundness.ensures.sound whole.trip (omega (arith, whole.within, c.loop-before-test.true)) in
    omega (arith, c.visit-visit.ensures.stop, event.stop)

pub weigh-requires-clause-arr : goal.weigh-requires-clause-arr
weigh-requires-clause-arr g c =
    let same : segment_of c.args.desk.now.segments c.args.n ≡ c.in-Some.segment = get_or_from_slice_get c.args.desk.now.segments c.args.n c.in-Some.segment no_segment (sym c.in-Some.ensures) in
    let whole = subst (IsSoundSegment (g.S.Scan.net c.args.self.now.scan.now).table) same (c.requires.sound c.args.n no_segment c.requires.segment) in
    let event = sound_event (g.S.Scan.net c.args.self.now.scan.now).table c.in-Some.segment.trip (c.loop-before.before + 1) c.soundness.ensures.sound whole.trip (omega (arith, whole.within, c.loop-before-test.true)) in
    omega (arith, ints, c.visit-visit.ensures.arr, event.waits, event.latest)

pub seen_on-requires : goal.seen_on-requires
seen_on-requires g c =
    let N : NetData = g.S.Scan.net c.args.self.now.scan.now in
    let same : segment_of c.args.desk.now.segments c.args.n ≡ c.in-Some.segment = get_or_from_slice_get c.args.desk.now.segments c.args.n c.in-Some.segment no_segment (sym c.in-Some.ensures) in
    let look = c.visit-visit.ensures in
    seen_behind N.table (segment_of c.args.desk.now.segments c.args.n) c.loop-before.seen c.visit-visit.result.seen c.loop-before.before c.loop-before.invariant.seen
    (here_seen N.table (segment_of c.args.desk.now.segments c.args.n) c.in-Some.segment c.visit-visit.result.seen (c.loop-before.before + 1) same look.trip look.first look.last look.seen)

pub loop-before-preserved : goal.loop-before-preserved
loop-before-preserved g c =
    let N : NetData = g.S.Scan.net c.args.self.now.scan.now in
    let Q : QueryData = c.args.self.now.query.now in
    let D : DeskData = c.args.desk.now in
    let n : ℕ = c.args.n in
    let at : ℕ = c.loop-before.before + 1 in
    let before = c.loop-before.invariant in
    let same : segment_of c.args.desk.now.segments c.args.n ≡ c.in-Some.segment = get_or_from_slice_get c.args.desk.now.segments c.args.n c.in-Some.segment no_segment (sym c.in-Some.ensures) in
    let w : IsWeighedAt N Q D n at c.args.round c.loop-before.best c.weigh.new.best
    = record {
      segment = c.in-Some.segment;
      is = same;
      inside = c.requires.segment;
      is_round = c.requires.round;
      onward = omega arith;
      within = omega (arith, c.loop-before-test.true);
      stop = c.visit-visit.result.stop;
      arr = c.visit-visit.result.arr;
      alight = c.visit-visit.result.alight;
      stop_is = c.visit-visit.ensures.stop;
      arr_is = c.visit-visit.ensures.arr;
      alight_is = c.visit-visit.ensures.alight;
      weighed = c.weigh.ensures;
    } in
    let look = c.visit-visit.ensures in
    let on = c.seen_on.ensures in
    record {
      weighed = weighed_on N Q D n c.loop-before.before c.args.round c.args.so_far c.loop-before.best c.weigh.new.best before.weighed w;
      seen = seen_more N.table (segment_of D.segments n) c.loop-before.seen c.visit-visit.result.seen c.seen_on.result c.loop-before.before before.seen
          (here_seen N.table (segment_of D.segments n) c.in-Some.segment c.visit-visit.result.seen at same look.trip look.first look.last look.seen) on.trip on.last on.first;
      within = omega (arith, c.loop-before-test.true, ap (λ (s : Segment). s.end) same);
    }

pub returns-then-is_late : goal.returns-then-is_late
returns-then-is_late g c =
    let N : NetData = g.S.Scan.net c.args.self.now.scan.now in
    let Q : QueryData = c.args.self.now.query.now in
    let D : DeskData = c.args.desk.now in
    let n : ℕ = c.args.n in
    let at : ℕ = c.loop-before.before + 1 in
    let before = c.loop-before.invariant in
    let same : segment_of c.args.desk.now.segments c.args.n ≡ c.in-Some.segment = get_or_from_slice_get c.args.desk.now.segments c.args.n c.in-Some.segment no_segment (sym c.in-Some.ensures) in
    let whole = c.requires.sound n no_segment c.requires.segment in
    let w : IsWeighedAt N Q D n at c.args.round c.loop-before.best c.weigh.new.best
    = record {
      segment = c.in-Some.segment;
      is = same;
      inside = c.requires.segment;
      is_round = c.requires.round;
      onward = omega arith;
      within = omega (arith, c.loop-before-test.true);
      stop = c.visit-visit.result.stop;
      arr = c.visit-visit.result.arr;
      alight = c.visit-visit.result.alight;
      stop_is = c.visit-visit.ensures.stop;
      arr_is = c.visit-visit.ensures.arr;
      alight_is = c.visit-visit.ensures.alight;
      weighed = c.weigh.ensures;
    } in
    let late = c.if-is_late.ensures.0 refl in
    let noted : (i : ℕ) → (segment_of D.segments n).board < i → i ≤ c.loop-before.before → IsNoted (notes_of n c.loop-before.seen) n i
    = λ i above below. seen_noted N.table (segment_of D.segments n) c.loop-before.seen n c.loop-before.before i before.seen above below in
    record {
      seen = seen_sound N D.segments (segment_of D.segments n) c.loop-before.seen n c.loop-before.before c.args.round refl c.requires.segment c.requires.round before.within before.seen;
      weighed = λ i covers. record {
        left = left_late N Q D n c.loop-before.before c.args.round c.args.so_far c.loop-before.best c.weigh.new.best before.weighed w c.soundness.ensures.sound whole late (notes_of n c.loop-before.seen) noted i covers;
        bounded = bounded_late N Q D n c.loop-before.before c.args.round c.args.so_far c.loop-before.best c.weigh.new.best before.weighed w c.soundness.ensures.sound whole late i covers;
      };
      improved = improved_late N Q D n c.loop-before.before c.args.round c.args.so_far c.loop-before.best c.weigh.new.best before.weighed w c.soundness.ensures.sound whole late;
    }

pub returns-clause-seen : goal.returns-clause-seen
returns-clause-seen g c =
    let N : NetData = g.S.Scan.net c.args.self.now.scan.now in
    let D : DeskData = c.args.desk.now in
    seen_sound N D.segments (segment_of D.segments c.args.n) c.loop-before.seen c.args.n c.loop-before.before c.args.round refl c.requires.segment c.requires.round c.loop-before.invariant.within c.loop-before.invariant.seen

pub returns-clause-weighed : goal.returns-clause-weighed
returns-clause-weighed g c = λ i covers.
    let D : DeskData = c.args.desk.now in
    let same : segment_of c.args.desk.now.segments c.args.n ≡ c.in-Some.segment = get_or_from_slice_get c.args.desk.now.segments c.args.n c.in-Some.segment no_segment (sym c.in-Some.ensures) in
    let within : i ≤ c.loop-before.before = omega (arith, covers.within, ap (λ (s : Segment). s.end) same, c.loop-before-test.false) in
    record {
      left = inr (seen_noted (g.S.Scan.net c.args.self.now.scan.now).table (segment_of D.segments c.args.n) c.loop-before.seen c.args.n c.loop-before.before i c.loop-before.invariant.seen covers.onward within);
      bounded = c.loop-before.invariant.weighed.bounded i covers.onward within;
    }

pub returns-clause-improved : goal.returns-clause-improved
returns-clause-improved g c = c.loop-before.invariant.weighed.improved
