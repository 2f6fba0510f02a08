use Rattle.std.proofs.Common.{◌≡◌, ◌∙◌, ℕ, ◌+◌, sym, ap, subst, arith}
use Rattle.std.proofs.lemmas.Int.{ints}
use Rattle.std.proofs.lemmas.Option.{get_or_from_slice_get}
use Rattle.tb_base.specs.TimetableData.{TimetableData, arrival_at, event_at, stop_at}
use Rattle.segment_queue.specs.declared.desk.Segment.{Segment}
use Rattle.segment_queue.specs.Queue.{DeskData, IsSoundSegment}
use Rattle.segment_queue.specs.Traced.{no_segment, segment_of}
use Rattle.earliest_query.proofs.Following.{sound_event}
use Rattle.reach_all.specs.Swept.{IsOfferedUpTo}
use Rattle.reach_all.proofs.Ridden.{offered_more, offered_none, offered_to}
use Rattle.reach_all.proofs.sweeping.offer_segment.Goals as goal

pub loop-before-init : goal.loop-before-init
loop-before-init g c =
    let T : TimetableData = (g.S.Scan.net c.args.scan.now).table in
    let D : DeskData = c.args.desk.now in
    let same : segment_of D.segments c.args.n ≡ c.in-Some.segment = get_or_from_slice_get D.segments c.args.n c.in-Some.segment no_segment (sym c.in-Some.ensures) in
    subst (λ (s : Segment). IsOfferedUpTo T D c.args.n s.board c.args.arrivals.now c.args.arrivals.now) same (offered_none T D c.args.n c.args.arrivals.now c.requires.stairs)

pub visit-visit-requires-clause-trip : goal.visit-visit-requires-clause-trip
visit-visit-requires-clause-trip g c =
    let same : segment_of c.args.desk.now.segments c.args.n ≡ c.in-Some.segment = get_or_from_slice_get c.args.desk.now.segments c.args.n c.in-Some.segment no_segment (sym c.in-Some.ensures) in
    let sound = subst (IsSoundSegment (g.S.Scan.net c.args.scan.now).table) same (c.requires.sound c.args.n no_segment c.requires.segment) in
    sound.trip

pub visit-visit-requires-clause-at : goal.visit-visit-requires-clause-at
visit-visit-requires-clause-at g c =
    let same : segment_of c.args.desk.now.segments c.args.n ≡ c.in-Some.segment = get_or_from_slice_get c.args.desk.now.segments c.args.n c.in-Some.segment no_segment (sym c.in-Some.ensures) in
    let sound = subst (IsSoundSegment (g.S.Scan.net c.args.scan.now).table) same (c.requires.sound c.args.n no_segment c.requires.segment) in
    omega (arith, sound.within, c.loop-before-test.true)

pub alight_soonest-requires-clause-stop : goal.alight_soonest-requires-clause-stop
alight_soonest-requires-clause-stop g c =
    let same : segment_of c.args.desk.now.segments c.args.n ≡ c.in-Some.segment = get_or_from_slice_get c.args.desk.now.segments c.args.n c.in-Some.segment no_segment (sym c.in-Some.ensures) in
    let sound = subst (IsSoundSegment (g.S.Scan.net c.args.scan.now).table) same (c.requires.sound c.args.n no_segment c.requires.segment) in
    let event = sound_event (g.S.Scan.net c.args.scan.now).table c.in-Some.segment.trip (c.loop-before.before + 1) c.soundness.ensures.sound sound.trip (omega (arith, sound.within, c.loop-before-test.true)) in
    omega (arith, c.visit-visit.ensures.stop, event.stop)

pub alight_soonest-requires-clause-arr : goal.alight_soonest-requires-clause-arr
alight_soonest-requires-clause-arr g c =
    let same : segment_of c.args.desk.now.segments c.args.n ≡ c.in-Some.segment = get_or_from_slice_get c.args.desk.now.segments c.args.n c.in-Some.segment no_segment (sym c.in-Some.ensures) in
    let sound = subst (IsSoundSegment (g.S.Scan.net c.args.scan.now).table) same (c.requires.sound c.args.n no_segment c.requires.segment) in
    let event = sound_event (g.S.Scan.net c.args.scan.now).table c.in-Some.segment.trip (c.loop-before.before + 1) c.soundness.ensures.sound sound.trip (omega (arith, sound.within, c.loop-before-test.true)) in
    omega (arith, ints, c.visit-visit.ensures.arr, event.waits, event.latest)

pub alight_soonest-requires-clause-each_stop : goal.alight_soonest-requires-clause-each_stop
alight_soonest-requires-clause-each_stop g c = c.loop-before.invariant.each_stop ∙ c.requires.each_stop

pub alight_soonest-requires-clause-stairs : goal.alight_soonest-requires-clause-stairs
alight_soonest-requires-clause-stairs g c = c.loop-before.invariant.stairs

pub loop-before-preserved : goal.loop-before-preserved
loop-before-preserved g c =
    let T : TimetableData = (g.S.Scan.net c.args.scan.now).table in
    let D : DeskData = c.args.desk.now in
    let n : ℕ = c.args.n in
    let at : ℕ = c.loop-before.before + 1 in
    let same : segment_of D.segments n ≡ c.in-Some.segment = get_or_from_slice_get D.segments n c.in-Some.segment no_segment (sym c.in-Some.ensures) in
    let look = c.visit-visit.ensures in
    offered_more T D n c.loop-before.before c.args.arrivals.now c.loop-before.arrivals c.alight_soonest.new.soonest c.loop-before.invariant
    (record { onward = omega (arith, ap (λ (s : Segment). s.board) same); within = omega (arith, ap (λ (s : Segment). s.end) same, c.loop-before-test.true) })
    c.visit-visit.result.stop c.visit-visit.result.arr c.visit-visit.result.alight
    (subst (λ (s : Segment). c.visit-visit.result.stop ≡ stop_at T s.trip at) (sym same) look.stop) (subst (λ (s : Segment). c.visit-visit.result.arr ≡ arrival_at T s.trip at) (sym same) look.arr)
    (subst (λ (s : Segment). c.visit-visit.result.alight ≡ (event_at T s.trip at).alight) (sym same) look.alight) c.alight_soonest.ensures

pub returns : goal.returns
returns g c =
    let T : TimetableData = (g.S.Scan.net c.args.scan.now).table in
    let D : DeskData = c.args.desk.now in
    let same : segment_of D.segments c.args.n ≡ c.in-Some.segment = get_or_from_slice_get D.segments c.args.n c.in-Some.segment no_segment (sym c.in-Some.ensures) in
    offered_to T D c.args.n c.loop-before.before (segment_of D.segments c.args.n).end c.args.arrivals.now c.loop-before.arrivals (omega (arith, ap (λ (s : Segment). s.end) same, c.loop-before-test.false)) c.loop-before.invariant
