use Rattle.std.proofs.Common.{◌≤◌, ◌++◌, ◌∷◌, [], ◌∙◌, refl, sym, ap, subst, arith}
use Rattle.tb_base.specs.Network.{NetData}
use Rattle.segment_queue.specs.contracts.desk.Desk.{the_view}
use Rattle.segment_queue.specs.Queue.{IsInStep, mark_of}
use Rattle.segment_queue.proofs.LineParts.{pairs_of}
use Rattle.segment_queue.proofs.InStep.{in_step-entered, segments_and_mark}
use Rattle.segment_queue.proofs.desk.Desk.enter.Goals as goal

pub push_within-requires : goal.push_within-requires
push_within-requires g c =
    let N : NetData = g.S.Scan.net c.args.scan.now in
    let step : IsInStep N (the_view c.self.inside) = subst (IsInStep N) (sym c.self.view_is) c.requires.step in
    let all = segments_and_mark N (the_view c.self.inside) step c.args.trip c.requires.trip in
    omega (arith, all, step.fits.segments, c.self.inside.segments.ok.0, c.mark_on-end.ensures, c.if-end-at.false)

pub lower_marks-requires-clause-falling : goal.lower_marks-requires-clause-falling
lower_marks-requires-clause-falling g c =
    let N : NetData = g.S.Scan.net c.args.scan.now in
    let step : IsInStep N (the_view c.self.inside) = subst (IsInStep N) (sym c.self.view_is) c.requires.step in
    pairs_of (λ t u. mark_of N.table c.self.inside.marks u ≤ mark_of N.table c.self.inside.marks t) c.args.trip N.lines step.falling

pub returns-clause-step : goal.returns-clause-step
returns-clause-step g c =
    let N : NetData = g.S.Scan.net c.args.scan.now in
    let step : IsInStep N (the_view c.self.inside) = subst (IsInStep N) (sym c.self.view_is) c.requires.step in
    in_step-entered N (the_view c.self.inside) (the_view (record { marks = c.lower_marks.new.marks; segments = c.push_within.new.items; hits = c.self.inside.hits; notes = c.self.inside.notes; ahead = c.self.inside.ahead })) c.args.trip c.args.at c.args.parent c.soundness.ensures.divided step c.requires.trip
    (omega (arith, c.mark_on-end.ensures, c.if-end-at.false))
    (record {
      segments = c.push_within.ensures.items ∙ ap (λ e. c.self.inside.segments.items ++ record { trip = c.args.trip; board = c.args.at; end = e; parent = c.args.parent } ∷ []) c.mark_on-end.ensures;
      marks = c.lower_marks.ensures.marks;
      trips = c.lower_marks.ensures.trips;
      hits = refl;
      notes = refl;
      segment_room = c.push_within.ensures.room;
      hit_room = refl;
      note_room = refl;
    })
