use Rattle.std.proofs.Common.{◌≡◌, ◌∙◌, ◌++◌, ◌-◌, length, replicate, ap, sym, subst, arith, None}
use Rattle.std.proofs.lemmas.Bool.{false≢true}
use Rattle.std.proofs.lemmas.List.{append-nil}
use Rattle.segment_queue.specs.contracts.desk.Desk.{the_view}
use Rattle.segment_queue.specs.Queue.{DeskData, Fits, IsInStep}
use Rattle.segment_queue.proofs.InStep.{desk_same, in_step-grown}
use Rattle.segment_queue.proofs.desk.Desk.make_room.Goals as goal

pub returns-in_err-make_room_for-clause-step : goal.returns-in_err-make_room_for-clause-step
returns-in_err-make_room_for-clause-step g c =
    λ N step. in_step-grown N (the_view c.self.inside) (the_view (record { marks = c.make_room.new.self; segments = c.make_room_for.new.items; hits = c.self.inside.hits; notes = c.self.inside.notes; ahead = c.self.inside.ahead })) _
    (subst (IsInStep N) (sym c.self.view_is) step) c.in_ok-make_room.ensures.room c.make_room_for.ensures.items c.make_room_for.ensures.grows (omega arith) (omega arith)

pub returns-in_err-make_room_for-2-clause-step : goal.returns-in_err-make_room_for-2-clause-step
returns-in_err-make_room_for-2-clause-step g c =
    λ N step. in_step-grown N (the_view c.self.inside) (the_view (record { marks = c.make_room.new.self; segments = c.make_room_for.new.items; hits = c.make_room_for-2.new.items; notes = c.self.inside.notes; ahead = c.self.inside.ahead })) _
    (subst (IsInStep N) (sym c.self.view_is) step) c.in_ok-make_room.ensures.room c.make_room_for.ensures.items c.make_room_for.ensures.grows c.make_room_for-2.ensures.grows (omega arith)

pub returns-in_err-make_room_for-3-clause-step : goal.returns-in_err-make_room_for-3-clause-step
returns-in_err-make_room_for-3-clause-step g c =
    λ N step. in_step-grown N (the_view c.self.inside) (the_view (record { marks = c.make_room.new.self; segments = c.make_room_for.new.items; hits = c.make_room_for-2.new.items; notes = c.make_room_for-3.new.items; ahead = c.self.inside.ahead })) _
    (subst (IsInStep N) (sym c.self.view_is) step) c.in_ok-make_room.ensures.room c.make_room_for.ensures.items c.make_room_for.ensures.grows c.make_room_for-2.ensures.grows c.make_room_for-3.ensures.grows

pub returns-clause-step : goal.returns-clause-step
returns-clause-step g c =
    λ N step. in_step-grown N (the_view c.self.inside) (the_view (record { marks = c.make_room.new.self; segments = c.make_room_for.new.items; hits = c.make_room_for-2.new.items; notes = c.make_room_for-3.new.items; ahead = c.self.inside.ahead })) _
    (subst (IsInStep N) (sym c.self.view_is) step) c.in_ok-make_room.ensures.room c.make_room_for.ensures.items c.make_room_for.ensures.grows c.make_room_for-2.ensures.grows c.make_room_for-3.ensures.grows

pub returns-in_err-make_room-clause-marks : goal.returns-in_err-make_room-clause-marks
returns-in_err-make_room-clause-marks g c =
    (0, c.in_err-make_room.ensures.memory ∙ ap (λ (d : DeskData). d.marks) c.self.view_is ∙ sym (append-nil c.args.self.now.marks))

pub returns-in_err-make_room_for-clause-marks : goal.returns-in_err-make_room_for-clause-marks
returns-in_err-make_room_for-clause-marks g c =
    (c.shape-shape.result.trips - length c.self.inside.marks, c.in_ok-make_room.ensures.room ∙ ap (λ (d : DeskData). d.marks ++ replicate (c.shape-shape.result.trips - length c.self.inside.marks) None) c.self.view_is)

pub returns-in_err-make_room_for-2-clause-marks : goal.returns-in_err-make_room_for-2-clause-marks
returns-in_err-make_room_for-2-clause-marks g c =
    (c.shape-shape.result.trips - length c.self.inside.marks, c.in_ok-make_room.ensures.room ∙ ap (λ (d : DeskData). d.marks ++ replicate (c.shape-shape.result.trips - length c.self.inside.marks) None) c.self.view_is)

pub returns-in_err-make_room_for-3-clause-marks : goal.returns-in_err-make_room_for-3-clause-marks
returns-in_err-make_room_for-3-clause-marks g c =
    (c.shape-shape.result.trips - length c.self.inside.marks, c.in_ok-make_room.ensures.room ∙ ap (λ (d : DeskData). d.marks ++ replicate (c.shape-shape.result.trips - length c.self.inside.marks) None) c.self.view_is)

pub returns-clause-marks : goal.returns-clause-marks
returns-clause-marks g c =
    (c.shape-shape.result.trips - length c.self.inside.marks, c.in_ok-make_room.ensures.room ∙ ap (λ (d : DeskData). d.marks ++ replicate (c.shape-shape.result.trips - length c.self.inside.marks) None) c.self.view_is)

pub returns-in_err-make_room-clause-ready : goal.returns-in_err-make_room-clause-ready
returns-in_err-make_room-clause-ready g c = λ fits.
    let was : Fits (g.S.Scan.net c.args.scan.now).table (the_view c.self.inside) = subst (Fits (g.S.Scan.net c.args.scan.now).table) (sym c.self.view_is) fits in
    absurd (false≢true (c.in_err-make_room.ensures.ready (omega (arith, was.trips, c.shape-shape.ensures.trips))))

pub returns-in_err-make_room_for-clause-ready : goal.returns-in_err-make_room_for-clause-ready
returns-in_err-make_room_for-clause-ready g c = λ fits.
    let was : Fits (g.S.Scan.net c.args.scan.now).table (the_view c.self.inside) = subst (Fits (g.S.Scan.net c.args.scan.now).table) (sym c.self.view_is) fits in
    absurd (false≢true (c.in_err-make_room_for.ensures.ready (omega (arith, was.segments, c.shape-shape.ensures.events))))

pub returns-in_err-make_room_for-2-clause-ready : goal.returns-in_err-make_room_for-2-clause-ready
returns-in_err-make_room_for-2-clause-ready g c = λ fits.
    let was : Fits (g.S.Scan.net c.args.scan.now).table (the_view c.self.inside) = subst (Fits (g.S.Scan.net c.args.scan.now).table) (sym c.self.view_is) fits in
    absurd (false≢true (c.in_err-make_room_for-2.ensures.ready (omega (arith, was.hits, c.shape-shape.ensures.events))))

pub returns-in_err-make_room_for-3-clause-ready : goal.returns-in_err-make_room_for-3-clause-ready
returns-in_err-make_room_for-3-clause-ready g c = λ fits.
    let was : Fits (g.S.Scan.net c.args.scan.now).table (the_view c.self.inside) = subst (Fits (g.S.Scan.net c.args.scan.now).table) (sym c.self.view_is) fits in
    absurd (false≢true (c.in_err-make_room_for-3.ensures.ready (omega (arith, was.notes, c.shape-shape.ensures.events))))

pub returns-in_err-make_room-clause-kept : goal.returns-in_err-make_room-clause-kept
returns-in_err-make_room-clause-kept g c = λ fits.
    let was : Fits (g.S.Scan.net c.args.scan.now).table (the_view c.self.inside) = subst (Fits (g.S.Scan.net c.args.scan.now).table) (sym c.self.view_is) fits in
    absurd (false≢true (c.in_err-make_room.ensures.ready (omega (arith, was.trips, c.shape-shape.ensures.trips))))

pub returns-in_err-make_room_for-clause-kept : goal.returns-in_err-make_room_for-clause-kept
returns-in_err-make_room_for-clause-kept g c = λ fits.
    let was : Fits (g.S.Scan.net c.args.scan.now).table (the_view c.self.inside) = subst (Fits (g.S.Scan.net c.args.scan.now).table) (sym c.self.view_is) fits in
    absurd (false≢true (c.in_err-make_room_for.ensures.ready (omega (arith, was.segments, c.shape-shape.ensures.events))))

pub returns-in_err-make_room_for-2-clause-kept : goal.returns-in_err-make_room_for-2-clause-kept
returns-in_err-make_room_for-2-clause-kept g c = λ fits.
    let was : Fits (g.S.Scan.net c.args.scan.now).table (the_view c.self.inside) = subst (Fits (g.S.Scan.net c.args.scan.now).table) (sym c.self.view_is) fits in
    absurd (false≢true (c.in_err-make_room_for-2.ensures.ready (omega (arith, was.hits, c.shape-shape.ensures.events))))

pub returns-in_err-make_room_for-3-clause-kept : goal.returns-in_err-make_room_for-3-clause-kept
returns-in_err-make_room_for-3-clause-kept g c = λ fits.
    let was : Fits (g.S.Scan.net c.args.scan.now).table (the_view c.self.inside) = subst (Fits (g.S.Scan.net c.args.scan.now).table) (sym c.self.view_is) fits in
    absurd (false≢true (c.in_err-make_room_for-3.ensures.ready (omega (arith, was.notes, c.shape-shape.ensures.events))))

pub returns-clause-kept : goal.returns-clause-kept
returns-clause-kept g c = λ fits.
    let was : Fits (g.S.Scan.net c.args.scan.now).table (the_view c.self.inside) = subst (Fits (g.S.Scan.net c.args.scan.now).table) (sym c.self.view_is) fits in
    let more : c.shape-shape.result.trips - length c.self.inside.marks ≡ 0 = omega (arith, was.trips, c.shape-shape.ensures.trips) in
    desk_same (the_view c.self.inside) (the_view (record { marks = c.make_room.new.self; segments = c.make_room_for.new.items; hits = c.make_room_for-2.new.items; notes = c.make_room_for-3.new.items; ahead = c.self.inside.ahead }))
    (c.in_ok-make_room.ensures.room ∙ ap (λ k. c.self.inside.marks ++ replicate k None) more ∙ append-nil c.self.inside.marks)
    c.make_room_for.ensures.items c.make_room_for-2.ensures.items c.make_room_for-3.ensures.items
    (c.make_room_for.ensures.kept (omega (arith, was.segments, c.shape-shape.ensures.events)))
    (c.make_room_for-2.ensures.kept (omega (arith, was.hits, c.shape-shape.ensures.events)))
    (c.make_room_for-3.ensures.kept (omega (arith, was.notes, c.shape-shape.ensures.events)))
    ∙ c.self.view_is
